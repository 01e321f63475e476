use Rattle.std.proofs.Common.{drop, ap, ◌∙◌, arith}
use Rattle.std.proofs.lemmas.List.{length-drop, take_rest}
use Rattle.texts.specs.Texts.{SLASH, until}
use Rattle.texts.proofs.ByteLoops.{until_le}
use Rattle.texts.proofs.piece.piece_len.Goals as goal

pub returns : goal.returns
returns c =
    let rest = drop c.args.start c.args.text.now in
    let size = c.position.ensures.stands_before_the_first ∙ ap (until SLASH) (take_rest c.args.text.now c.args.start) in
    record { up_to_the_slash = size; ends_within_the_text = omega (arith, size, until_le SLASH rest, length-drop c.args.start c.args.text.now) }
