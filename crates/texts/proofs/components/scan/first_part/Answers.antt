use Rattle.std.proofs.Common.{◌<◌, ap, ◌∙◌, arith}
use Rattle.std.proofs.lemmas.List.{nil_from_length}
use Rattle.std.proofs.lemmas.Bool.{ltb-false, ltb-true}
use Rattle.texts.specs.Texts.{SLASH, until}
use Rattle.texts.specs.Scans.{marks_left}
use Rattle.texts.proofs.Scans.{none_first, next_first, next_root, until_some}
use Rattle.texts.proofs.components.scan.first_part.Goals as goal

pub returns-in-empty : goal.returns-in-empty
returns-in-empty c = record { first_part_or_none_left = ap (λ t. marks_left t 0) (nil_from_length c.args.text.now (omega (arith, ltb-true))) ∙ none_first }

pub returns-in-47 : goal.returns-in-47
returns-in-47 c = record { first_part_or_none_left = next_root c.args.text.now (omega (arith, ltb-false)) (omega arith) }

pub returns-in_default : goal.returns-in_default
returns-in_default c =
    let some : 0 < until SLASH c.args.text.now = until_some c.args.text.now (omega (arith, ltb-false)) (λ e. omega arith) in
    record { first_part_or_none_left = next_first c.args.text.now c.position.result c.position.ensures.stands_before_the_first (omega (arith, c.position.ensures.stands_before_the_first)) }
