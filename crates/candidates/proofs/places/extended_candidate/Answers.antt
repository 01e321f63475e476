use Rattle.std.proofs.Common.{◌++◌, Some, map, sym, ap, ◌∙◌, arith}
use Rattle.std.proofs.lemmas.List.{length-map}
use Rattle.stack.proofs.Slots.{mapped_from}
use Rattle.texts.specs.Held.{bytes_of}
use Rattle.texts.specs.Texts.{Text}
use Rattle.stack.specs.Items.{item_at}
use Rattle.candidates.specs.Answers.{stem_text}
use Rattle.candidates.specs.Candidates.{extended, formed}
use Rattle.candidates.proofs.Placing.{extended_at, extended_beyond}
use Rattle.candidates.proofs.places.extended_candidate.Goals as goal

pub returns-then-i-place-clause-extension_at_the_place : goal.returns-then-i-place-clause-extension_at_the_place
returns-then-i-place-clause-extension_at_the_place c =
    let base = stem_text c.args.stem in
    let es = map (bytes_of {N = 12}) c.args.extensions.now in
    let here = mapped_from (bytes_of {N = 12}) c.args.extensions.now c.loop-i.i c.index-extensions-i.result c.loop-i-test.true c.index-extensions-i.is in
    λ of.
    ap Some (c.form.ensures.extension_behind_the_stem of ∙ ap (λ (t : Text). formed (base ++ t)) c.as_bytes.ensures.bytes_of_the_text)
    ∙ sym (extended_at base es _ c.loop-i.i (bytes_of c.index-extensions-i.result) here)
    ∙ ap (item_at (extended base es)) c.if-i-place.true

pub returns-clause-extension_at_the_place : goal.returns-clause-extension_at_the_place
returns-clause-extension_at_the_place c =
    λ of. sym (extended_beyond (stem_text c.args.stem) (map (bytes_of {N = 12}) c.args.extensions.now) c.args.place (omega (arith, length-map c.args.extensions.now (bytes_of {N = 12}))))
