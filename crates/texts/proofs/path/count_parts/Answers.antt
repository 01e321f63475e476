use Rattle.std.proofs.Common.{◌≡◌, length, ap, inl, arith}
use Rattle.std.proofs.lemmas.List.{length-map}
use Rattle.std.proofs.lemmas.Iterator.Consumers.{count_from_yields_List}
use Rattle.texts.specs.Parts.{Mark, marks, parts, place_of}
use Rattle.texts.specs.Walks.{left, places_left}
use Rattle.texts.proofs.PartLoops.{parts_given}
use Rattle.texts.proofs.Weights.{parts_weight}
use Rattle.texts.proofs.path.count_parts.Goals as goal

pub count-requires-clause-fits : goal.count-requires-clause-fits
count-requires-clause-fits c = inl (omega (arith, (parts_weight c.args.text.now).1, length-map (left c.new.result) place_of, ap length c.new.ensures.all_parts_are_left))

pub returns : goal.returns
unfolding parts
returns c =
    let counted : c.count.result ≡ length (places_left c.new.result) =
    count_from_yields_List c.new.result c.count.result c.count.ensures.ran (parts_given c.new.result) in
    record { as_many_as_parts = omega (arith, counted, length-map (left c.new.result) place_of, ap length c.new.ensures.all_parts_are_left, length-map (marks c.args.text.now) (λ (m : Mark). m.0)) }
