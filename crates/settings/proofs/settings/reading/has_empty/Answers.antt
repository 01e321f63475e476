use Rattle.std.proofs.Common.{eqb, length, ◌∙◌, rules, tests}
use Rattle.std.proofs.lemmas.Iterator.{YieldsList-from_slice}
use Rattle.std.proofs.lemmas.Iterator.Search.{any_from_yields_List}
use Rattle.texts.specs.Held.{bytes_of}
use Rattle.texts.specs.declared.text.Text as room
use Rattle.settings.proofs.Tests.{any_empty}
use Rattle.settings.proofs.settings.reading.has_empty.Goals as goal

pub returns : goal.returns
returns c =
    let found = any_from_yields_List (λ (t : room.Text 12). eqb (length (bytes_of t)) 0) _ _ c.any.result c.any.ensures.ran (YieldsList-from_slice c.args.texts.now (cc)) (λ x b q k. search (rules, tests)) in
    record { one_of_them_is_empty = found ∙ any_empty c.args.texts.now }
