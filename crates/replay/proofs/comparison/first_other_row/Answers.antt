use Rattle.std.proofs.Common.{◌≡◌, ℕ, ◌+◌, not, length, option_map, position, refl, rules, tests, ap, ◌∙◌}
use Rattle.std.proofs.lemmas.Iterator.Consumers.{YieldsList-from_first}
use Rattle.std.proofs.lemmas.Iterator.Search.{position_from_yields_List}
use Rattle.replay.specs.Remaining.{rows_left}
use Rattle.replay.specs.Verdicts.{same_rows}
use Rattle.replay.proofs.comparison.first_other_row.Goals as goal

pub returns : goal.returns
returns c =
    let rows = same_rows (length c.args.stored.now) c.args.answered.now c.args.stored.now in
    let found : c.position.result ≡ position not rows =
    position_from_yields_List not c.position.new.self _ c.position.result c.position.ensures.ran (YieldsList-from_first (λ x. x) rows_left rows refl) (λ x b q k. search (rules, tests)) in
    let mapped : c.map.result ≡ option_map (λ before. before + 1) c.position.result = search rules in
    record { first_row_that_is_another = mapped ∙ ap (option_map (λ (before : ℕ). before + 1)) found }
