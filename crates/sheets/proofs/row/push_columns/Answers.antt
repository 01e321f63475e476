use Rattle.std.proofs.Common.{◌≡◌, ℕ, [], ◌∷◌, Some, length, sym, ap, ◌∙◌, rules, arith}
use Rattle.lines.specs.Columns.{columns}
use Rattle.sheets.proofs.RowSteps.{five_written}
use Rattle.sheets.proofs.row.push_columns.Goals as goal

pub unwrap-requires : goal.unwrap-requires
unwrap-requires c =
    let r = c.requires in
    let is = c.write.ensures.writes_the_row ∙ five_written c.from.result c.args.rounds (length c.args.texts.first.now) (length c.args.texts.second.now) (length c.args.texts.third.now)
    (omega (arith, c.from.ensures)) r.few_rounds (omega (arith, r.first_is_short)) (omega (arith, r.second_is_short)) (omega (arith, r.third_is_short)) in
    rw is (search rules)

pub returns : goal.returns
returns c =
    let r = c.requires in
    let texts = c.args.texts in
    let cells = λ (n : ℕ). columns (n ∷ c.args.rounds ∷ length texts.first.now ∷ length texts.second.now ∷ length texts.third.now ∷ []) in
    let is = c.write.ensures.writes_the_row ∙ five_written c.from.result c.args.rounds (length texts.first.now) (length texts.second.now) (length texts.third.now)
    (omega (arith, c.from.ensures)) r.few_rounds (omega (arith, r.first_is_short)) (omega (arith, r.second_is_short)) (omega (arith, r.third_is_short)) in
    let some : Some c.unwrap.result ≡ Some (cells c.from.result) = sym c.unwrap.ensures ∙ is in
    let same : c.unwrap.result ≡ cells c.from.result = cc in
    let all : c.unwrap.result ≡ cells c.args.number = same ∙ ap cells c.from.ensures in
    record { columns_behind = rw (← all) (search rules) }
