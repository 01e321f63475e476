use Rattle.std.proofs.Common.{◌≡◌, true, false, ◌∙◌}
use Rattle.texts.specs.Texts.{empty}
use Rattle.replay.proofs.Rows.{empty_by_length, no_row_left, one_row}
use Rattle.replay.proofs.comparison.SideBySideIterator.next.Goals as goal

pub returns-then-is_empty-clause-steps : goal.returns-then-is_empty-clause-steps
returns-then-is_empty-clause-steps c =
    let sides = c.args.self.now in
    let none : empty sides.stored.now ≡ true = empty_by_length _ _ c.is_empty.ensures ∙ c.if-is_empty.true in
    let no_rows = no_row_left sides.answered.now sides.stored.now none in (no_rows, no_rows)

pub returns-clause-steps : goal.returns-clause-steps
returns-clause-steps c =
    let sides = c.args.self.now in
    let more : empty sides.stored.now ≡ false = empty_by_length _ _ c.is_empty.ensures ∙ c.if-is_empty.false in
    let step = one_row sides.answered.now sides.stored.now more in
    cc
