use Rattle.std.proofs.Common.{◌≡◌, ◌≤◌, ℕ, length, map}
use Rattle.listing.specs.Entries.{rows}
use Rattle.settings.specs.Meant.{tables}
use Rattle.explain.specs.Filling.{filled, filled_by, noted}
use Rattle.explain.specs.SheetLines.{left_of, lines_before}
use Rattle.explain.proofs.front.fill.Given as goal

-- What is left of the sheet is still to be filled in.
abbrev pub invariant-loop-number : goal.invariant-loop-number
invariant-loop-number l =
    (n : ℕ) × (length (left_of l.lines) ≤ n) × (filled n (record { rows = rows l.listing; tables = tables l.settings; lines = lines_before l.lines; refused = map noted l.refused.items; rest = left_of l.lines }) ≡ filled_by (rows l.initial.listing) (tables l.initial.settings) l.sheet)

abbrev pub decreases-loop-number : goal.decreases-loop-number
decreases-loop-number l = length (left_of l.lines)
