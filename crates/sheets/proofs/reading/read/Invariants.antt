use Rattle.std.proofs.Common.{◌≡◌, ◌++◌, length, map}
use Rattle.listing.specs.Entries.{rows}
use Rattle.settings.specs.Meant.{tables}
use Rattle.texts.specs.Texts.{Text}
use Rattle.sheets.specs.Reading.{after_lines, after_sheet}
use Rattle.sheets.specs.SheetLines.{lines_of}
use Rattle.sheets.specs.Tasks.{task_in}
use Rattle.sheets.proofs.reading.read.Given as goal

-- What is left is a part of the sheet, and its lines are still to be read.
abbrev pub invariant-loop-rest : goal.invariant-loop-rest
invariant-loop-rest l =
    (front : Text) × (l.sheet ≡ front ++ l.rest)
    × (after_lines (record { rows = rows l.listing; tables = tables l.settings; closed = l.is_closed; todo = map (task_in l.sheet) l.tasks.items }) (lines_of l.rest) ≡ after_sheet (rows l.initial.listing) (tables l.initial.settings) l.sheet)

abbrev pub decreases-loop-rest : goal.decreases-loop-rest
decreases-loop-rest l = length l.rest
