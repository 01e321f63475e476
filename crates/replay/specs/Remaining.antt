-- The rows that an iterator over two texts has left. Assumes nothing.
use Rattle.std.specs.Prelude.{Bool, List, length}
use Rattle.replay.specs.declared.comparison.SideBySide.{SideBySide}
use Rattle.replay.specs.Verdicts.{same_rows}

-- of the stored rows that are left, whether each was answered in its place; there are no more of them than bytes
abbrev pub rows_left : SideBySide → List Bool
rows_left sides = same_rows (length sides.stored.now) sides.answered.now sides.stored.now
