use Rattle.std.proofs.Common.{◌≡◌, ◌*◌, ◌++◌, take, drop}
use Rattle.lines.specs.Columns.{columns, have_room}
use Rattle.lines.proofs.columns.write_columns.Given as goal

-- the columns so far, with those of the numbers that are left, are all; and the numbers that are left decide whether there is room
abbrev pub invariant-loop-i : goal.invariant-loop-i
invariant-loop-i g l = record {
  so_far : take (4 * l.i) l.cells ++ columns (drop l.i l.numbers) ≡ columns l.numbers;
  room : have_room (drop l.i l.numbers) ≡ have_room l.numbers;
}
