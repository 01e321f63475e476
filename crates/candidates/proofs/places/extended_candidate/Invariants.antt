use Rattle.std.proofs.Common.{◌≡◌, ◌≤◌}
use Rattle.candidates.proofs.places.extended_candidate.Given as goal

-- The place is not yet passed; nothing was written.
abbrev pub invariant-loop-i : goal.invariant-loop-i
invariant-loop-i l = record {
  not_passed : l.i ≤ l.place;
  nothing_written : l.out ≡ l.initial.out;
}
