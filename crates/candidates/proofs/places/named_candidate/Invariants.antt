use Rattle.std.proofs.Common.{◌≡◌, ◌+◌, ◌*◌, ◌≤◌, drop, map}
use Rattle.stack.specs.Items.{item_at}
use Rattle.texts.specs.Held.{bytes_of}
use Rattle.candidates.specs.Candidates.{indexed}
use Rattle.candidates.proofs.places.named_candidate.Given as goal

-- What is left of the place counts from the main file that was come to.
abbrev pub invariant-loop-i : goal.invariant-loop-i
invariant-loop-i l = record {
  counts_from_here : item_at (indexed l.path (map bytes_of l.extensions) (drop l.i (map bytes_of l.names))) l.left ≡ item_at (indexed l.path (map bytes_of l.extensions) (map bytes_of l.names)) l.place;
  nothing_written : l.out ≡ l.initial.out;
  not_beyond : l.place ≤ l.left + 8 * l.i;
}
