use Rattle.std.proofs.Common.{◌≡◌, ◌≤◌, ◌++◌, map, length}
use Rattle.stack.specs.Items.{items, capacity}
use Rattle.texts.specs.Parts.{place_of, places}
use Rattle.texts.specs.Walks.{left}
use Rattle.texts.proofs.path.push_parts.Given as goal

abbrev pub invariant-loop-place : goal.invariant-loop-place
invariant-loop-place l =
    (items l.found ++ map place_of (left l.place-iterator) ≡ items l.initial.found ++ places l.text)
    × (length (items l.initial.found) ≤ length (items l.found))
    × (capacity l.found ≡ capacity l.initial.found)

abbrev pub decreases-loop-place : goal.decreases-loop-place
decreases-loop-place l = length (left l.place-iterator)
