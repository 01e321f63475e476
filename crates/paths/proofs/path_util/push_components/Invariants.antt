use Rattle.std.proofs.Common.{◌≡◌, length}
use Rattle.texts.specs.Held.{bytes_of}
use Rattle.texts.specs.Parts.{texts_of}
use Rattle.texts.specs.Walks.{left, subject}
use Rattle.paths.specs.Joins.{walked_within}
use Rattle.paths.proofs.path_util.push_components.Given as goal

abbrev pub invariant-loop-place : goal.invariant-loop-place
invariant-loop-place l =
    (subject l.place-iterator ≡ l.source)
    × (walked_within (bytes_of l.text) (texts_of (left l.place-iterator)) ≡ walked_within (bytes_of l.initial.text) (texts_of (left l.initial.place-iterator)))

abbrev pub decreases-loop-place : goal.decreases-loop-place
decreases-loop-place l = length (left l.place-iterator)
