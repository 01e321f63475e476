use Rattle.std.proofs.Common.{◌≡◌, length}
use Rattle.texts.specs.Parts.{parts, same_parts, texts_of}
use Rattle.texts.specs.Walks.{left, subject}
use Rattle.texts.proofs.path.same_path.Given as goal

abbrev pub invariant-loop-part : goal.invariant-loop-part
invariant-loop-part l =
    (subject l.part-iterator ≡ l.a) × (subject l.right ≡ l.b)
    × (same_parts (texts_of (left l.part-iterator)) (texts_of (left l.right)) ≡ same_parts (parts l.a) (parts l.b))

abbrev pub decreases-loop-part : goal.decreases-loop-part
decreases-loop-part l = length (left l.part-iterator)
