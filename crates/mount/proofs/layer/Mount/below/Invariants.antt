use Rattle.std.proofs.Common.{◌≡◌, true, ◌⊎◌, length}
use Rattle.texts.specs.Parts.{marks, parts, texts_of}
use Rattle.texts.specs.Walks.{begun, left, subject}
use Rattle.mount.specs.Mounts.{stripped}
use Rattle.mount.proofs.layer.Mount.below.Given as goal

abbrev pub invariant-loop-part : goal.invariant-loop-part
invariant-loop-part g l =
    (subject l.wanted ≡ l.mount) × (subject l.found ≡ l.path)
    × (stripped (texts_of (left l.wanted)) (texts_of (left l.found)) ≡ stripped (parts l.mount) (parts l.path))
    × ((begun l.found ≡ true) ⊎ (left l.wanted ≡ marks l.mount))

abbrev pub decreases-loop-part : goal.decreases-loop-part
decreases-loop-part g l = length (left l.wanted)
