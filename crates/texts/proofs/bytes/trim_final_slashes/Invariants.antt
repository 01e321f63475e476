use Rattle.std.proofs.Common.{◌≡◌, length}
use Rattle.texts.specs.Texts.{unslashed}
use Rattle.texts.proofs.bytes.trim_final_slashes.Given as goal

abbrev pub invariant-loop-kept : goal.invariant-loop-kept
invariant-loop-kept l = unslashed l.kept ≡ unslashed l.text

abbrev pub decreases-loop-kept : goal.decreases-loop-kept
decreases-loop-kept l = length l.kept
