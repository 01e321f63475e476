use Rattle.std.proofs.Common.{◌≡◌, length}
use Rattle.alias.specs.Rewrites.{trimmed}
use Rattle.alias.proofs.rewrite.trim_start.Given as goal

abbrev pub invariant-loop-kept : goal.invariant-loop-kept
invariant-loop-kept l = trimmed l.kept ≡ trimmed l.tail

abbrev pub decreases-loop-kept : goal.decreases-loop-kept
decreases-loop-kept l = length l.kept
