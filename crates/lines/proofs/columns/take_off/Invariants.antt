use Rattle.std.proofs.Common.{◌≡◌, ◌+◌, ◌*◌}
use Rattle.lines.proofs.columns.take_off.Given as goal

-- what was taken off and what is left make the number
abbrev pub invariant-loop-left : goal.invariant-loop-left
invariant-loop-left l = l.times * l.unit + l.left ≡ l.n

abbrev pub decreases-loop-left : goal.decreases-loop-left
decreases-loop-left l = l.left
