use Rattle.std.proofs.Common.{◌≡◌, ◌≤◌, ◌++◌, ℕ, length, map, option_map}
use Rattle.replay.specs.Cases.{stored}
use Rattle.replay.specs.Lists.{cases_in, cases_of}
use Rattle.replay.proofs.case.cases.Given as goal

-- The cases of what is left come behind those that were read.
abbrev pub invariant-loop-left : goal.invariant-loop-left
invariant-loop-left l =
    (n : ℕ) × (length l.left ≤ n) × (option_map (λ cs. map stored l.cases.items ++ cs) (cases_of n l.left) ≡ cases_in l.list)

abbrev pub decreases-loop-left : goal.decreases-loop-left
decreases-loop-left l = length l.left
