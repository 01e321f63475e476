use Rattle.std.proofs.Common.{◌≡◌, ◌-◌, ◌<◌, ◌≤◌, length}
use Rattle.texts.specs.Scans.{marks_left}
use Rattle.texts.proofs.components.scan.later_part.Given as goal

abbrev pub invariant-loop-place : goal.invariant-loop-place
invariant-loop-place l = (l.at ≤ l.start) × (0 < l.start) × (l.start ≤ length l.text) × (marks_left l.text l.at ≡ marks_left l.text l.start)

abbrev pub decreases-loop-place : goal.decreases-loop-place
decreases-loop-place l = length l.text - l.start
