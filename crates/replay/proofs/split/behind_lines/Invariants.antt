use Rattle.std.proofs.Common.{◌≡◌, ◌-◌}
use Rattle.replay.specs.Lists.{IsEnd, behind_lines}
use Rattle.replay.proofs.split.behind_lines.Given as goal

-- What stands behind the lines that are left to take stands behind all, and what is left is an end of the text.
abbrev pub invariant-loop-taken : goal.invariant-loop-taken
invariant-loop-taken l = record {
  behind : behind_lines (l.count - l._taken) l.left ≡ behind_lines l.count l.text;
  end : IsEnd l.left l.text;
}
