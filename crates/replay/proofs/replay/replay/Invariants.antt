use Rattle.std.proofs.Common.{◌≡◌, map, take}
use Rattle.replay.specs.Cases.{judged, stored}
use Rattle.replay.specs.Replayed.{replayed}
use Rattle.replay.proofs.replay.replay.Given as goal

-- The sheets so far are judged.
abbrev pub invariant-loop-case : goal.invariant-loop-case
invariant-loop-case l = map judged l.verdicts.items ≡ map replayed (map stored (take l.case-index l.cases))
