use Rattle.std.proofs.Common.{◌≡◌, drop, map}
use Rattle.std.specs.List.{fold}
use Rattle.replay.specs.Cases.{judged}
use Rattle.replay.specs.Scores.{counted, scores_of}
use Rattle.replay.proofs.score.Scores.of.Given as goal

-- The sheets that are left are still to be counted.
abbrev pub invariant-loop-verdict : goal.invariant-loop-verdict
invariant-loop-verdict l = fold counted l.scores (map judged (drop l.verdict-index l.verdicts)) ≡ scores_of (map judged l.verdicts)
