use Rattle.std.proofs.Common.{false, take}
use Rattle.std.specs.Fmt.{HasWritten, IsPlainFormatter}
use Rattle.std.specs.List.{flat_map}
use Rattle.explain.specs.declared.trial.Trial.{Trial}
use Rattle.explain.specs.Labels.{outcome_words}
use Rattle.explain.proofs.sentence.labels.OutcomesDisplay.fmt.Given as goal

-- The outcomes so far are written, behind the first.
abbrev pub invariant-loop-trial : goal.invariant-loop-trial
invariant-loop-trial g l =
    IsPlainFormatter l.initial.f → HasWritten g.W.Write.write_str_gives l.initial.f (flat_map (λ (u : Trial). outcome_words false u.outcome) (take l.trial-index l.more)) l.f
