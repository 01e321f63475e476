use Rattle.std.proofs.Common.{◌≡◌, ◌<◌, ◌^◌, List, [], drop, map, length, ap, sym, ◌∙◌, arith}
use Rattle.std.specs.List.{fold}
use Rattle.std.proofs.Math.ListN.{drop_of_length-le}
use Rattle.std.proofs.lemmas.List.{length-map}
use Rattle.replay.specs.declared.verdict.Verdict.{Verdict}
use Rattle.replay.specs.Cases.{judged}
use Rattle.replay.specs.Scores.{all_agree, counted, scores_of}
use Rattle.replay.proofs.Scoring.{each_agrees}
use Rattle.replay.proofs.score.Scores.of.Goals as goal

pub returns-clause-all_agree_exactly_if_each_sheet_does :
    goal.returns-clause-all_agree_exactly_if_each_sheet_does
returns-clause-all_agree_exactly_if_each_sheet_does c =
    let verdicts = c.args.verdicts.now in
    let few : length (map judged verdicts) < 2 ^ 64 = omega (arith, length-map verdicts judged) in
    let none : drop c.loop-verdict.verdict-index verdicts ≡ [] = drop_of_length-le verdicts c.loop-verdict-test.false in
    let all : c.loop-verdict.scores ≡ scores_of (map judged verdicts) =
    sym (ap (λ (vs : List Verdict). fold counted c.loop-verdict.scores (map judged vs)) none) ∙ c.loop-verdict.invariant in
    ap all_agree all ∙ each_agrees (map judged verdicts) few
