use Rattle.std.proofs.Common.{◌+◌, List, map, drop, sym, ap, ◌∙◌, arith}
use Rattle.std.proofs.lemmas.List.{drop-drop}
use Rattle.settings.specs.Tables.{Alias}
use Rattle.settings.specs.Rows.{alias_of}
use Rattle.explain.specs.Trials.{deciding}
use Rattle.explain.proofs.DecidingSteps.{first_decides, later_decides, moved, row_tried, some_left}
use Rattle.explain.proofs.trial.deciding.Goals as goal

pub returns-then-makes_an_attempt-clause-first_label_that_tries : goal.returns-then-makes_an_attempt-clause-first_label_that_tries
returns-then-makes_an_attempt-clause-first_label_that_tries g c =
    let m = g.T.FileTree.meaning c.args.tree.now in
    let d = c.args.question.directory.now in
    let r = c.args.question.request.now in
    let rows = c.args.aliases.now in
    let i = c.loop-i.i in
    let tried = row_tried m _ d r rows i _ _ c.loop-i.invariant.same_meaning c.makes_an_attempt.ensures.attempts_by_definition c.if-makes_an_attempt.true in
    sym (first_decides m d r (drop i (map alias_of rows)) i (some_left rows i (omega arith)) tried) ∙ c.loop-i.invariant.left_decide

pub loop-i-preserved : goal.loop-i-preserved
loop-i-preserved g c =
    let m = g.T.FileTree.meaning c.args.tree.now in
    let d = c.args.question.directory.now in
    let r = c.args.question.request.now in
    let rows = c.args.aliases.now in
    let i = c.loop-i.i in
    let tried = row_tried m _ d r rows i _ _ c.loop-i.invariant.same_meaning c.makes_an_attempt.ensures.attempts_by_definition c.if-makes_an_attempt.false in
    record {
      sound = c.makes_an_attempt.ensures.still_sound;
      same_meaning = c.makes_an_attempt.ensures.same_meaning ∙ c.loop-i.invariant.same_meaning;
      left_decide =
          ap (λ (labels : List Alias). moved (i + 1) (deciding m d r labels)) (sym (drop-drop 1 i (map alias_of rows)))
          ∙ sym (later_decides m d r (drop i (map alias_of rows)) i (some_left rows i (omega arith)) tried)
          ∙ c.loop-i.invariant.left_decide;
    }
