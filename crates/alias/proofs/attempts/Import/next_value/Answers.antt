use Rattle.std.proofs.Common.{rules, ◌≡◌, ◌+◌, true, cond, List, [], ◌∷◌, drop, map, Some, sym, refl, ap, subst, ◌∙◌}
use Rattle.stack.proofs.Slots.{mapped_from}
use Rattle.tree.specs.Meanings.{Meaning}
use Rattle.texts.specs.Texts.{Text}
use Rattle.settings.specs.Rows.{value_of}
use Rattle.settings.specs.Tables.{Value}
use Rattle.alias.specs.Asked.{ValuesAsked, none_yet, one_more}
use Rattle.alias.specs.Attempts.{value_attempt, value_attempts}
use Rattle.alias.specs.Left.{ends_search, first_value, said_by, value_text}
use Rattle.alias.proofs.Attempting.{value_met}
use Rattle.alias.proofs.attempts.Import.next_value.Goals as goal

pub returns-in-Some-clause-first_value_that_is_not_passed_over : goal.returns-in-Some-clause-first_value_that_is_not_passed_over
returns-in-Some-clause-first_value_that_is_not_passed_over g c =
    let m = g.T.FileTree.meaning c.args.tree.now in
    let d = c.args.self.directory.now in
    let r = c.args.self.request.now in
    let i = c.loop-i.i in
    let label = c.label-label.ensures.label_as_written in
    let values = c.values-values.ensures.values_in_the_order_written in
    let x = c.in-Some.attempt in
    let here = mapped_from value_of c.values-values.result.now i c.index-values-i.result c.loop-i-test.true c.index-values-i.is in
    let work = c.try_value.new.work in
    let met : Some (said_by (value_text (value_of c.index-values-i.result)) c.label-label.result.now r work x) ≡ value_attempt m d r c.label-label.result.now (value_of c.index-values-i.result) =
    c.in-Some.ensures.attempt_of_the_value ∙ ap (λ (n : Meaning). value_attempt n d r c.label-label.result.now (value_of c.index-values-i.result)) c.loop-i.invariant.same_meaning in
    λ tried later.
    (λ k. value_attempts m d r (sym label k) (drop c.args.from (sym values k)) tried later)
    ∙ sym (c.loop-i.invariant.passed_over tried later)
    ∙ value_met m d r c.label-label.result.now work (drop i (map value_of c.values-values.result.now)) (drop (i + 1) (map value_of c.values-values.result.now)) (value_of c.index-values-i.result) x here met tried later
    ∙ (λ k. said_by (first_value (drop i (values k))) (label k) r work x ∷ cond (ends_search x) [] (value_attempts m d r (label k) (drop (i + 1) (values k)) true later))

pub loop-i-init : goal.loop-i-init
loop-i-init g c = record {
  sound = c.requires.sound;
  nothing_written = refl;
  same_meaning = refl;
  asked_value_by_value = none_yet;
  passed_over = λ tried later. refl;
}

pub returns-in-Some-clause-asked_value_by_value : goal.returns-in-Some-clause-asked_value_by_value
returns-in-Some-clause-asked_value_by_value g c =
    let steps = g.T.FileTree.steps in
    let r = c.args.self.request.now in
    let i = c.loop-i.i in
    let vs = map value_of c.values-values.result.now in
    let label = c.label-label.ensures.label_as_written in
    let values = c.values-values.ensures.values_in_the_order_written in
    let here = mapped_from value_of c.values-values.result.now i c.index-values-i.result c.loop-i-test.true c.index-values-i.is in
    let before = subst (λ (ws : List Value). ValuesAsked steps c.label-label.result.now r (drop c.args.from vs) ws c.args.tree.now c.loop-i.tree) here c.loop-i.invariant.asked_value_by_value in
    let after : ValuesAsked steps c.label-label.result.now r (drop c.args.from vs) (drop (i + 1) vs) c.args.tree.now c.try_value.new.tree =
    one_more (value_of c.index-values-i.result) before c.try_value.ensures.asked_once_if_a_plain_label_has_a_tail in
    subst (λ (x : Text × List Value). ValuesAsked steps x.0 r (drop c.args.from x.1) (drop (i + 1) x.1) c.args.tree.now c.try_value.new.tree) (λ k. (label k, values k)) after

pub loop-i-preserved : goal.loop-i-preserved
loop-i-preserved g c =
    let steps = g.T.FileTree.steps in
    let r = c.args.self.request.now in
    let i = c.loop-i.i in
    let vs = map value_of c.values-values.result.now in
    let here = mapped_from value_of c.values-values.result.now i c.index-values-i.result c.loop-i-test.true c.index-values-i.is in
    let before = subst (λ (ws : List Value). ValuesAsked steps c.label-label.result.now r (drop c.args.from vs) ws c.args.tree.now c.loop-i.tree) here c.loop-i.invariant.asked_value_by_value in
    record {
      sound = c.try_value.ensures.still_sound;
      nothing_written = search rules;
      same_meaning = c.try_value.ensures.same_meaning ∙ c.loop-i.invariant.same_meaning;
      asked_value_by_value = one_more (value_of c.index-values-i.result) before c.try_value.ensures.asked_once_if_a_plain_label_has_a_tail;
      passed_over = search rules;
    }
