use Rattle.std.proofs.Common.{rules, ◌≡◌, ◌+◌, true, false, List, cond, [], ◌∷◌, map, drop, sym, refl, ap, subst, ◌∙◌, arith}
use Rattle.std.proofs.lemmas.Bool.{cond-false, cond-true}
use Rattle.stack.proofs.Slots.{mapped_from}
use Rattle.settings.specs.Rows.{alias_of}
use Rattle.alias.specs.declared.attempts.Progress.{Progress}
use Rattle.alias.specs.Asked.{LabelsAsked, not_yet}
use Rattle.alias.specs.Attempts.{Attempt as Tried, attempts}
use Rattle.alias.specs.Left.{label_tried, left, left_of, row_left, row_said, value_tried, values_left}
use Rattle.alias.specs.Forms.{touches}
use Rattle.alias.proofs.Asking.{asked_if_it_touches, asks_nothing, come_to, goes_on, gone_here}
use Rattle.alias.proofs.Attempting.{gone_done, gone_label, next_later, next_taken}
use Rattle.alias.proofs.Touching.{touched_so}
use Rattle.alias.proofs.attempts.Progress.next.Goals as goal

pub returns-in-Some-clause-next_in_the_list : goal.returns-in-Some-clause-next_in_the_list
returns-in-Some-clause-next_in_the_list g c =
    let m = g.T.FileTree.meaning c.args.tree.now in
    let d = c.args.directory.now in
    let r = c.args.request.now in
    let ls = map alias_of c.args.aliases.now in
    let i = c.loop-i.i in
    let a = alias_of c.index-aliases-i.result in
    let new = c.try_values.new.self in
    let x = c.in-Some.attempt in
    let work = c.try_values.new.work in
    let gone = c.go_to.ensures.same_label_or_a_fresh_one in
    let step = mapped_from alias_of c.args.aliases.now i c.index-aliases-i.result c.loop-i-test.true c.index-aliases-i.is in
    let at : new.label ≡ i = c.in-Some.ensures.same_label ∙ ap (λ (p : Progress). p.label) gone ∙ gone_label i c.loop-i.self in
    let later = attempts m d r (drop (i + 1) ls) in
    let touched : touches a.label r ≡ true = touched_so a.label c.label.result.now r c.key_matches.result true c.label.ensures.label_as_written c.key_matches.ensures.touched_by_its_form c.if-not-key_matches.false in
    let taken : row_left m d r a c.go_to.new.self later ≡ row_said a new r work x ∷ cond new.done [] (row_left m d r a new later) =
    cond-true _ _ _ touched
    ∙ (λ k. values_left (sym c.loop-i.invariant.same_meaning k) d r a c.go_to.new.self later)
    ∙ c.in-Some.ensures.next_of_its_values later
    ∙ (λ k. row_said a new r work x ∷ cond new.done [] (values_left (c.loop-i.invariant.same_meaning k) d r a new later))
    ∙ ap (λ (ts : List Tried). row_said a new r work x ∷ cond new.done [] ts) (sym (cond-true _ _ _ touched)) in
    let begin : left m d r ls c.args.self.now ≡ left_of m d r (drop c.args.self.now.label ls) c.args.self.now = cond-false _ _ _ c.if-self.false in
    λ h.
    begin
    ∙ sym c.loop-i.invariant.left_from_there
    ∙ ap (λ (p : Progress). left_of m d r (drop i ls) p) (sym gone)
    ∙ next_taken m d r ls i a step c.go_to.new.self new work x at taken

pub loop-i-preserved : goal.loop-i-preserved
loop-i-preserved g c =
    let m = g.T.FileTree.meaning c.args.tree.now in
    let d = c.args.directory.now in
    let r = c.args.request.now in
    let ls = map alias_of c.args.aliases.now in
    let i = c.loop-i.i in
    let a = alias_of c.index-aliases-i.result in
    let new = c.try_values.new.self in
    let gone = c.go_to.ensures.same_label_or_a_fresh_one in
    let step = mapped_from alias_of c.args.aliases.now i c.index-aliases-i.result c.loop-i-test.true c.index-aliases-i.is in
    let at : new.label ≡ i = c.in_default.ensures.same_label ∙ ap (λ (p : Progress). p.label) gone ∙ gone_label i c.loop-i.self in
    let later = attempts m d r (drop (i + 1) ls) in
    let touched : touches a.label r ≡ true = touched_so a.label c.label.result.now r c.key_matches.result true c.label.ensures.label_as_written c.key_matches.ensures.touched_by_its_form c.if-not-key_matches.false in
    let passed : row_left m d r a c.go_to.new.self later ≡ later =
    cond-true _ _ _ touched
    ∙ (λ k. values_left (sym c.loop-i.invariant.same_meaning k) d r a c.go_to.new.self later)
    ∙ (c.in_default.ensures.next_of_its_values later).0 in
    record {
      sound = c.try_values.ensures.still_sound;
      same_meaning = c.try_values.ensures.same_meaning ∙ c.loop-i.invariant.same_meaning;
      nothing_written = c.in_default.ensures.only_its_text_is_written ∙ c.loop-i.invariant.nothing_written;
      not_done = (c.in_default.ensures.next_of_its_values later).1;
      not_beyond = omega arith;
      asked_label_by_label =
          goes_on g.T.FileTree.steps r (drop (i + 1) ls) (drop c.args.self.now.label ls) c.args.self.now.value i new at
          (come_to g.T.FileTree.steps r ls (drop c.args.self.now.label ls) c.args.self.now.value i a c.loop-i.self c.go_to.new.self step gone c.loop-i.invariant.asked_label_by_label (asked_if_it_touches g.T.FileTree.steps r a c.go_to.new.self.value touched c.try_values.ensures.asked_value_by_value));
      left_from_there =
          next_later m d r ls i a step c.go_to.new.self new at passed
          ∙ ap (λ (p : Progress). left_of m d r (drop i ls) p) gone
          ∙ c.loop-i.invariant.left_from_there;
    }

pub returns-then-work-lt-MAX_LEN-clause-asked_label_by_label : goal.returns-then-work-lt-MAX_LEN-clause-asked_label_by_label
returns-then-work-lt-MAX_LEN-clause-asked_label_by_label g c = (_, (_, not_yet))

pub returns-then-self-clause-asked_label_by_label : goal.returns-then-self-clause-asked_label_by_label
returns-then-self-clause-asked_label_by_label g c = (_, (_, not_yet))

pub loop-i-init : goal.loop-i-init
loop-i-init g c =
    let first = drop c.args.self.now.label (map alias_of c.args.aliases.now) in
    record {
      sound = c.requires.sound;
      same_meaning = refl;
      nothing_written = refl;
      not_done = c.if-self.false;
      not_beyond = omega arith;
      asked_label_by_label =
          subst (λ (p : Progress). LabelsAsked g.T.FileTree.steps c.args.request.now first c.args.self.now.value first p.value c.args.tree.now c.args.tree.now) (sym (gone_here c.args.self.now)) not_yet;
      left_from_there = search rules;
    }

pub returns-in-Some-clause-asked_label_by_label : goal.returns-in-Some-clause-asked_label_by_label
returns-in-Some-clause-asked_label_by_label g c =
    let ls = map alias_of c.args.aliases.now in
    let i = c.loop-i.i in
    let a = alias_of c.index-aliases-i.result in
    let touched = touched_so a.label c.label.result.now c.args.request.now c.key_matches.result true c.label.ensures.label_as_written c.key_matches.ensures.touched_by_its_form c.if-not-key_matches.false in
    let step = mapped_from alias_of c.args.aliases.now i c.index-aliases-i.result c.loop-i-test.true c.index-aliases-i.is in (
      _,
      (
        _,
        come_to g.T.FileTree.steps c.args.request.now ls (drop c.args.self.now.label ls) c.args.self.now.value i a c.loop-i.self c.go_to.new.self step
            c.go_to.ensures.same_label_or_a_fresh_one c.loop-i.invariant.asked_label_by_label (asked_if_it_touches g.T.FileTree.steps c.args.request.now a c.go_to.new.self.value touched c.try_values.ensures.asked_value_by_value),
      ),
    )

pub loop-i-preserved-then-not-key_matches : goal.loop-i-preserved-then-not-key_matches
loop-i-preserved-then-not-key_matches g c =
    let m = g.T.FileTree.meaning c.args.tree.now in
    let d = c.args.directory.now in
    let r = c.args.request.now in
    let ls = map alias_of c.args.aliases.now in
    let i = c.loop-i.i in
    let a = alias_of c.index-aliases-i.result in
    let new = c.go_to.new.self in
    let gone = c.go_to.ensures.same_label_or_a_fresh_one in
    let step = mapped_from alias_of c.args.aliases.now i c.index-aliases-i.result c.loop-i-test.true c.index-aliases-i.is in
    let at : new.label ≡ i = ap (λ (p : Progress). p.label) gone ∙ gone_label i c.loop-i.self in
    let later = attempts m d r (drop (i + 1) ls) in
    let untouched : touches a.label r ≡ false = touched_so a.label c.label.result.now r c.key_matches.result false c.label.ensures.label_as_written c.key_matches.ensures.touched_by_its_form c.if-not-key_matches.true in
    record {
      sound = c.loop-i.invariant.sound;
      same_meaning = c.loop-i.invariant.same_meaning;
      nothing_written = c.loop-i.invariant.nothing_written;
      not_done = gone_done i c.loop-i.self new gone c.loop-i.invariant.not_done;
      not_beyond = omega arith;
      asked_label_by_label =
          goes_on g.T.FileTree.steps r (drop (i + 1) ls) (drop c.args.self.now.label ls) c.args.self.now.value i new at
          (come_to g.T.FileTree.steps r ls (drop c.args.self.now.label ls) c.args.self.now.value i a c.loop-i.self new step gone c.loop-i.invariant.asked_label_by_label (asks_nothing g.T.FileTree.steps r c.loop-i.tree a new.value untouched));
      left_from_there =
          next_later m d r ls i a step new new at (cond-false _ _ _ untouched)
          ∙ ap (λ (p : Progress). left_of m d r (drop i ls) p) gone
          ∙ c.loop-i.invariant.left_from_there;
    }
