use Rattle.std.proofs.Common.{◌≡◌, true, false, Some, None, Ok, refl, rules, sym, ◌∙◌, arith}
use Rattle.std.proofs.Math.Path.{transport}
use Rattle.std.proofs.lemmas.Bool.{cond-false, cond-true}
use Rattle.texts.specs.Parts.{text_at}
use Rattle.tree.specs.Acceptances.{acceptable}
use Rattle.settings.specs.Meant.{tables}
use Rattle.lookup.specs.declared.calls.Move.TheVariants.{Open, Return}
use Rattle.lookup.specs.Turns.{Moved, test_row}
use Rattle.lookup.proofs.AttemptMoves.{fault_moves, on_candidate, rest_moves, value_moves}
use Rattle.lookup.proofs.calls.trying.on_test.Goals as goal

pub returns-in-Some-Ok-clause-one_move_of_the_call : goal.returns-in-Some-Ok-clause-one_move_of_the_call
returns-in-Some-Ok-clause-one_move_of_the_call g c =
    let m = g.H.FileTree.meaning c.args.host.now in
    let allowed = g.P.Policy.allowed c.args.policy.now in
    let t = tables c.args.settings.now in
    let w = c.args.work.now in
    let next = c.next_attempt-attempt in
    let u = next.new.work in
    let a = c.args.asked in
    λ limit few.
    transport (λ k. Moved m allowed t limit w (test_row a c.args.progress) (Ok None) c.args.context (Open (test_row a next.result.1) (sym c.round_from.ensures.round_from_the_candidate k)) u (sym c.loosened.ensures.fully_specified_off k))
    (value_moves (on_candidate m allowed t limit c.requires.testing) few c.first_unit-unit.ensures.first_of_its_units next.ensures.only_its_unit_is_written c.args.progress next.result.1 next.result.0 next.ensures.next_of_the_attempts c.in-Some-Ok.text (search rules))

pub returns-in-Some-Err-clause-one_move_of_the_call : goal.returns-in-Some-Err-clause-one_move_of_the_call
returns-in-Some-Err-clause-one_move_of_the_call g c =
    let next = c.next_attempt-attempt in
    λ limit few.
    fault_moves (on_candidate (g.H.FileTree.meaning c.args.host.now) (g.P.Policy.allowed c.args.policy.now) (tables c.args.settings.now) limit c.requires.testing) few c.first_unit-unit.ensures.first_of_its_units next.ensures.only_its_unit_is_written c.args.progress next.result.1 next.result.0 next.ensures.next_of_the_attempts c.in-Some-Err.fault (search rules)

pub returns-then-passes-clause-one_move_of_the_call : goal.returns-then-passes-clause-one_move_of_the_call
returns-then-passes-clause-one_move_of_the_call g c =
    let m = g.H.FileTree.meaning c.args.host.now in
    let allowed = g.P.Policy.allowed c.args.policy.now in
    let t = tables c.args.settings.now in
    let next = c.next_attempt-attempt in
    let u = next.new.work in
    let a = c.args.asked in
    let same = next.ensures.same_meaning in
    let test : acceptable m allowed t.restrictions (text_at u a.text) ≡ true =
    sym (c.is_acceptable-passes.ensures.acceptable_by_definition ∙ (λ k. acceptable (same k) allowed (c.restrictions.ensures.restrictions_in_the_order_written k) (c.of-path.ensures.part_of_the_text k))) ∙ c.if-passes.true in
    λ limit few.
    rest_moves (on_candidate m allowed t limit c.requires.testing) few c.first_unit-unit.ensures.first_of_its_units next.ensures.only_its_unit_is_written c.args.progress next.result.1 next.result.0 next.ensures.next_of_the_attempts (search rules) u (Return (Ok (Some a.text)))
    refl refl (cond-true _ _ _ test) (omega arith) tt c.requires.testing.short

pub returns-else-passes-clause-one_move_of_the_call : goal.returns-else-passes-clause-one_move_of_the_call
returns-else-passes-clause-one_move_of_the_call g c =
    let m = g.H.FileTree.meaning c.args.host.now in
    let allowed = g.P.Policy.allowed c.args.policy.now in
    let t = tables c.args.settings.now in
    let next = c.next_attempt-attempt in
    let u = next.new.work in
    let a = c.args.asked in
    let same = next.ensures.same_meaning in
    let test : acceptable m allowed t.restrictions (text_at u a.text) ≡ false =
    sym (c.is_acceptable-passes.ensures.acceptable_by_definition ∙ (λ k. acceptable (same k) allowed (c.restrictions.ensures.restrictions_in_the_order_written k) (c.of-path.ensures.part_of_the_text k))) ∙ c.if-passes.false in
    λ limit few.
    rest_moves (on_candidate m allowed t limit c.requires.testing) few c.first_unit-unit.ensures.first_of_its_units next.ensures.only_its_unit_is_written c.args.progress next.result.1 next.result.0 next.ensures.next_of_the_attempts (search rules) u (Return (Ok None))
    refl refl (cond-false _ _ _ test) (omega arith) tt tt
