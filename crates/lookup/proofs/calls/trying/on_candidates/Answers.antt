use Rattle.std.proofs.Common.{None, Ok, rules, sym}
use Rattle.std.proofs.Math.Path.{transport}
use Rattle.texts.specs.Parts.{text_at}
use Rattle.settings.specs.Meant.{tables}
use Rattle.lookup.specs.declared.calls.Move.TheVariants.{Open}
use Rattle.lookup.specs.Turns.{Moved, test_row, trying_row}
use Rattle.lookup.proofs.TryMoves.{candidate_moves_on, fault_moves, none_moves}
use Rattle.lookup.proofs.calls.trying.on_candidates.Goals as goal

pub returns-in-Some-Ok-clause-one_move_of_the_call : goal.returns-in-Some-Ok-clause-one_move_of_the_call
returns-in-Some-Ok-clause-one_move_of_the_call g c =
    let m = g.H.FileTree.meaning c.args.host.now in
    let t = tables c.args.settings.now in
    let next = c.next_candidate-candidate in
    let u = next.new.work in
    let a = c.args.asked in
    let path = c.args.path in
    let fully = c.args.fully_specified in
    let x = c.in-Some-Ok.text in
    λ allowed limit few.
    transport (λ k. Moved m allowed t limit c.args.work.now (trying_row a path fully c.args.walk) (Ok None) c.args.context (Open (trying_row a path fully next.result.1) (test_row (sym c.with_text.ensures.same_with_another_text k) c.new.result)) u c.args.context)
    (candidate_moves_on m allowed t limit c.requires.trying few fully c.first_unit-unit.ensures.first_of_its_units next.ensures.only_its_unit_is_written c.args.walk next.result.1 next.result.0 next.ensures.next_of_the_candidates x (search rules) c.new.result (c.new.ensures.every_attempt_is_left m (text_at u x) (text_at u x) t.aliases))

pub returns-in-Some-Err-clause-one_move_of_the_call : goal.returns-in-Some-Err-clause-one_move_of_the_call
returns-in-Some-Err-clause-one_move_of_the_call g c =
    let next = c.next_candidate-candidate in
    λ allowed limit few.
    fault_moves (g.H.FileTree.meaning c.args.host.now) allowed (tables c.args.settings.now) limit c.requires.trying few c.args.fully_specified c.first_unit-unit.ensures.first_of_its_units next.ensures.only_its_unit_is_written c.args.walk next.result.1 next.result.0 next.ensures.next_of_the_candidates c.in-Some-Err.fault (search rules)

pub returns-in-None-clause-one_move_of_the_call : goal.returns-in-None-clause-one_move_of_the_call
returns-in-None-clause-one_move_of_the_call g c =
    let next = c.next_candidate-candidate in
    λ allowed limit few.
    none_moves (g.H.FileTree.meaning c.args.host.now) allowed (tables c.args.settings.now) limit c.requires.trying few c.args.fully_specified c.first_unit-unit.ensures.first_of_its_units next.ensures.only_its_unit_is_written c.args.walk next.result.1 next.result.0 next.ensures.next_of_the_candidates c.in-None.is
