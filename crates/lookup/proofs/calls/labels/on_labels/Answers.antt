use Rattle.std.proofs.Common.{◌≡◌, ◌<◌, rules, map, None, Ok, sym, arith}
use Rattle.std.proofs.Math.Path.{transport}
use Rattle.texts.specs.Parts.{text_at}
use Rattle.specifier.specs.Branches.{branch}
use Rattle.settings.specs.Meant.{tables}
use Rattle.lookup.specs.declared.calls.Move.TheVariants.{Open}
use Rattle.lookup.specs.Calls.{again, plugged}
use Rattle.lookup.specs.Lookups.{by_way}
use Rattle.lookup.specs.Moves.{label_moves, weights}
use Rattle.lookup.specs.Opened.{context_of, shown}
use Rattle.lookup.specs.Turns.{Moved, came_back, labels_row, rows_of}
use Rattle.lookup.proofs.AttemptMoves.{fault_moves, on_request, rest_moves, value_moves}
use Rattle.lookup.proofs.calls.labels.on_labels.Goals as goal

pub returns-in-Some-Ok-clause-one_move_of_the_call : goal.returns-in-Some-Ok-clause-one_move_of_the_call
returns-in-Some-Ok-clause-one_move_of_the_call g c =
    let m = g.H.FileTree.meaning c.args.host.now in
    let t = tables c.args.settings.now in
    let w = c.args.work.now in
    let next = c.next_attempt-attempt in
    let u = next.new.work in
    let a = c.args.asked in
    λ allowed limit few.
    transport (λ k. Moved m allowed t limit w (labels_row a c.args.progress) (Ok None) c.args.context (Open (labels_row a next.result.1) (sym c.round_of.ensures.round_from_the_same_directory k)) u (sym c.loosened.ensures.fully_specified_off k))
    (value_moves (on_request m allowed t limit c.requires.labelled) few c.first_unit-unit.ensures.first_of_its_units next.ensures.only_its_unit_is_written c.args.progress next.result.1 next.result.0 next.ensures.next_of_the_attempts c.in-Some-Ok.text (search rules))

pub returns-in-Some-Err-clause-one_move_of_the_call : goal.returns-in-Some-Err-clause-one_move_of_the_call
returns-in-Some-Err-clause-one_move_of_the_call g c =
    let next = c.next_attempt-attempt in
    λ allowed limit few.
    fault_moves (on_request (g.H.FileTree.meaning c.args.host.now) allowed (tables c.args.settings.now) limit c.requires.labelled) few c.first_unit-unit.ensures.first_of_its_units next.ensures.only_its_unit_is_written c.args.progress next.result.1 next.result.0 next.ensures.next_of_the_attempts c.in-Some-Err.fault (search rules)

pub returns-in-None-clause-one_move_of_the_call : goal.returns-in-None-clause-one_move_of_the_call
returns-in-None-clause-one_move_of_the_call g c =
    let m = g.H.FileTree.meaning c.args.host.now in
    let t = tables c.args.settings.now in
    let next = c.next_attempt-attempt in
    let u = next.new.work in
    let a = c.args.asked in
    let r = text_at u a.text in
    let same = next.ensures.same_meaning in
    let way = c.go_way-next.ensures in
    let v = c.go_way-next.new.work in
    let move = c.go_way-next.result in
    let fewer : weights t (map (shown m t v) (rows_of move)) < label_moves t 0 = transport (λ k. weights t (map (shown (same k) t v) (rows_of move)) < label_moves t 0) way.fewer_moves in
    λ allowed limit few.
    rest_moves (on_request m allowed t limit c.requires.labelled) few c.first_unit-unit.ensures.first_of_its_units next.ensures.only_its_unit_is_written c.args.progress next.result.1 next.result.0 next.ensures.next_of_the_attempts c.in-None.is v move
    way.only_its_unit_is_written.long way.only_its_unit_is_written.front
    (transport (λ k. by_way (same k) allowed t (again (same k) allowed t limit) (branch r) (text_at u a.directory) r (context_of u c.args.context) ≡ plugged (same k) allowed t limit (map (shown (same k) t v) (rows_of move)) (came_back v t.aliases move c.args.context)) (way.goes_its_way allowed limit))
    (omega arith) (way.well_kept c.args.progress) way.ends_in_a_short_text
