use Rattle.std.proofs.Common.{◌≡◌, None, rules, ap, ◌∙◌}
use Rattle.settings.specs.Meant.{tables}
use Rattle.lookup.specs.Outcomes.{Outcome, Room, buffers_after, refusal, room_of}
use Rattle.lookup.specs.Resolutions.{resolution_of}
use Rattle.lookup.proofs.Answering.{answers}
use Rattle.lookup.proofs.calls.answer.answer_call.Goals as goal

pub returns-clause-answered_as_defined : goal.returns-clause-answered_as_defined
returns-clause-answered_as_defined g c =
    let m = g.H.FileTree.meaning c.args.host.now in
    let allowed = g.P.Policy.allowed c.args.policy.now in
    let t = tables c.args.settings.now in
    let room : Room = room_of c.args.area.now c.args.rows.now c.args.first.now c.args.second.now c.args.third.now in
    let none : refusal room c.args.directory.now c.args.request.now ≡ None = search rules in
    c.write_answer-outcome.ensures.number_and_lengths
    ∙ ap resolution_of (answers m allowed t room c.args.directory.now c.args.request.now _ none c.run-answer.ensures.ends_as_defined)

pub returns-clause-buffers_as_defined : goal.returns-clause-buffers_as_defined
returns-clause-buffers_as_defined g c =
    let m = g.H.FileTree.meaning c.args.host.now in
    let allowed = g.P.Policy.allowed c.args.policy.now in
    let t = tables c.args.settings.now in
    let room : Room = room_of c.args.area.now c.args.rows.now c.args.first.now c.args.second.now c.args.third.now in
    let none : refusal room c.args.directory.now c.args.request.now ≡ None = search rules in
    c.write_answer-outcome.ensures.texts_in_the_buffers
    ∙ ap (λ (o : Outcome). buffers_after o (c.args.first.now, (c.args.second.now, c.args.third.now))) (answers m allowed t room c.args.directory.now c.args.request.now _ none c.run-answer.ensures.ends_as_defined)
