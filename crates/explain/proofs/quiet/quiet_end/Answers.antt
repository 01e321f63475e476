use Rattle.std.proofs.Common.{is_some, map, sym, ap, ◌∙◌}
use Rattle.std.specs.Option.{option_map}
use Rattle.texts.specs.Held.{bytes_of}
use Rattle.paths.specs.Joins.{join}
use Rattle.explain.specs.Offers.{shown}
use Rattle.explain.specs.Quiet.{first_acceptable}
use Rattle.explain.proofs.QuietSteps.{answers_so}
use Rattle.explain.proofs.quiet.quiet_end.Goals as goal

pub returns-clause-every_accepted_call_answers_so : goal.returns-clause-every_accepted_call_answers_so
returns-clause-every_accepted_call_answers_so g c lent accepted =
    let d = c.args.question.directory.now in
    let r = c.args.question.request.now in
    let p = join d r in
    let all = rw c.in-Some.is at c.in_ok-offers.ensures.every_candidate_with_its_verdict in
    answers_so (g.H.FileTree.meaning c.args.host.now) (g.P.Policy.allowed c.args.policy.now) c.args.settings.now lent d r
    (g.met.H.FileTree.proper c.args.host.now c.requires.sound)
    (c.in_ok-offers.ensures.only_of_a_quiet_question (ap is_some c.in-Some.is))
    accepted
    (option_map bytes_of c.first_acceptable-path.result)
    (ap first_acceptable (sym all)
    ∙ (λ i. first_acceptable (map (shown p) (sym c.deref.ensures.value i)))
    ∙ sym (c.first_acceptable-path.ensures.first_that_may_be_handed_out p))
