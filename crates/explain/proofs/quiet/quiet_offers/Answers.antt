use Rattle.std.proofs.Common.{◌≡◌, true, Some, None, map, sym, ap, ◌∙◌}
use Rattle.std.specs.List.{list_all}
use Rattle.texts.specs.Held.{bytes_of}
use Rattle.texts.specs.Parts.{parts}
use Rattle.texts.specs.Texts.{Text}
use Rattle.paths.specs.Joins.{join}
use Rattle.settings.specs.Meant.{tables}
use Rattle.lookup.specs.Laws.{all_untouched, candidates_of}
use Rattle.lookup.specs.Quiet.{readable}
use Rattle.explain.specs.Offers.{shown}
use Rattle.explain.specs.Quiet.{is_untouched}
use Rattle.explain.proofs.QuietSteps.{accepted_is_sought, judged_untouched, offered_of, quiet_by_itself, sought_is}
use Rattle.explain.proofs.quiet.quiet_offers.Goals as goal

pub returns-in_default-clause-of_every_quiet_question_that_is_accepted : goal.returns-in_default-clause-of_every_quiet_question_that_is_accepted
returns-in_default-clause-of_every_quiet_question_that_is_accepted g c s a q =
    let d = c.args.question.directory.now in
    let r = c.args.question.request.now in
    let some : None ≡ Some (join d r) = c.in_default.ensures.sought_path_if_short ∙ accepted_is_sought d r s a q.quiet.is_relative in
    absurd (cc)

pub returns-then-not-all_untouched-clause-of_every_quiet_question_that_is_accepted : goal.returns-then-not-all_untouched-clause-of_every_quiet_question_that_is_accepted
returns-then-not-all_untouched-clause-of_every_quiet_question_that_is_accepted g c s a q =
    let m = g.H.FileTree.meaning c.args.host.now in
    let allowed = g.P.Policy.allowed c.args.policy.now in
    let t = tables c.args.settings.now in
    let d = c.args.question.directory.now in
    let r = c.args.question.request.now in
    let p = c.as_bytes-path.result.now in
    let is : p ≡ join d r = c.as_bytes-path.ensures.bytes_of_the_text ∙ sought_is d r (bytes_of c.in-Some.path) q.quiet.is_relative c.in-Some.ensures.sought_path_if_short in
    let all = offered_of m _ allowed t d r p _ _ c.is_readable.ensures.same_meaning is c.asks_for_directory.ensures.slash_at_the_end_or_a_dot c.in_ok-offers.ensures.every_candidate_with_its_verdict in
    c.if-not-all_untouched.ensures.each_is_untouched p
    ∙ (λ i. list_all (is_untouched (c.aliases.ensures.labels_in_the_order_written i)) (map (shown p) (c.deref.ensures.value i)))
    ∙ ap (list_all (is_untouched t.aliases)) all
    ∙ judged_untouched m allowed t.restrictions t.aliases (candidates_of m t d r)
    ∙ q.quiet.candidates_without_labels

pub returns-clause-only_of_a_quiet_question : goal.returns-clause-only_of_a_quiet_question
returns-clause-only_of_a_quiet_question g c some =
    let m = g.H.FileTree.meaning c.args.host.now in
    let allowed = g.P.Policy.allowed c.args.policy.now in
    let t = tables c.args.settings.now in
    let d = c.args.question.directory.now in
    let r = c.args.question.request.now in
    let p = c.as_bytes-path.result.now in
    let itself = quiet_by_itself t r (sym c.if-not-may_be_quiet.ensures.out_of_context_relative_unmarked_and_untouched) in
    let is : p ≡ join d r = c.as_bytes-path.ensures.bytes_of_the_text ∙ sought_is d r (bytes_of c.in-Some.path) itself.1.1.0 c.in-Some.ensures.sought_path_if_short in
    let all = offered_of m _ allowed t d r p _ _ c.is_readable.ensures.same_meaning is c.asks_for_directory.ensures.slash_at_the_end_or_a_dot c.in_ok-offers.ensures.every_candidate_with_its_verdict in
    let untouched : true ≡ all_untouched t.aliases (candidates_of m t d r) =
    c.if-not-all_untouched.ensures.each_is_untouched p
    ∙ (λ i. list_all (is_untouched (c.aliases.ensures.labels_in_the_order_written i)) (map (shown p) (c.deref.ensures.value i)))
    ∙ ap (list_all (is_untouched t.aliases)) all
    ∙ judged_untouched m allowed t.restrictions t.aliases (candidates_of m t d r) in
    record {
      out_of_context = itself.0;
      quiet = record {
        without_marks = itself.1.0;
        is_relative = itself.1.1.0;
        without_labels = itself.1.1.1;
        candidates_without_labels = sym untouched;
        manifest_readable = ap (λ (x : Text). readable (m.manifest (parts x))) (sym is) ∙ sym c.if-not-is_readable.ensures.readable_by_definition;
      };
    }
