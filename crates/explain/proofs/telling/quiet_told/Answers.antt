use Rattle.std.proofs.Common.{◌≡◌, ◌∷◌, ◌++◌, [], is_some, IfSome, Some, None, Option, sym, ap, subst, refl, ◌∙◌}
use Rattle.std.specs.Option.{option_map}
use Rattle.std.proofs.lemmas.Bool.{false≢true}
use Rattle.lines.specs.Sheets.{LINE_END}
use Rattle.texts.specs.Held.{bytes_of}
use Rattle.settings.specs.Meant.{tables}
use Rattle.lookup.specs.Outcomes.{Room, answer, refusal}
use Rattle.explain.specs.declared.sentence.quiet.QuietEnd.{QuietEnd}
use Rattle.explain.specs.Quiet.{quiet_outcome, quiet_sentence}
use Rattle.explain.specs.Telling.{QuietTold}
use Rattle.explain.proofs.Writing.{took_nothing}
use Rattle.explain.proofs.telling.quiet_told.Goals as goal

pub returns-clause-end_of_a_quiet_question : goal.returns-clause-end_of_a_quiet_question
returns-clause-end_of_a_quiet_question g c =
    let m = g.H.FileTree.meaning c.args.host.now in
    let allowed = g.P.Policy.allowed c.args.policy.now in
    let t = tables c.args.settings.now in
    let dir = c.args.question.directory.now in
    let r = c.args.question.request.now in
    let p = option_map bytes_of c.in-Some.quiet.path in (
      quiet_sentence p ++ LINE_END ∷ [],
      (
        c.in_ok-write.ensures.bytes,
        (
          Some p,
          (
            record {
              only_if_quiet = λ e. c.in_ok-quiet.ensures.only_of_a_quiet_question (ap is_some c.in-Some.is);
              if_quiet_and_accepted = λ a b q. refl;
              answers_so =
                  subst (λ (o : Option QuietEnd). IfSome o (λ e. (room : Room) → refusal room dir r ≡ None → answer m allowed t room dir r ≡ quiet_outcome r (option_map bytes_of e.path))) c.in-Some.is
                  c.in_ok-quiet.ensures.every_accepted_call_answers_so;
            },
            refl,
          ),
        ),
      ),
    )

pub returns-in_default-clause-end_of_a_quiet_question : goal.returns-in_default-clause-end_of_a_quiet_question
returns-in_default-clause-end_of_a_quiet_question g c = (
  [],
  (
    took_nothing _,
    (
      None,
      (
        record {
          only_if_quiet = λ e. absurd (false≢true e);
          if_quiet_and_accepted = λ a b q. sym (ap is_some c.in_default.is) ∙ c.in_ok-quiet.ensures.of_every_quiet_question_that_is_accepted a b q;
          answers_so = tt;
        },
        refl,
      ),
    ),
  ),
)
