use Rattle.std.proofs.Common.{◌≡◌, map, option_map, true, false, List, [], ◌∷◌, ◌++◌, Some, ap, sym, ◌∙◌}
use Rattle.std.proofs.lemmas.List.{append-nil, map-append}
use Rattle.texts.specs.Texts.{empty}
use Rattle.replay.specs.Cases.{stored}
use Rattle.replay.specs.Lists.{Front, Stored, cases_of}
use Rattle.replay.proofs.Listed.{no_case, no_case_left, one_behind, one_case}
use Rattle.replay.proofs.Rows.{empty_by_length}
use Rattle.replay.proofs.case.cases.Goals as goal

pub returns-in_default : goal.returns-in_default
returns-in_default c =
    let inv = c.loop-left.invariant in
    let more : empty c.loop-left.left.now ≡ false = empty_by_length _ _ c.is_empty.ensures ∙ c.loop-left-test.true in
    let none = sym c.in_default.ensures.case_at_the_front in
    record {
      cases_in_their_order = sym (ap (option_map (λ (cs : List Stored). map stored c.loop-left.cases.items ++ cs)) (no_case inv.0 _ more none)) ∙ inv.2;
    }

pub loop-left-preserved : goal.loop-left-preserved
loop-left-preserved c =
    let inv = c.loop-left.invariant in
    let items = c.loop-left.cases.items in
    let f : Front = record { case = stored c.in-Some.case; rest = c.in-Some.rest.now } in
    let more : empty c.loop-left.left.now ≡ false = empty_by_length _ _ c.is_empty.ensures ∙ c.loop-left-test.true in
    let step = one_case inv.0 c.loop-left.left.now f more inv.1 c.in-Some.ensures.something_is_taken (sym c.in-Some.ensures.case_at_the_front) in
    let then : map stored c.push.new.self.items ≡ map stored items ++ f.case ∷ [] =
    ap (map stored) c.in_ok-push.ensures.items ∙ map-append stored items (c.in-Some.case ∷ []) in (
      step.0,
      step.1,
      ap (λ (xs : List Stored). option_map (λ (cs : List Stored). xs ++ cs) (cases_of step.0 f.rest)) then
          ∙ one_behind (map stored items) f.case (cases_of step.0 f.rest)
          ∙ sym (ap (option_map (λ (cs : List Stored). map stored items ++ cs)) step.2)
          ∙ inv.2,
    )

pub returns : goal.returns
returns c =
    let inv = c.loop-left.invariant in
    let none : empty c.loop-left.left.now ≡ true = empty_by_length _ _ c.is_empty.ensures ∙ c.loop-left-test.false in
    record {
      cases_in_their_order =
          sym (ap Some (append-nil (map stored c.loop-left.cases.items)))
          ∙ sym (ap (option_map (λ (cs : List Stored). map stored c.loop-left.cases.items ++ cs)) (no_case_left inv.0 _ none))
          ∙ inv.2;
    }
