use Rattle.std.proofs.Common.{◌≡◌, true, false, List, [], ◌∷◌, Option, sym, refl, ap, ◌∙◌, ⊎_elim}
use Rattle.std.proofs.lemmas.Bool.{cases_Bool, cond-false}
use Rattle.texts.specs.Texts.{Text, empty}
use Rattle.texts.specs.Parts.{parts}
use Rattle.specifier.specs.declared.branch.Branch.{Branch}
use Rattle.specifier.specs.declared.branch.Branch.TheVariants as way
use Rattle.specifier.specs.Branches.{branch}
use Rattle.specifier.specs.Rules.{AllPath}
use Rattle.tree.specs.declared.answers.Way.TheVariants as asked
use Rattle.tree.specs.Acceptances.{Allowed}
use Rattle.tree.specs.Meanings.{Meaning}
use Rattle.settings.specs.Tables.{Alias, Tables, Value, labelled}
use Rattle.alias.specs.Forms.{touches}
use Rattle.alias.specs.Laws.{Continues, is_plain}
use Rattle.alias.proofs.Touching.{plain_touches}
use Rattle.lookup.specs.Faults.{Fault}
use Rattle.lookup.specs.Laws.{relabelled, untouched}
use Rattle.lookup.specs.Lookups.{answered_by, by_way}
use Rattle.lookup.specs.Outcomes.{lookup, outcome_of, refusal, unless_refused}
use Rattle.lookup.proofs.Beginning.{area_left, says_if_begun}
use Rattle.lookup.proofs.Ending.{require_decides}
use Rattle.lookup.proofs.Firsts.{candidates_decide, ends_in_0_or_22, gives_the_first, nothing_if_none}
use Rattle.lookup.proofs.Fitting.{all_fits}
use Rattle.lookup.proofs.Holding.{few, fine}
use Rattle.lookup.proofs.Nesting.{nesting_alike}
use Rattle.lookup.proofs.Obeying.{answer_by_rules, lookup_by_rules, obeys, one_answer, that_end_alone}
use Rattle.lookup.proofs.Quiet.{Again, One, all_path, empty_is_refused, goes_its_way}
use Rattle.lookup.proofs.laws.most_rounds.Goals as goal

-- a label that does not touch a bare request for a package
module _ (m : Meaning) (allowed : Allowed) (t : Tables) (dir r : Text) (bare : AllPath r) (outside : branch r ≡ way.Package) where
  package_end : (labels : List Alias) → empty r ≡ false → untouched labels r ≡ true
      → lookup m allowed (relabelled labels t) dir r ≡ outcome_of (answered_by r (m.lookup asked.Package r (parts dir)) (One m allowed t))
  package_end labels some quiet =
      goes_its_way m allowed (relabelled labels t) dir r bare some quiet
      ∙ ap (λ (b : Branch). outcome_of (by_way m allowed (relabelled labels t) (Again m allowed (relabelled labels t)) b dir r (One m allowed t))) outside

  same_end : (labels : List Alias) → untouched labels r ≡ true → lookup m allowed (relabelled labels t) dir r ≡ lookup m allowed (relabelled [] t) dir r
  same_end labels quiet = ⊎_elim
      (λ (e : empty r ≡ true). empty_is_refused m allowed (relabelled labels t) dir r bare e ∙ sym (empty_is_refused m allowed (relabelled [] t) dir r bare e))
      (λ (e : empty r ≡ false). package_end labels e quiet ∙ sym (package_end [] e refl))
      (cases_Bool (empty r))

  module _ (l : Text) (vs : List Value) (plain : is_plain l ≡ true) (beyond : Continues l r → ⊥) where
    untouching : untouched (labelled l vs ∷ []) r ≡ true
    untouching = ⊎_elim
        (λ (b : touches l r ≡ true). absurd (beyond ((plain_touches l r plain).0 b)))
        (λ (b : touches l r ≡ false). cond-false _ _ _ b)
        (cases_Bool (touches l r))

pub returns : goal.returns
returns c = record {
  is_the_limit = refl;
  only_acceptable_paths_are_handed_out = λ m allowed t plain finds room dir r p h. fine m allowed t dir r plain finds (refusal room dir r) p h;
  a_lookup_ends_in_a_path_or_a_fault = λ m allowed t limit n dir r c. require_decides m allowed t limit n dir r c;
  at_most_64_rounds_run = λ m allowed t room dir r. few m allowed t dir r (refusal room dir r);
  answer_says_if_the_lookup_began = λ m allowed t room dir r. says_if_begun m allowed t dir r room;
  text_area_is_zeroed_or_as_it_was = λ room dir r area. area_left (refusal room dir r) area;
  nesting_of_rounds_never_shows = λ m allowed t limit n k dir r c h g. nesting_alike m allowed t limit n k dir r c h g;
  first_acceptable_candidate_is_handed_out = λ m allowed t room dir r plain accepted bare relative joined quiet others.
      ap (λ (o : Option Fault). unless_refused o (lookup m allowed t dir r)) accepted ∙ candidates_decide m allowed t dir r plain (all_path r bare) relative joined quiet others;
  plain_label_covers_only_what_continues_it = λ m allowed t room dir r l vs bare outside plain beyond.
      ap (unless_refused (refusal room dir r)) (same_end m allowed t dir r (all_path r bare) outside (labelled l vs ∷ []) (untouching m allowed t dir r (all_path r bare) outside l vs plain beyond));
  definition_obeys_the_rules = λ m allowed t limit n dir r c h. obeys m allowed t limit n dir r c h;
  rules_give_one_answer = λ m allowed t limit a c e o w v. one_answer m allowed t limit w v;
  rules_hold_of_that_end_alone = λ m allowed t limit n dir r c e h. that_end_alone m allowed t limit n dir r c e h;
  lookups_end_by_the_rules = λ m allowed t dir r o. lookup_by_rules m allowed t dir r o;
  quiet_request_fits = λ m t room dir r q. all_fits m t room dir r q;
  quiet_request_gives_the_first_acceptable_candidate = λ m allowed t room dir r q p. gives_the_first m allowed t room dir r q p;
  nothing_is_found_exactly_when_no_candidate_is_acceptable = λ m allowed t room dir r q. nothing_if_none m allowed t room dir r q;
  quiet_request_ends_in_a_path_or_22 = λ m allowed t room dir r q. ends_in_0_or_22 m allowed t room dir r q;
  calls_answer_by_the_rules = λ m allowed t room dir r o. answer_by_rules m allowed t dir r room o;
}
