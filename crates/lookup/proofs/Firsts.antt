-- What the candidates of a quiet request decide. Assumes nothing.
use Rattle.std.proofs.Common.{◌≡◌, ◌⊎◌, ◌↔◌, Bool, true, false, cond, List, [], ◌∷◌, ◌++◌, None, Option, sym, refl, ap, subst, ◌∙◌, inl, inr}
use Rattle.std.specs.List.{AllByRecursion}
use Rattle.std.proofs.lemmas.Bool.{cond-true, cond-false}
use Rattle.texts.specs.Texts.{Text}
use Rattle.paths.specs.Joins.{joins}
use Rattle.specifier.specs.declared.branch.Branch.{Branch}
use Rattle.specifier.specs.declared.branch.Branch.TheVariants as way
use Rattle.specifier.specs.Branches.{branch}
use Rattle.specifier.specs.Rules.{AllPath}
use Rattle.tree.specs.Acceptances.{Allowed, acceptable}
use Rattle.tree.specs.Meanings.{Meaning}
use Rattle.settings.specs.Tables.{Tables}
use Rattle.candidates.specs.Candidates.{Candidate, broken_at, overlong, try}
use Rattle.lookup.specs.Faults.{Fault, broken_manifest, long_text, not_found}
use Rattle.lookup.specs.Laws.{all_untouched, candidates_of, decided, untouched}
use Rattle.lookup.specs.Lookups.{by_way}
use Rattle.lookup.specs.Outcomes.{rounds_of, Outcome, Room, answer, lookup, number_of, outcome_of, path, refused, unless_refused}
use Rattle.lookup.specs.Quiet.{First, IsText, NonePasses, QuietCall}
use Rattle.lookup.proofs.Fitting.{all_fits}
use Rattle.lookup.proofs.Quiet.{Again, One, all_path, goes_its_way, relative_decides, relative_is_some}

module _ (m : Meaning) (allowed : Allowed) (t : Tables) (dir r : Text) (plain : t.context ≡ false) (bare : AllPath r) (relative : branch r ≡ way.Relative) (joined : joins dir r ≡ true) (quiet : untouched t.aliases r ≡ true) (others : all_untouched t.aliases (candidates_of m t dir r) ≡ true) where
  -- a request that no label touches, nor any of its candidates: these decide
  pub candidates_decide : lookup m allowed t dir r ≡ decided m allowed t.restrictions r (candidates_of m t dir r)
  candidates_decide =
      goes_its_way m allowed t dir r bare (relative_is_some r relative) quiet
      ∙ ap (λ (b : Branch). outcome_of (by_way m allowed t (Again m allowed t) b dir r (One m allowed t))) relative
      ∙ relative_decides m allowed t dir r plain joined others

module _ (m : Meaning) (allowed : Allowed) (restrictions : List Text) (r : Text) where
  abbrev decides : List Candidate → Outcome
  decides cs = decided m allowed restrictions r cs

  abbrev Texts : List Candidate → Type 0
  Texts cs = AllByRecursion IsText cs

  abbrev Nones : List Candidate → Type 0
  Nones cs = NonePasses m allowed restrictions cs

  first_decides : (before behind : List Candidate) (p : Text) → Texts (before ++ (try p ∷ behind)) → Nones before → acceptable m allowed restrictions p ≡ true
      → decides (before ++ (try p ∷ behind)) ≡ path p None None 1
  first_decides [] behind p h n a = cond-true _ _ _ a
  first_decides (try q ∷ before) behind p h n a = cond-false _ _ _ n.0 ∙ first_decides before behind p h.1 n.1 a
  first_decides (broken_at q ∷ before) behind p h n a = absurd h.0
  first_decides (overlong ∷ before) behind p h n a = absurd h.0

  none_decides : (cs : List Candidate) → Texts cs → Nones cs → decides cs ≡ refused (not_found r) 1
  none_decides [] h n = refl
  none_decides (try q ∷ more) h n = cond-false _ _ _ n.0 ∙ none_decides more h.1 n.1
  none_decides (broken_at q ∷ more) h n = absurd h.0
  none_decides (overlong ∷ more) h n = absurd h.0

  -- one candidate more in front
  behind_one : (q p : Text) (more : List Candidate) → acceptable m allowed restrictions q ≡ false → First m allowed restrictions more p → First m allowed restrictions (try q ∷ more) p
  behind_one q p more a f = record {
    before = try q ∷ f.before;
    behind = f.behind;
    stands_there = ap (λ (cs : List Candidate). try q ∷ cs) f.stands_there;
    none_before = (a, f.none_before);
    is_acceptable = f.is_acceptable;
  }

  path_is_first : (cs : List Candidate) (p : Text) → decides cs ≡ path p None None 1 → First m allowed restrictions cs p
  path_is_first [] p e = absurd (let z : refused (not_found r) 1 ≡ path p None None 1 = e in cc)
  path_is_first (broken_at q ∷ more) p e = absurd (let z : refused (broken_manifest q) 1 ≡ path p None None 1 = e in cc)
  path_is_first (overlong ∷ more) p e = absurd (let z : refused long_text 1 ≡ path p None None 1 = e in cc)
  path_is_first (try q ∷ more) p e = at (acceptable m allowed restrictions q) refl e (path_is_first more p)
    where
      same : path q None None 1 ≡ path p None None 1 → q ≡ p
      same h = cc

      at : (b : Bool) → acceptable m allowed restrictions q ≡ b → cond b (path q None None 1) (decides more) ≡ path p None None 1
          → (decides more ≡ path p None None 1 → First m allowed restrictions more p) → First m allowed restrictions (try q ∷ more) p
      at true a h ih = record {
        before = [];
        behind = more;
        stands_there = ap (λ (s : Text). try s ∷ more) (same h);
        none_before = tt;
        is_acceptable = ap (acceptable m allowed restrictions) (sym (same h)) ∙ a;
      }
      at false a h ih = behind_one q p more a (ih h)

  missing_is_none : (cs : List Candidate) → decides cs ≡ refused (not_found r) 1 → Nones cs
  missing_is_none [] e = tt
  missing_is_none (broken_at q ∷ more) e = absurd (let z : refused (broken_manifest q) 1 ≡ refused (not_found r) 1 = e in cc)
  missing_is_none (overlong ∷ more) e = absurd (let z : refused long_text 1 ≡ refused (not_found r) 1 = e in cc)
  missing_is_none (try q ∷ more) e = at (acceptable m allowed restrictions q) refl e (missing_is_none more)
    where
      at : (b : Bool) → acceptable m allowed restrictions q ≡ b → cond b (path q None None 1) (decides more) ≡ refused (not_found r) 1
          → (decides more ≡ refused (not_found r) 1 → Nones more) → Nones (try q ∷ more)
      at true a h ih = absurd (let z : path q None None 1 ≡ refused (not_found r) 1 = h in cc)
      at false a h ih = (a, ih h)

  path_or_missing : (cs : List Candidate) → Texts cs → (number_of (decides cs) ≡ 0) ⊎ (number_of (decides cs) ≡ 22)
  path_or_missing [] h = inr refl
  path_or_missing (broken_at q ∷ more) h = absurd h.0
  path_or_missing (overlong ∷ more) h = absurd h.0
  path_or_missing (try q ∷ more) h = at (acceptable m allowed restrictions q) (path_or_missing more h.1)
    where
      at : (b : Bool) → (number_of (decides more) ≡ 0) ⊎ (number_of (decides more) ≡ 22)
          → (number_of (cond b (path q None None 1) (decides more)) ≡ 0) ⊎ (number_of (cond b (path q None None 1) (decides more)) ≡ 22)
      at true ih = inl refl
      at false ih = ih

decided_in_one : (m : Meaning) (allowed : Allowed) (restrictions : List Text) (r : Text) (cs : List Candidate) → rounds_of (decided m allowed restrictions r cs) ≡ 1
decided_in_one m allowed restrictions r [] = refl
decided_in_one m allowed restrictions r (broken_at p ∷ more) = refl
decided_in_one m allowed restrictions r (overlong ∷ more) = refl
decided_in_one m allowed restrictions r (try p ∷ more) = at (acceptable m allowed restrictions p) (decided_in_one m allowed restrictions r more)
  where
    at : (b : Bool) → rounds_of (decided m allowed restrictions r more) ≡ 1 → rounds_of (cond b (path p None None 1) (decided m allowed restrictions r more)) ≡ 1
    at true h = refl
    at false h = h

module _ (m : Meaning) (allowed : Allowed) (t : Tables) (room : Room) (dir r : Text) (call : QuietCall m t room dir r) where
  abbrev listed : List Candidate
  listed = candidates_of m t dir r

  texts : AllByRecursion IsText listed
  texts = (all_fits m t room dir r call).candidates_are_texts

  answer_is : answer m allowed t room dir r ≡ decided m allowed t.restrictions r listed
  answer_is =
      let q = call.quiet in
      ap (λ (o : Option Fault). unless_refused o (lookup m allowed t dir r)) call.accepted
      ∙ candidates_decide m allowed t dir r call.out_of_context (all_path r q.without_marks) q.is_relative (all_fits m t room dir r call).path_joins q.without_labels q.candidates_without_labels

  pub one_round : rounds_of (answer m allowed t room dir r) ≡ 1
  one_round = ap rounds_of answer_is ∙ decided_in_one m allowed t.restrictions r listed

  pub gives_the_first : (p : Text) → (answer m allowed t room dir r ≡ path p None None 1) ↔ First m allowed t.restrictions listed p
  gives_the_first p = (
    λ h. path_is_first m allowed t.restrictions r listed p (sym answer_is ∙ h),
    λ f. answer_is
        ∙ ap (decided m allowed t.restrictions r) f.stands_there
        ∙ first_decides m allowed t.restrictions r f.before f.behind p (subst (AllByRecursion IsText) f.stands_there texts) f.none_before f.is_acceptable,
  )

  pub nothing_if_none : (answer m allowed t room dir r ≡ refused (not_found r) 1) ↔ NonePasses m allowed t.restrictions listed
  nothing_if_none = (λ h. missing_is_none m allowed t.restrictions r listed (sym answer_is ∙ h), λ n. answer_is ∙ none_decides m allowed t.restrictions r listed texts n)

  pub ends_in_0_or_22 : (number_of (answer m allowed t room dir r) ≡ 0) ⊎ (number_of (answer m allowed t room dir r) ≡ 22)
  ends_in_0_or_22 = subst (λ (o : Outcome). (number_of o ≡ 0) ⊎ (number_of o ≡ 22)) (sym answer_is) (path_or_missing m allowed t.restrictions r listed texts)
