-- A request that is all path and that no label touches: how its lookup ends. Assumes nothing.
use Rattle.std.proofs.Common.{◌≡◌, Bool, true, false, cond, not, List, [], ◌∷◌, None, Option, sym, refl, ap, ◌∙◌, ⊎_elim}
use Rattle.std.proofs.lemmas.Bool.{and_parts, cases_Bool, cond-true, cond-false, false≢true, not-true}
use Rattle.texts.specs.Texts.{HASH, QUESTION, Text, empty, has}
use Rattle.texts.specs.Parts as part
use Rattle.texts.specs.Parts.{parts}
use Rattle.paths.specs.Joins.{joins}
use Rattle.specifier.specs.declared.branch.Branch.TheVariants as way
use Rattle.specifier.specs.Branches.{branch}
use Rattle.specifier.proofs.Readings.{reading}
use Rattle.specifier.specs.Rules.{AllPath}
use Rattle.specifier.specs.Requests.{fragment_of, path_of, query_of, specifier_of}
use Rattle.tree.specs.Acceptances.{Allowed, acceptable}
use Rattle.tree.specs.Meanings.{Meaning}
use Rattle.settings.specs.Tables.{Alias, Tables}
use Rattle.alias.specs.Attempts.{Attempt, attempts}
use Rattle.alias.specs.Forms.{touches}
use Rattle.candidates.specs.Candidates.{Candidate, broken_at, overlong, try}
use Rattle.lookup.specs.Faults.{empty_request, not_found}
use Rattle.lookup.specs.Laws.{all_untouched, candidates_of, decided, unmarked, untouched}
use Rattle.lookup.specs.Lookups.{Context, Ended, by_way, counted, ends_in, failed, find, missed, newer, or_next, require, round, tested, tests, tries, with_marks}
use Rattle.lookup.specs.Outcomes.{fresh, lookup, outcome_of, refused, rounds_at_most}

pub all_path : (r : Text) → unmarked r ≡ true → AllPath r
all_path r h =
    let p = and_parts (not (has QUESTION r)) (not (has HASH r)) h in
    (reading r (specifier_of r) refl).all_path_without_marks (not-true _ p.0) (not-true _ p.1)

module _ (m : Meaning) (dir r : Text) where
  pub no_attempts : (labels : List Alias) → untouched labels r ≡ true → attempts m dir r labels ≡ []
  unfolding attempts
  no_attempts [] h = refl
  no_attempts (a ∷ more) h = ⊎_elim
      (λ (b : touches a.label r ≡ true). absurd (false≢true (sym (cond-true _ _ _ b) ∙ h)))
      (λ (b : touches a.label r ≡ false). cond-false _ _ _ b ∙ no_attempts more (sym (cond-false _ _ _ b) ∙ h))
      (cases_Bool (touches a.label r))

module _ (m : Meaning) (allowed : Allowed) (t : Tables) where
  abbrev pub Again : Text → Text → Context → Ended
  Again e u d = require m allowed t rounds_at_most 63 e u d

  -- the context of the one round
  abbrev pub One : Context
  One = record { rounds = 1; fully = t.fully_specified; query = None; fragment = None }

  abbrev marked : Option Text → Option Text → Context
  marked q f = record { rounds = 1; fully = t.fully_specified; query = newer q None; fragment = newer f None }

  module _ (dir r : Text) where
    abbrev step : Text → Option Text → Option Text → Ended
    step p q f = cond (empty p) (failed (empty_request r) (counted (fresh t))) (with_marks m allowed t Again (marked q f).query (marked q f).fragment dir p (marked q f))

    first_round : lookup m allowed t dir r ≡ outcome_of (step (path_of r) (query_of r) (fragment_of r))
    unfolding lookup require round
    first_round = refl

    pub empty_is_refused : AllPath r → empty r ≡ true → lookup m allowed t dir r ≡ refused (empty_request r) 1
    empty_is_refused bare none =
        first_round
        ∙ ap (λ (p : Text). outcome_of (step p (query_of r) (fragment_of r))) bare.path
        ∙ ap outcome_of (cond-true _ _ _ none)

    module _ (bare : AllPath r) (some : empty r ≡ false) (quiet : untouched t.aliases r ≡ true) where
      found_there : find m allowed t Again dir r One ≡ by_way m allowed t Again (branch r) dir r One
      unfolding find
      found_there = ap (λ (ts : List Attempt). or_next (tries m allowed t Again dir ts One) (λ d. by_way m allowed t Again (branch r) dir r d)) (no_attempts m dir r t.aliases quiet)

      pub goes_its_way : lookup m allowed t dir r ≡ outcome_of (by_way m allowed t Again (branch r) dir r One)
      goes_its_way =
          first_round
          ∙ ap (λ (p : Text). outcome_of (step p (query_of r) (fragment_of r))) bare.path
          ∙ ap (λ (q : Option Text). outcome_of (step r q (fragment_of r))) bare.no_query
          ∙ ap (λ (f : Option Text). outcome_of (step r None f)) bare.no_fragment
          ∙ ap outcome_of (cond-false _ _ _ some)
          ∙ ap outcome_of found_there

  -- the candidates decide
  module _ (r : Text) where
    accepted : (p : Text) → untouched t.aliases p ≡ true → tested m allowed t Again p One ≡ cond (acceptable m allowed t.restrictions p) (ends_in p One) (missed One)
    accepted p h = ap (λ (ts : List Attempt). or_next (tries m allowed t Again p ts One) (λ d. cond (acceptable m allowed t.restrictions p) (ends_in p d) (missed d))) (no_attempts m p p t.aliases h)

    pub tests_decide : (cs : List Candidate) → all_untouched t.aliases cs ≡ true
        → outcome_of (or_next (tests m allowed t Again cs One) (λ d. failed (not_found r) d)) ≡ decided m allowed t.restrictions r cs
    tests_decide [] h = refl
    tests_decide (broken_at p ∷ more) h = refl
    tests_decide (overlong ∷ more) h = refl
    tests_decide (try p ∷ more) h =
        let q = and_parts (untouched t.aliases p) (all_untouched t.aliases more) h in
        ap (λ (e : Ended). outcome_of (or_next (or_next e (λ d. tests m allowed t Again more d)) (λ d. failed (not_found r) d))) (accepted p q.0)
        ∙ at (acceptable m allowed t.restrictions p) (tests_decide more q.1)
      where
        at : (b : Bool) → outcome_of (or_next (tests m allowed t Again more One) (λ d. failed (not_found r) d)) ≡ decided m allowed t.restrictions r more
            → outcome_of (or_next (or_next (cond b (ends_in p One) (missed One)) (λ d. tests m allowed t Again more d)) (λ d. failed (not_found r) d))
            ≡ cond b (outcome_of (ends_in p One)) (decided m allowed t.restrictions r more)
        at true ih = refl
        at false ih = ih

  module _ (dir r : Text) (plain : t.context ≡ false) where
    pub relative_decides : joins dir r ≡ true → all_untouched t.aliases (candidates_of m t dir r) ≡ true
        → outcome_of (by_way m allowed t Again way.Relative dir r One) ≡ decided m allowed t.restrictions r (candidates_of m t dir r)
    relative_decides fits h = ap outcome_of (cond-true _ _ _ fits ∙ cond-false _ _ _ plain) ∙ tests_decide r (candidates_of m t dir r) h

pub relative_is_some : (r : Text) → branch r ≡ way.Relative → empty r ≡ false
unfolding branch parts part.marks part.pieces
relative_is_some [] h = absurd (let e : way.Package ≡ way.Relative = h in cc)
relative_is_some (b ∷ r) h = refl
