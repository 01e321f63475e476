-- How deep rounds may lie in one another never shows, once it is enough for the rounds that are left. Assumes nothing.
use Rattle.std.proofs.Common.{◌≡◌, ◌+◌, ◌≤◌, ℕ, zero, suc, true, false, cond, ltb, List, [], ◌∷◌, ◌++◌, Some, None, Option, sym, refl, ap, ◌∙◌, ⊎_elim, arith}
use Rattle.std.proofs.lemmas.Bool.{cases_Bool, cond-false, ltb-true}
use Rattle.texts.specs.Texts.{Text, empty, fits, unslashed}
use Rattle.texts.specs.Parts.{parts}
use Rattle.paths.specs.Joins.{join, joins}
use Rattle.specifier.specs.declared.branch.Branch.{Branch}
use Rattle.specifier.specs.declared.branch.Branch.TheVariants as way
use Rattle.specifier.specs.Branches.{branch}
use Rattle.specifier.specs.Requests.{path_of}
use Rattle.tree.specs.Acceptances.{Allowed, acceptable}
use Rattle.tree.specs.Meanings.{Meaning}
use Rattle.settings.specs.Tables.{Tables}
use Rattle.alias.specs.Attempts.{Attempt, attempts}
use Rattle.alias.specs.Attempts as attempt
use Rattle.candidates.specs.Candidates.{Candidate, broken_at, candidates, asks_for_directory, is_directory, overlong, try}
use Rattle.lookup.specs.Faults.{empty_request, long_text, not_found, passes_on, recursion, stays}
use Rattle.lookup.specs.Lookups.{Context, Ended, by_labels, by_way, counted, ends_in, failed, find, look, loosened, missed, or_alone, or_next, or_value, require, round, taking, tested, tests, tries, with_fragment, with_marks}
use Rattle.lookup.proofs.Keeping.{Every, Keeps, Kept, by_rounds, find_keeps, require_keeps, tested_keeps, tries_keep}

module _ (m : Meaning) (allowed : Allowed) (t : Tables) (limit k : ℕ) where
  -- a context of k rounds or more
  abbrev Late : Context → Type 0
  Late c = k ≤ c.rounds

  late : Kept m allowed t limit Late Every
  late = by_rounds m allowed t limit (λ n. k ≤ n) (λ n h l. omega (arith, h))

  abbrev StaysLate : Ended → Type 0
  StaysLate e = Keeps m allowed t limit Late Every late e

  module _ (go on : Context → Ended) (alike : (c : Context) → Late c → go c ≡ on c) where
    next_on : (e : Ended) → StaysLate e → or_next e go ≡ or_next e on
    next_on (ends_in p c) h = refl
    next_on (missed c) h = alike c h
    next_on (failed f c) h = refl

    value_on : (e : Ended) → StaysLate e → or_value e go ≡ or_value e on
    value_on (ends_in p c) h = refl
    value_on (missed c) h = alike c h
    value_on (failed f c) h = ap (λ (x : Ended). cond (passes_on f) x (failed f c)) (alike c h)

    alone_on : (e : Ended) → StaysLate e → or_alone e go ≡ or_alone e on
    alone_on (ends_in p c) h = refl
    alone_on (missed c) h = alike c h
    alone_on (failed f c) h = ap (λ (x : Ended). cond (stays f) (failed f c) x) (alike c h)

  module _ (again other : Text → Text → Context → Ended) (keeps : (dir r : Text) (c : Context) → Late c → StaysLate (again dir r c)) (same : (dir r : Text) (c : Context) → Late c → again dir r c ≡ other dir r c) where
    tries_same : (dir : Text) (ts : List Attempt) (c : Context) → Late c → tries m allowed t again dir ts c ≡ tries m allowed t other dir ts c
    tries_same dir [] c h = refl
    tries_same dir (attempt.again r ∷ more) c h =
        value_on (λ d. tries m allowed t again dir more d) (λ d. tries m allowed t other dir more d) (λ d g. tries_same dir more d g) (again dir r (loosened c)) (keeps dir r (loosened c) h)
        ∙ ap (λ (x : Ended). or_value x (λ d. tries m allowed t other dir more d)) (same dir r (loosened c) h)
    tries_same dir (attempt.ignored p ∷ more) c h = refl
    tries_same dir (attempt.unmatched r l ∷ more) c h = refl
    tries_same dir (attempt.overlong ∷ more) c h = refl

    tested_same : (p : Text) (c : Context) → Late c → tested m allowed t again p c ≡ tested m allowed t other p c
    tested_same p c h =
        ap (λ (x : Ended). or_next x (λ d. cond (acceptable m allowed t.restrictions p) (ends_in p d) (missed d))) (tries_same p (attempts m p p t.aliases) c h)

    tests_same : (cs : List Candidate) (c : Context) → Late c → tests m allowed t again cs c ≡ tests m allowed t other cs c
    tests_same [] c h = refl
    tests_same (try p ∷ more) c h =
        next_on (λ d. tests m allowed t again more d) (λ d. tests m allowed t other more d) (λ d g. tests_same more d g) (tested m allowed t again p c)
        (tested_keeps m allowed t limit Late Every late again keeps p c h)
        ∙ ap (λ (x : Ended). or_next x (λ d. tests m allowed t other more d)) (tested_same p c h)
    tests_same (broken_at p ∷ more) c h = refl
    tests_same (overlong ∷ more) c h = refl

    look_same : (r p : Text) (c : Context) → Late c → look m allowed t again r p c ≡ look m allowed t other r p c
    look_same r p c h =
        ap (λ (x : Ended). cond t.context (cond (is_directory (m.kind (parts p))) (ends_in p c) (failed (not_found r) c)) (or_next x (λ d. failed (not_found r) d)))
        (tests_same (candidates t c.fully m (asks_for_directory r) p) c h)

    way_same : (b : Branch) (dir r : Text) (c : Context) → Late c → by_way m allowed t again b dir r c ≡ by_way m allowed t other b dir r c
    way_same way.Absolute dir r c h = look_same r (unslashed r) c h
    way_same way.Relative dir r c h = ap (λ (x : Ended). cond (joins dir r) x (failed long_text c)) (look_same r (join dir r) c h)
    way_same way.Hash dir r c h = refl
    way_same way.Package dir r c h = refl

    find_same : (dir r : Text) (c : Context) → Late c → find m allowed t again dir r c ≡ find m allowed t other dir r c
    unfolding find
    find_same dir r c h =
        next_on (λ d. by_way m allowed t again (branch r) dir r d) (λ d. by_way m allowed t other (branch r) dir r d) (λ d g. way_same (branch r) dir r d g) (by_labels m allowed t again dir r c)
        (tries_keep m allowed t limit Late Every late again keeps dir (attempts m dir r t.aliases) c h)
        ∙ ap (λ (x : Ended). or_next x (λ d. by_way m allowed t other (branch r) dir r d)) (tries_same dir (attempts m dir r t.aliases) c h)

    marks_same : (q f : Option Text) (dir r : Text) (c : Context) → Late c → with_marks m allowed t again q f dir r c ≡ with_marks m allowed t other q f dir r c
    marks_same None None dir r c h = find_same dir r c h
    marks_same (Some q) f dir r c h = find_same dir r c h
    marks_same None (Some f) dir r c h =
        ap (λ (x : Ended). cond (fits (r ++ f)) x (failed long_text c))
        (alone_on (λ d. find m allowed t again dir r (with_fragment (Some f) d)) (λ d. find m allowed t other dir r (with_fragment (Some f) d)) (λ d g. find_same dir r (with_fragment (Some f) d) g)
        (find m allowed t again dir (r ++ f) (with_fragment None c))
        (find_keeps m allowed t limit Late Every late again keeps dir (r ++ f) (with_fragment None c) h)
        ∙ ap (λ (x : Ended). or_alone x (λ d. find m allowed t other dir r (with_fragment (Some f) d))) (find_same dir (r ++ f) (with_fragment None c) h))

    round_same : (dir r : Text) (c : Context) → Late c → round m allowed t again dir r c ≡ round m allowed t other dir r c
    unfolding round
    round_same dir r c h =
        ap (λ (x : Ended). cond (empty (path_of r)) (failed (empty_request r) c) x) (marks_same (taking r c).query (taking r c).fragment dir (path_of r) (taking r c) h)

pub none_left : (a b : ℕ) → b ≤ a → ltb a b ≡ false
none_left a b h = ⊎_elim
    (λ (e : ltb a b ≡ true). absurd (omega (arith, h, ltb-true a b e)))
    (λ (e : ltb a b ≡ false). e)
    (cases_Bool (ltb a b))

module _ (m : Meaning) (allowed : Allowed) (t : Tables) (limit : ℕ) where
  pub nesting_alike : (n k : ℕ) (dir r : Text) (c : Context) → limit ≤ n + c.rounds → limit ≤ k + c.rounds → require m allowed t limit n dir r c ≡ require m allowed t limit k dir r c
  unfolding require
  nesting_alike zero zero dir r c h g = refl
  nesting_alike zero (suc k) dir r c h g = sym (cond-false _ _ _ (none_left c.rounds limit (omega (arith, h))))
  nesting_alike (suc n) zero dir r c h g = cond-false _ _ _ (none_left c.rounds limit (omega (arith, g)))
  nesting_alike (suc n) (suc k) dir r c h g =
      ap (λ (x : Ended). cond (ltb c.rounds limit) x (failed recursion c))
      (round_same m allowed t limit (suc c.rounds)
      (λ e u d. require m allowed t limit n e u d)
      (λ e u d. require m allowed t limit k e u d)
      (λ e u d l. require_keeps m allowed t limit (Late m allowed t limit (suc c.rounds)) Every (late m allowed t limit (suc c.rounds)) n e u d l)
      (λ e u d l. nesting_alike n k e u d (omega (arith, h, l)) (omega (arith, g, l)))
      dir r (counted c) (omega arith))
