-- What holds of a lookup from step to step holds of how it ends: of the path that it hands out, and of the context then. Assumes nothing.
use Rattle.std.proofs.Common.{◌≡◌, ℕ, zero, suc, ◌<◌, Bool, true, false, cond, ltb, List, [], ◌∷◌, ◌++◌, Some, None, Option, refl}
use Rattle.std.proofs.lemmas.Bool.{ltb-true}
use Rattle.texts.specs.Texts.{Text, empty, fits, unslashed}
use Rattle.texts.specs.Parts.{parts}
use Rattle.paths.specs.Joins.{join, joins}
use Rattle.specifier.specs.declared.branch.Branch.{Branch}
use Rattle.specifier.specs.declared.branch.Branch.TheVariants as way
use Rattle.specifier.specs.Branches.{branch}
use Rattle.specifier.specs.Requests.{path_of}
use Rattle.tree.specs.declared.answers.Way.{Way}
use Rattle.tree.specs.declared.answers.Way.TheVariants as asked
use Rattle.tree.specs.Acceptances.{Allowed, acceptable}
use Rattle.tree.specs.Meanings.{Finding, Meaning, Path, faulty, found, missing}
use Rattle.settings.specs.Tables.{Tables}
use Rattle.alias.specs.Attempts.{Attempt, attempts}
use Rattle.alias.specs.Attempts as attempt
use Rattle.candidates.specs.Candidates.{Candidate, broken_at, candidates, asks_for_directory, is_directory, overlong, try}
use Rattle.lookup.specs.Faults.{empty_request, long_text, not_found, passes_on, recursion, stays}
use Rattle.lookup.specs.Lookups.{Context, Ended, answered_by, by_labels, by_way, counted, ends_in, failed, find, look, loosened, missed, or_alone, or_next, or_value, require, round, taking, tested, tests, tries, with_fragment, with_marks}

-- what is kept: In of each context, Ok of each path
pub record Kept (m : Meaning) (allowed : Allowed) (t : Tables) (limit : ℕ) (In : Context → Type 0) (Ok : Text → Type 0) : Type 0 where
  pub loosened_too : (c : Context) → In c → In (loosened c)
  pub marked_too : (f : Option Text) (c : Context) → In c → In (with_fragment f c)
  pub taken_too : (r : Text) (c : Context) → In c → In (taking r c)
  pub counted_too : (c : Context) → In c → c.rounds < limit → In (counted c)
  pub accepted : (p : Text) → acceptable m allowed t.restrictions p ≡ true → Ok p
  pub looked_up : (w : Way) (r : Text) (dir : Path) (p : Text) → m.lookup w r dir ≡ found p → Ok p
  pub in_context : t.context ≡ true → (p : Text) → Ok p

-- nothing is asked of a path
abbrev pub Every : Text → Type 0
Every p = Unit {0}

-- what holds of the rounds run is kept, if it holds of one more while one is left
pub by_rounds : (m : Meaning) (allowed : Allowed) (t : Tables) (limit : ℕ) (Of : ℕ → Type 0) → ((n : ℕ) → Of n → n < limit → Of (suc n)) → Kept m allowed t limit (λ c. Of c.rounds) Every
by_rounds m allowed t limit Of one_more = record {
  loosened_too = λ c h. h;
  marked_too = λ f c h. h;
  taken_too = λ r c h. h;
  counted_too = λ c h l. one_more c.rounds h l;
  accepted = λ p e. tt;
  looked_up = λ w r dir p e. tt;
  in_context = λ e p. tt;
}

module _ (m : Meaning) (allowed : Allowed) (t : Tables) (limit : ℕ) (In : Context → Type 0) (Ok : Text → Type 0) (k : Kept m allowed t limit In Ok) where
  -- of an end
  abbrev pub Keeps : Ended → Type 0
  Keeps (ends_in p c) = Ok p × In c
  Keeps (missed c) = In c
  Keeps (failed f c) = In c

  next_keeps : (e : Ended) (go : Context → Ended) → Keeps e → ((c : Context) → In c → Keeps (go c)) → Keeps (or_next e go)
  next_keeps (ends_in p c) go h g = h
  next_keeps (missed c) go h g = g c h
  next_keeps (failed f c) go h g = h

  either : (b : Bool) (x y : Ended) → Keeps x → Keeps y → Keeps (cond b x y)
  either true x y h g = h
  either false x y h g = g

  value_keeps : (e : Ended) (go : Context → Ended) → Keeps e → ((c : Context) → In c → Keeps (go c)) → Keeps (or_value e go)
  value_keeps (ends_in p c) go h g = h
  value_keeps (missed c) go h g = g c h
  value_keeps (failed f c) go h g = either (passes_on f) (go c) (failed f c) (g c h) h

  alone_keeps : (e : Ended) (go : Context → Ended) → Keeps e → ((c : Context) → In c → Keeps (go c)) → Keeps (or_alone e go)
  alone_keeps (ends_in p c) go h g = h
  alone_keeps (missed c) go h g = g c h
  alone_keeps (failed f c) go h g = either (stays f) (failed f c) (go c) h (g c h)

  found_keeps : (w : Way) (r : Text) (dir : Path) (x : Finding) (c : Context) → m.lookup w r dir ≡ x → In c → Keeps (answered_by r x c)
  found_keeps w r dir (found p) c e h = (k.looked_up w r dir p e, h)
  found_keeps w r dir missing c e h = h
  found_keeps w r dir faulty c e h = h

  module _ (again : Text → Text → Context → Ended) (again_keeps : (dir r : Text) (c : Context) → In c → Keeps (again dir r c)) where
    pub tries_keep : (dir : Text) (ts : List Attempt) (c : Context) → In c → Keeps (tries m allowed t again dir ts c)
    tries_keep dir [] c h = h
    tries_keep dir (attempt.again r ∷ more) c h =
        value_keeps (again dir r (loosened c)) (λ d. tries m allowed t again dir more d) (again_keeps dir r (loosened c) (k.loosened_too c h)) (λ d g. tries_keep dir more d g)
    tries_keep dir (attempt.ignored p ∷ more) c h = h
    tries_keep dir (attempt.unmatched r l ∷ more) c h = h
    tries_keep dir (attempt.overlong ∷ more) c h = h

    accepted_keeps : (p : Text) (b : Bool) (d : Context) → acceptable m allowed t.restrictions p ≡ b → In d → Keeps (cond b (ends_in p d) (missed d))
    accepted_keeps p true d e h = (k.accepted p e, h)
    accepted_keeps p false d e h = h

    pub tested_keeps : (p : Text) (c : Context) → In c → Keeps (tested m allowed t again p c)
    tested_keeps p c h =
        next_keeps (by_labels m allowed t again p p c) (λ d. cond (acceptable m allowed t.restrictions p) (ends_in p d) (missed d))
        (tries_keep p (attempts m p p t.aliases) c h)
        (λ d g. accepted_keeps p (acceptable m allowed t.restrictions p) d refl g)

    tests_keep : (cs : List Candidate) (c : Context) → In c → Keeps (tests m allowed t again cs c)
    tests_keep [] c h = h
    tests_keep (try p ∷ more) c h = next_keeps (tested m allowed t again p c) (λ d. tests m allowed t again more d) (tested_keeps p c h) (λ d g. tests_keep more d g)
    tests_keep (broken_at p ∷ more) c h = h
    tests_keep (overlong ∷ more) c h = h

    look_keeps : (r p : Text) (c : Context) → In c → Keeps (look m allowed t again r p c)
    look_keeps r p c h = at t.context refl
      where
        at : (b : Bool) → t.context ≡ b
            → Keeps (cond b (cond (is_directory (m.kind (parts p))) (ends_in p c) (failed (not_found r) c)) (or_next (tests m allowed t again (candidates t c.fully m (asks_for_directory r) p) c) (λ d. failed (not_found r) d)))
        at true e = either (is_directory (m.kind (parts p))) (ends_in p c) (failed (not_found r) c) (k.in_context e p, h) h
        at false e = next_keeps (tests m allowed t again (candidates t c.fully m (asks_for_directory r) p) c) (λ d. failed (not_found r) d) (tests_keep (candidates t c.fully m (asks_for_directory r) p) c h) (λ d g. g)

    way_keeps : (b : Branch) (dir r : Text) (c : Context) → In c → Keeps (by_way m allowed t again b dir r c)
    way_keeps way.Absolute dir r c h = look_keeps r (unslashed r) c h
    way_keeps way.Relative dir r c h = either (joins dir r) (look m allowed t again r (join dir r) c) (failed long_text c) (look_keeps r (join dir r) c h) h
    way_keeps way.Hash dir r c h = found_keeps asked.Hash r (parts dir) (m.lookup asked.Hash r (parts dir)) c refl h
    way_keeps way.Package dir r c h = found_keeps asked.Package r (parts dir) (m.lookup asked.Package r (parts dir)) c refl h

    pub find_keeps : (dir r : Text) (c : Context) → In c → Keeps (find m allowed t again dir r c)
    unfolding find
    find_keeps dir r c h =
        next_keeps (by_labels m allowed t again dir r c) (λ d. by_way m allowed t again (branch r) dir r d) (tries_keep dir (attempts m dir r t.aliases) c h) (λ d g. way_keeps (branch r) dir r d g)

    marks_keep : (q f : Option Text) (dir r : Text) (c : Context) → In c → Keeps (with_marks m allowed t again q f dir r c)
    marks_keep None None dir r c h = find_keeps dir r c h
    marks_keep (Some q) f dir r c h = find_keeps dir r c h
    marks_keep None (Some f) dir r c h =
        either (fits (r ++ f)) (or_alone (find m allowed t again dir (r ++ f) (with_fragment None c)) (λ d. find m allowed t again dir r (with_fragment (Some f) d))) (failed long_text c)
        (alone_keeps (find m allowed t again dir (r ++ f) (with_fragment None c)) (λ d. find m allowed t again dir r (with_fragment (Some f) d))
        (find_keeps dir (r ++ f) (with_fragment None c) (k.marked_too None c h))
        (λ d g. find_keeps dir r (with_fragment (Some f) d) (k.marked_too (Some f) d g)))
        h

    round_keeps : (dir r : Text) (c : Context) → In c → Keeps (round m allowed t again dir r c)
    unfolding round
    round_keeps dir r c h =
        either (empty (path_of r)) (failed (empty_request r) c) (with_marks m allowed t again (taking r c).query (taking r c).fragment dir (path_of r) (taking r c))
        h
        (marks_keep (taking r c).query (taking r c).fragment dir (path_of r) (taking r c) (k.taken_too r c h))

  pub require_keeps : (n : ℕ) (dir r : Text) (c : Context) → In c → Keeps (require m allowed t limit n dir r c)
  unfolding require
  require_keeps zero dir r c h = h
  require_keeps (suc n) dir r c h = at (ltb c.rounds limit) refl (λ e u d g. require_keeps n e u d g)
    where
      at : (b : Bool) → ltb c.rounds limit ≡ b → ((e u : Text) (d : Context) → In d → Keeps (require m allowed t limit n e u d))
          → Keeps (cond b (round m allowed t (λ e u d. require m allowed t limit n e u d) dir r (counted c)) (failed recursion c))
      at true e ih = round_keeps (λ e u d. require m allowed t limit n e u d) ih dir r (counted c) (k.counted_too c h (ltb-true c.rounds limit e))
      at false e ih = h
