-- The definition of a lookup and its rules say the same. Assumes nothing.
use Rattle.std.proofs.Common.{◌≡◌, ◌+◌, ◌<◌, ◌≤◌, ◌↔◌, ℕ, zero, suc, Bool, true, false, cond, ltb, List, [], ◌∷◌, ◌++◌, Some, None, Option, sym, refl, ap, subst, ◌∙◌, arith}
use Rattle.std.proofs.lemmas.Bool.{cond-true, cond-false, false≢true, lt-ltb, ltb-false, ltb-true}
use Rattle.texts.specs.Texts.{Text, empty, fits, unslashed}
use Rattle.texts.specs.Parts.{parts}
use Rattle.paths.specs.Joins.{join, joins}
use Rattle.specifier.specs.declared.branch.Branch.{Branch}
use Rattle.specifier.specs.declared.branch.Branch.TheVariants as way
use Rattle.specifier.specs.Branches.{branch}
use Rattle.specifier.specs.Requests.{path_of}
use Rattle.tree.specs.declared.answers.Way.TheVariants as asked
use Rattle.tree.specs.Acceptances.{Allowed, acceptable}
use Rattle.tree.specs.Meanings.{Finding, Meaning, faulty, found, missing}
use Rattle.settings.specs.Tables.{Tables}
use Rattle.alias.specs.Attempts.{Attempt, attempts}
use Rattle.alias.specs.Attempts as attempt
use Rattle.candidates.specs.Candidates.{Candidate, broken_at, candidates, asks_for_directory, is_directory, overlong, try}
use Rattle.lookup.specs.Faults.{Fault, empty_request, long_text, not_found, passes_on, recursion, stays}
use Rattle.lookup.specs.Laws.{decisive}
use Rattle.lookup.specs.Lookups.{Context, Ended, answered_by, by_way, counted, ends_in, failed, find, look, loosened, missed, or_alone, or_next, or_value, require, round, taking, tests, tries, with_fragment, with_marks}
use Rattle.lookup.specs.Outcomes.{Outcome, Room, answer, fresh, lookup, outcome_of, refusal, rounds_at_most, unless_refused}
use Rattle.lookup.specs.Rules.{Answers, Asked, Ends, a_path, a_place, a_request, a_round, labels_on, the_attempts, the_candidates}
use Rattle.lookup.specs.Rules as rule
use Rattle.lookup.proofs.Ending.{find_decides, require_decides}
use Rattle.lookup.proofs.Nesting.{none_left}

-- the context then
abbrev after : Ended → Context
after (ends_in p c) = c
after (missed c) = c
after (failed f c) = c

answered_after : (r : Text) (x : Finding) (c : Context) → (after (answered_by r x c)).rounds ≡ c.rounds
answered_after r (found p) c = refl
answered_after r missing c = refl
answered_after r faulty c = refl

-- what decides is the end
next_ends : (e : Ended) (go : Context → Ended) → decisive e ≡ true → or_next e go ≡ e
next_ends (ends_in p c) go h = refl
next_ends (missed c) go h = absurd (false≢true h)
next_ends (failed f c) go h = refl

module _ (m : Meaning) (allowed : Allowed) (t : Tables) (limit : ℕ) where
  -- rounds are never given back
  grows : {a : Asked} {c : Context} {e : Ended} → Ends m allowed t limit a c e → c.rounds ≤ (after e).rounds
  grows (rule.no_round_is_left h) = omega arith
  grows (rule.path_is_empty h b) = omega arith
  grows (rule.path_is_asked h b w) = omega (arith, grows w)
  grows (rule.with_a_query q w) = grows w
  grows (rule.with_no_marks q f w) = grows w
  grows (rule.fragment_is_too_long q f b) = omega arith
  grows (rule.fragment_is_of_the_path q f b w) = grows w
  grows (rule.fault_stays q f b w s) = grows w
  grows (rule.fragment_is_put_back q f b w s v) = omega (arith, grows w, grows v)
  grows (rule.labels_decide w s) = grows w
  grows (rule.absolute w b v) = omega (arith, grows w, grows v)
  grows (rule.relative w b j v) = omega (arith, grows w, grows v)
  grows (rule.relative_is_too_long w b j) = grows w
  grows (rule.by_hash {dir = dir} {r = r} {d = d} w b) = omega (arith, grows w, answered_after r (m.lookup asked.Hash r (parts dir)) d)
  grows (rule.by_package {dir = dir} {r = r} {d = d} w b) = omega (arith, grows w, answered_after r (m.lookup asked.Package r (parts dir)) d)
  grows rule.no_attempt_is_left = omega arith
  grows (rule.value_finds w) = grows w
  grows (rule.value_fails w s) = grows w
  grows (rule.next_follows w s v) = omega (arith, grows w, grows v)
  grows rule.label_ignores = omega arith
  grows rule.label_is_unmatched = omega arith
  grows rule.attempt_is_too_long = omega arith
  grows (rule.directory_in_context x k) = omega arith
  grows (rule.nothing_in_context x k) = omega arith
  grows (rule.candidates_decide x w s) = grows w
  grows (rule.no_candidate_passes x w) = grows w
  grows rule.no_candidate_is_left = omega arith
  grows (rule.its_labels_decide w s) = grows w
  grows (rule.candidate_passes w s) = grows w
  grows (rule.candidate_is_passed_over w s v) = omega (arith, grows w, grows v)
  grows rule.manifest_is_broken = omega arith
  grows rule.candidate_is_too_long = omega arith

  abbrev Again : ℕ → Text → Text → Context → Ended
  Again n e u d = require m allowed t limit n e u d

  -- what the definition says of it
  abbrev meant : ℕ → Asked → Context → Ended
  meant n (a_round dir r) c = require m allowed t limit n dir r c
  meant n (a_path dir p) c = with_marks m allowed t (Again n) c.query c.fragment dir p c
  meant n (a_request dir r) c = find m allowed t (Again n) dir r c
  meant n (the_attempts dir ts) c = tries m allowed t (Again n) dir ts c
  meant n (a_place r p) c = look m allowed t (Again n) r p c
  meant n (the_candidates cs) c = tests m allowed t (Again n) cs c

  -- after labels that tried nothing
  next_way : (n : ℕ) (dir r : Text) (c d : Context) → meant n (labels_on m allowed t limit dir r) c ≡ missed d → meant n (a_request dir r) c ≡ by_way m allowed t (Again n) (branch r) dir r d
  unfolding find
  next_way n dir r c d e = ap (λ (x : Ended). or_next x (λ d. by_way m allowed t (Again n) (branch r) dir r d)) e

  goes : (n : ℕ) (b : Branch) (dir r : Text) (c d : Context) → meant n (labels_on m allowed t limit dir r) c ≡ missed d → branch r ≡ b → meant n (a_request dir r) c ≡ by_way m allowed t (Again n) b dir r d
  goes n b dir r c d e h = next_way n dir r c d e ∙ ap (λ (b : Branch). by_way m allowed t (Again n) b dir r d) h

  -- path and fragment together
  both_marks : (n : ℕ) (dir p f : Text) (c : Context) → c.query ≡ None → c.fragment ≡ Some f → meant n (a_path dir p) c ≡ with_marks m allowed t (Again n) None (Some f) dir p c
  both_marks n dir p f c q h =
      ap (λ (x : Option Text). with_marks m allowed t (Again n) x c.fragment dir p c) q
      ∙ ap (λ (x : Option Text). with_marks m allowed t (Again n) None x dir p c) h

  together : (n : ℕ) (dir p f : Text) (c : Context) (e : Ended) → c.query ≡ None → c.fragment ≡ Some f → fits (p ++ f) ≡ true → meant n (a_request dir (p ++ f)) (with_fragment None c) ≡ e
      → meant n (a_path dir p) c ≡ or_alone e (λ d. meant n (a_request dir p) (with_fragment (Some f) d))
  together n dir p f c e q h b k =
      both_marks n dir p f c q h
      ∙ cond-true _ _ _ b
      ∙ ap (λ (x : Ended). or_alone x (λ d. find m allowed t (Again n) dir p (with_fragment (Some f) d))) k

  tested_on : (n : ℕ) (p : Text) (more : List Candidate) (c d : Context) → meant n (labels_on m allowed t limit p p) c ≡ missed d
      → meant n (the_candidates (try p ∷ more)) c ≡ or_next (cond (acceptable m allowed t.restrictions p) (ends_in p d) (missed d)) (λ d. meant n (the_candidates more) d)
  tested_on n p more c d e =
      ap (λ (x : Ended). or_next (or_next x (λ d. cond (acceptable m allowed t.restrictions p) (ends_in p d) (missed d))) (λ d. tests m allowed t (Again n) more d)) e

  -- by the rules everything ends as the definition has it
  pub sound : {a : Asked} {c : Context} {e : Ended} → Ends m allowed t limit a c e → (n : ℕ) → limit ≤ n + c.rounds → meant n a c ≡ e
  unfolding require round find
  sound {c = c} (rule.no_round_is_left h) zero g = refl
  sound {c = c} (rule.no_round_is_left h) (suc n) g = cond-false _ _ _ (none_left c.rounds limit h)
  sound (rule.path_is_empty h b) zero g = absurd (omega (arith, h, g))
  sound {c = c} (rule.path_is_empty h b) (suc n) g = cond-true _ _ _ (lt-ltb c.rounds limit h) ∙ cond-true _ _ _ b
  sound (rule.path_is_asked h b w) zero g = absurd (omega (arith, h, g))
  sound {c = c} (rule.path_is_asked h b w) (suc n) g = cond-true _ _ _ (lt-ltb c.rounds limit h) ∙ cond-false _ _ _ b ∙ sound w n (omega (arith, g))
  sound {c = c} (rule.with_a_query {dir = dir} {p = p} q w) n g = ap (λ (x : Option Text). with_marks m allowed t (Again n) x c.fragment dir p c) q ∙ sound w n g
  sound {c = c} (rule.with_no_marks {dir = dir} {p = p} q f w) n g =
      ap (λ (x : Option Text). with_marks m allowed t (Again n) x c.fragment dir p c) q
      ∙ ap (λ (x : Option Text). with_marks m allowed t (Again n) None x dir p c) f
      ∙ sound w n g
  sound {c = c} (rule.fragment_is_too_long {dir = dir} {p = p} {f = f} q h b) n g = both_marks n dir p f c q h ∙ cond-false _ _ _ b
  sound {c = c} (rule.fragment_is_of_the_path {dir = dir} {p = p} {f = f} {s = s} {d = d} q h b w) n g = together n dir p f c (ends_in s d) q h b (sound w n g)
  sound {c = c} (rule.fault_stays {dir = dir} {p = p} {f = f} {x = x} {d = d} q h b w s) n g = together n dir p f c (failed x d) q h b (sound w n g) ∙ cond-true _ _ _ s
  sound {c = c} (rule.fragment_is_put_back {dir = dir} {p = p} {f = f} {x = x} {d = d} q h b w s v) n g =
      together n dir p f c (failed x d) q h b (sound w n g) ∙ cond-false _ _ _ s ∙ sound v n (omega (arith, g, grows w))
  sound {c = c} (rule.labels_decide {dir = dir} {r = r} {e = e} w s) n g =
      ap (λ (x : Ended). or_next x (λ d. by_way m allowed t (Again n) (branch r) dir r d)) (sound w n g) ∙ next_ends e (λ d. by_way m allowed t (Again n) (branch r) dir r d) s
  sound {c = c} (rule.absolute {dir = dir} {r = r} {d = d} w b v) n g = goes n way.Absolute dir r c d (sound w n g) b ∙ sound v n (omega (arith, g, grows w))
  sound {c = c} (rule.relative {dir = dir} {r = r} {d = d} w b j v) n g = goes n way.Relative dir r c d (sound w n g) b ∙ cond-true _ _ _ j ∙ sound v n (omega (arith, g, grows w))
  sound {c = c} (rule.relative_is_too_long {dir = dir} {r = r} {d = d} w b j) n g = goes n way.Relative dir r c d (sound w n g) b ∙ cond-false _ _ _ j
  sound {c = c} (rule.by_hash {dir = dir} {r = r} {d = d} w b) n g = goes n way.Hash dir r c d (sound w n g) b
  sound {c = c} (rule.by_package {dir = dir} {r = r} {d = d} w b) n g = goes n way.Package dir r c d (sound w n g) b
  sound rule.no_attempt_is_left n g = refl
  sound (rule.value_finds {dir = dir} {more = more} w) n g = ap (λ (x : Ended). or_value x (λ d. tries m allowed t (Again n) dir more d)) (sound w n g)
  sound (rule.value_fails {dir = dir} {more = more} w s) n g = ap (λ (x : Ended). or_value x (λ d. tries m allowed t (Again n) dir more d)) (sound w n g) ∙ cond-false _ _ _ s
  sound (rule.next_follows {dir = dir} {more = more} w s v) n g =
      ap (λ (x : Ended). or_value x (λ d. tries m allowed t (Again n) dir more d)) (sound w n g) ∙ cond-true _ _ _ s ∙ sound v n (omega (arith, g, grows w))
  sound rule.label_ignores n g = refl
  sound rule.label_is_unmatched n g = refl
  sound rule.attempt_is_too_long n g = refl
  sound (rule.directory_in_context x k) n g = cond-true _ _ _ x ∙ cond-true _ _ _ k
  sound (rule.nothing_in_context x k) n g = cond-true _ _ _ x ∙ cond-false _ _ _ k
  sound (rule.candidates_decide {r = r} {e = e} x w s) n g =
      cond-false _ _ _ x ∙ ap (λ (x : Ended). or_next x (λ d. failed (not_found r) d)) (sound w n g) ∙ next_ends e (λ d. failed (not_found r) d) s
  sound (rule.no_candidate_passes {r = r} x w) n g = cond-false _ _ _ x ∙ ap (λ (x : Ended). or_next x (λ d. failed (not_found r) d)) (sound w n g)
  sound rule.no_candidate_is_left n g = refl
  sound (rule.its_labels_decide {p = p} {more = more} {e = e} w s) n g =
      ap (λ (x : Ended). or_next (or_next x (λ d. cond (acceptable m allowed t.restrictions p) (ends_in p d) (missed d))) (λ d. tests m allowed t (Again n) more d)) (sound w n g)
      ∙ ap (λ (x : Ended). or_next x (λ d. tests m allowed t (Again n) more d)) (next_ends e (λ d. cond (acceptable m allowed t.restrictions p) (ends_in p d) (missed d)) s)
      ∙ next_ends e (λ d. tests m allowed t (Again n) more d) s
  sound {c = c} (rule.candidate_passes {p = p} {more = more} {d = d} w s) n g =
      tested_on n p more c d (sound w n g) ∙ ap (λ (x : Ended). or_next x (λ d. tests m allowed t (Again n) more d)) (cond-true _ _ _ s)
  sound {c = c} (rule.candidate_is_passed_over {p = p} {more = more} {d = d} w s v) n g =
      tested_on n p more c d (sound w n g) ∙ ap (λ (x : Ended). or_next x (λ d. tests m allowed t (Again n) more d)) (cond-false _ _ _ s) ∙ sound v n (omega (arith, g, grows w))
  sound rule.manifest_is_broken n g = refl
  sound rule.candidate_is_too_long n g = refl

  module _ (n : ℕ) (rounds_obey : (dir r : Text) (c : Context) → limit ≤ n + c.rounds → Ends m allowed t limit (a_round dir r) c (require m allowed t limit n dir r c)) where
    -- a value's round, with what follows where it fails
    value_obeys : (dir r : Text) (more : List Attempt) (c : Context) (e : Ended) → limit ≤ n + c.rounds → Ends m allowed t limit (a_round dir r) (loosened c) e → decisive e ≡ true
        → ((d : Context) → limit ≤ n + d.rounds → Ends m allowed t limit (the_attempts dir more) d (tries m allowed t (Again n) dir more d))
        → Ends m allowed t limit (the_attempts dir (attempt.again r ∷ more)) c (or_value e (λ d. tries m allowed t (Again n) dir more d))
    value_obeys dir r more c (ends_in s d) g w k go = rule.value_finds w
    value_obeys dir r more c (missed d) g w k go = absurd (false≢true k)
    value_obeys dir r more c (failed x d) g w k go = at (passes_on x) refl
      where
        at : (b : Bool) → passes_on x ≡ b → Ends m allowed t limit (the_attempts dir (attempt.again r ∷ more)) c (cond b (tries m allowed t (Again n) dir more d) (failed x d))
        at true s = rule.next_follows w s (go d (omega (arith, g, grows w)))
        at false s = rule.value_fails w s

    attempts_obey : (dir : Text) (ts : List Attempt) (c : Context) → limit ≤ n + c.rounds → Ends m allowed t limit (the_attempts dir ts) c (tries m allowed t (Again n) dir ts c)
    attempts_obey dir [] c g = rule.no_attempt_is_left
    attempts_obey dir (attempt.again r ∷ more) c g =
        value_obeys dir r more c (require m allowed t limit n dir r (loosened c)) g (rounds_obey dir r (loosened c) g) (require_decides m allowed t limit n dir r (loosened c)) (λ d h. attempts_obey dir more d h)
    attempts_obey dir (attempt.ignored p ∷ more) c g = rule.label_ignores
    attempts_obey dir (attempt.unmatched r l ∷ more) c g = rule.label_is_unmatched
    attempts_obey dir (attempt.overlong ∷ more) c g = rule.attempt_is_too_long

    -- a candidate behind its labels, with what follows where it is passed over
    candidate_obeys : (p : Text) (more : List Candidate) (c : Context) (e : Ended) → limit ≤ n + c.rounds → Ends m allowed t limit (labels_on m allowed t limit p p) c e
        → ((d : Context) → limit ≤ n + d.rounds → Ends m allowed t limit (the_candidates more) d (tests m allowed t (Again n) more d))
        → Ends m allowed t limit (the_candidates (try p ∷ more)) c (or_next (or_next e (λ d. cond (acceptable m allowed t.restrictions p) (ends_in p d) (missed d))) (λ d. tests m allowed t (Again n) more d))
    candidate_obeys p more c (ends_in s d) g w go = rule.its_labels_decide w refl
    candidate_obeys p more c (failed x d) g w go = rule.its_labels_decide w refl
    candidate_obeys p more c (missed d) g w go = at (acceptable m allowed t.restrictions p) refl
      where
        at : (b : Bool) → acceptable m allowed t.restrictions p ≡ b → Ends m allowed t limit (the_candidates (try p ∷ more)) c (or_next (cond b (ends_in p d) (missed d)) (λ d. tests m allowed t (Again n) more d))
        at true s = rule.candidate_passes w s
        at false s = rule.candidate_is_passed_over w s (go d (omega (arith, g, grows w)))

    candidates_obey : (cs : List Candidate) (c : Context) → limit ≤ n + c.rounds → Ends m allowed t limit (the_candidates cs) c (tests m allowed t (Again n) cs c)
    candidates_obey [] c g = rule.no_candidate_is_left
    candidates_obey (try p ∷ more) c g =
        candidate_obeys p more c (tries m allowed t (Again n) p (attempts m p p t.aliases) c) g (attempts_obey p (attempts m p p t.aliases) c g) (λ d h. candidates_obey more d h)
    candidates_obey (broken_at p ∷ more) c g = rule.manifest_is_broken
    candidates_obey (overlong ∷ more) c g = rule.candidate_is_too_long

    place_obeys : (r p : Text) (c : Context) → limit ≤ n + c.rounds → Ends m allowed t limit (a_place r p) c (look m allowed t (Again n) r p c)
    place_obeys r p c g = at t.context (is_directory (m.kind (parts p))) refl refl
      where
        listed : (e : Ended) → t.context ≡ false → Ends m allowed t limit (the_candidates (candidates t c.fully m (asks_for_directory r) p)) c e → Ends m allowed t limit (a_place r p) c (or_next e (λ d. failed (not_found r) d))
        listed (ends_in s d) x w = rule.candidates_decide x w refl
        listed (missed d) x w = rule.no_candidate_passes x w
        listed (failed f d) x w = rule.candidates_decide x w refl

        at : (b k : Bool) → t.context ≡ b → is_directory (m.kind (parts p)) ≡ k
            → Ends m allowed t limit (a_place r p) c (cond b (cond k (ends_in p c) (failed (not_found r) c)) (or_next (tests m allowed t (Again n) (candidates t c.fully m (asks_for_directory r) p) c) (λ d. failed (not_found r) d)))
        at true true x k = rule.directory_in_context x k
        at true false x k = rule.nothing_in_context x k
        at false b x k = listed (tests m allowed t (Again n) (candidates t c.fully m (asks_for_directory r) p) c) x (candidates_obey (candidates t c.fully m (asks_for_directory r) p) c g)

    -- a request that no label rewrites
    way_obeys : (dir r : Text) (c d : Context) (b : Branch) → limit ≤ n + d.rounds → Ends m allowed t limit (labels_on m allowed t limit dir r) c (missed d) → branch r ≡ b
        → Ends m allowed t limit (a_request dir r) c (by_way m allowed t (Again n) b dir r d)
    way_obeys dir r c d way.Absolute g w h = rule.absolute w h (place_obeys r (unslashed r) d g)
    way_obeys dir r c d way.Relative g w h = at (joins dir r) refl
      where
        at : (b : Bool) → joins dir r ≡ b → Ends m allowed t limit (a_request dir r) c (cond b (look m allowed t (Again n) r (join dir r) d) (failed long_text d))
        at true j = rule.relative w h j (place_obeys r (join dir r) d g)
        at false j = rule.relative_is_too_long w h j
    way_obeys dir r c d way.Hash g w h = rule.by_hash w h
    way_obeys dir r c d way.Package g w h = rule.by_package w h

    request_obeys : (dir r : Text) (c : Context) → limit ≤ n + c.rounds → Ends m allowed t limit (a_request dir r) c (find m allowed t (Again n) dir r c)
    unfolding find
    request_obeys dir r c g = at (tries m allowed t (Again n) dir (attempts m dir r t.aliases) c) (attempts_obey dir (attempts m dir r t.aliases) c g)
      where
        at : (e : Ended) → Ends m allowed t limit (labels_on m allowed t limit dir r) c e → Ends m allowed t limit (a_request dir r) c (or_next e (λ d. by_way m allowed t (Again n) (branch r) dir r d))
        at (ends_in s d) w = rule.labels_decide w refl
        at (failed x d) w = rule.labels_decide w refl
        at (missed d) w = way_obeys dir r c d (branch r) (omega (arith, g, grows w)) w refl

    -- path and fragment together, with what follows where they fail
    together_obeys : (dir p f : Text) (c : Context) (e : Ended) → limit ≤ n + c.rounds → c.query ≡ None → c.fragment ≡ Some f → fits (p ++ f) ≡ true
        → Ends m allowed t limit (a_request dir (p ++ f)) (with_fragment None c) e → decisive e ≡ true
        → Ends m allowed t limit (a_path dir p) c (or_alone e (λ d. find m allowed t (Again n) dir p (with_fragment (Some f) d)))
    together_obeys dir p f c (ends_in s d) g q h b w k = rule.fragment_is_of_the_path q h b w
    together_obeys dir p f c (missed d) g q h b w k = absurd (false≢true k)
    together_obeys dir p f c (failed x d) g q h b w k = at (stays x) refl
      where
        at : (v : Bool) → stays x ≡ v → Ends m allowed t limit (a_path dir p) c (cond v (failed x d) (find m allowed t (Again n) dir p (with_fragment (Some f) d)))
        at true s = rule.fault_stays q h b w s
        at false s = rule.fragment_is_put_back q h b w s (request_obeys dir p (with_fragment (Some f) d) (omega (arith, g, grows w)))

    path_obeys : (dir p : Text) (c : Context) → limit ≤ n + c.rounds → Ends m allowed t limit (a_path dir p) c (with_marks m allowed t (Again n) c.query c.fragment dir p c)
    path_obeys dir p c g = at c.query c.fragment refl refl
      where
        both : (f : Text) (b : Bool) → c.query ≡ None → c.fragment ≡ Some f → fits (p ++ f) ≡ b
            → Ends m allowed t limit (a_path dir p) c (cond b (or_alone (find m allowed t (Again n) dir (p ++ f) (with_fragment None c)) (λ d. find m allowed t (Again n) dir p (with_fragment (Some f) d))) (failed long_text c))
        both f true q h b =
            together_obeys dir p f c (find m allowed t (Again n) dir (p ++ f) (with_fragment None c)) g q h b (request_obeys dir (p ++ f) (with_fragment None c) g)
            (find_decides m allowed t (Again n) dir (p ++ f) (with_fragment None c))
        both f false q h b = rule.fragment_is_too_long q h b

        at : (q f : Option Text) → c.query ≡ q → c.fragment ≡ f → Ends m allowed t limit (a_path dir p) c (with_marks m allowed t (Again n) q f dir p c)
        at None None q f = rule.with_no_marks q f (request_obeys dir p c g)
        at None (Some f) q h = both f (fits (p ++ f)) q h refl
        at (Some s) f q h = rule.with_a_query q (request_obeys dir p c g)

    text_obeys : (dir r : Text) (c : Context) → c.rounds < limit → limit ≤ n + suc c.rounds → Ends m allowed t limit (a_round dir r) c (round m allowed t (Again n) dir r (counted c))
    unfolding round
    text_obeys dir r c l g = at (empty (path_of r)) refl
      where
        at : (b : Bool) → empty (path_of r) ≡ b
            → Ends m allowed t limit (a_round dir r) c (cond b (failed (empty_request r) (counted c)) (with_marks m allowed t (Again n) (taking r (counted c)).query (taking r (counted c)).fragment dir (path_of r) (taking r (counted c))))
        at true b = rule.path_is_empty l b
        at false b = rule.path_is_asked l b (path_obeys dir (path_of r) (taking r (counted c)) g)

  -- the definition obeys the rules
  pub obeys : (n : ℕ) (dir r : Text) (c : Context) → limit ≤ n + c.rounds → Ends m allowed t limit (a_round dir r) c (require m allowed t limit n dir r c)
  unfolding require
  obeys zero dir r c g = rule.no_round_is_left (omega (arith, g))
  obeys (suc n) dir r c g = at (ltb c.rounds limit) refl (λ e u d h. obeys n e u d h)
    where
      at : (b : Bool) → ltb c.rounds limit ≡ b → ((e u : Text) (d : Context) → limit ≤ n + d.rounds → Ends m allowed t limit (a_round e u) d (require m allowed t limit n e u d))
          → Ends m allowed t limit (a_round dir r) c (cond b (round m allowed t (Again n) dir r (counted c)) (failed recursion c))
      at true b ih = text_obeys n ih dir r c (ltb-true c.rounds limit b) (omega (arith, g))
      at false b ih = rule.no_round_is_left (omega (arith, ltb-false c.rounds limit b))

  pub one_answer : {a : Asked} {c : Context} {e o : Ended} → Ends m allowed t limit a c e → Ends m allowed t limit a c o → e ≡ o
  one_answer {c = c} w v = sym (sound w limit (omega arith)) ∙ sound v limit (omega arith)

  pub that_end_alone : (n : ℕ) (dir r : Text) (c : Context) (e : Ended) → limit ≤ n + c.rounds → Ends m allowed t limit (a_round dir r) c e ↔ (require m allowed t limit n dir r c ≡ e)
  that_end_alone n dir r c e g = (λ w. sound w n g, λ h. subst (Ends m allowed t limit (a_round dir r) c) h (obeys n dir r c g))

module _ (m : Meaning) (allowed : Allowed) (t : Tables) (dir r : Text) where
  pub lookup_by_rules : (o : Outcome) → (lookup m allowed t dir r ≡ o) ↔ ((e : Ended) × (Ends m allowed t rounds_at_most (a_round dir r) (fresh t) e × (outcome_of e ≡ o)))
  unfolding lookup
  lookup_by_rules o = (
    λ h. (require m allowed t rounds_at_most rounds_at_most dir r (fresh t), (obeys m allowed t rounds_at_most rounds_at_most dir r (fresh t) (omega arith), h)),
    λ w. ap outcome_of (sound m allowed t rounds_at_most w.1.0 rounds_at_most (omega arith)) ∙ w.1.1,
  )

  -- what the rules give is the answer
  pub given_is_answered : {room : Room} {o : Outcome} → Answers m allowed t room dir r o → answer m allowed t room dir r ≡ o
  unfolding lookup
  given_is_answered (rule.is_refused h) = ap (λ (x : Option Fault). unless_refused x (lookup m allowed t dir r)) h
  given_is_answered (rule.finds h w) = ap (λ (x : Option Fault). unless_refused x (lookup m allowed t dir r)) h ∙ ap outcome_of (sound m allowed t rounds_at_most w rounds_at_most (omega arith))
  given_is_answered (rule.fails h w) = ap (λ (x : Option Fault). unless_refused x (lookup m allowed t dir r)) h ∙ ap outcome_of (sound m allowed t rounds_at_most w rounds_at_most (omega arith))

  -- and the rules give the answer
  pub answered_is_given : (room : Room) → Answers m allowed t room dir r (answer m allowed t room dir r)
  unfolding lookup
  answered_is_given room = at (refusal room dir r) refl
    where
      ended : (e : Ended) → refusal room dir r ≡ None → Ends m allowed t rounds_at_most (a_round dir r) (fresh t) e → decisive e ≡ true → Answers m allowed t room dir r (outcome_of e)
      ended (ends_in p c) h w k = rule.finds h w
      ended (missed c) h w k = absurd (false≢true k)
      ended (failed f c) h w k = rule.fails h w

      at : (x : Option Fault) → refusal room dir r ≡ x → Answers m allowed t room dir r (unless_refused x (lookup m allowed t dir r))
      at (Some f) h = rule.is_refused h
      at None h =
          ended (require m allowed t rounds_at_most rounds_at_most dir r (fresh t)) h (obeys m allowed t rounds_at_most rounds_at_most dir r (fresh t) (omega arith))
          (require_decides m allowed t rounds_at_most rounds_at_most dir r (fresh t))

  pub answer_by_rules : (room : Room) (o : Outcome) → (answer m allowed t room dir r ≡ o) ↔ Answers m allowed t room dir r o
  answer_by_rules room o = (λ h. subst (Answers m allowed t room dir r) h (answered_is_given room), λ w. given_is_answered w)
