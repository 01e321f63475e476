-- What one move of an open call does. Assumes nothing.
use Rattle.std.proofs.Common.{◌≡◌, ℕ, suc, true, false, cond, ltb, List, [], ◌∷◌, ◌++◌, Some, None, Option, is_some, true≢false, sym, refl, ap, ◌∙◌, arith}
use Rattle.std.proofs.lemmas.Bool.{cond-false, cond-true}
use Rattle.std.specs.Option.{option_map}
use Rattle.texts.specs.declared.place.Place.{Place}
use Rattle.texts.specs.Texts.{Text, empty, fits}
use Rattle.texts.specs.Parts.{parts}
use Rattle.specifier.specs.Branches.{branch}
use Rattle.specifier.specs.Requests.{path_of}
use Rattle.tree.specs.Acceptances.{Allowed, acceptable}
use Rattle.tree.specs.Meanings.{Meaning}
use Rattle.settings.specs.Tables.{Tables}
use Rattle.alias.specs.Attempts.{Attempt, attempts}
use Rattle.alias.specs.Attempts as attempt
use Rattle.candidates.specs.Candidates.{Candidate, candidates, asks_for_directory, is_directory, try}
use Rattle.lookup.specs.Calls.{Call, again, labelled, marked, resumed, testing, trying, waiting}
use Rattle.lookup.specs.Faults.{Fault, empty_request, long_text, not_found, passes_on, recursion, stays}
use Rattle.lookup.specs.Lookups.{Context, Ended, by_way, counted, ends_in, failed, find, look, loosened, missed, or_next, require, round, taking, with_fragment, with_marks}
use Rattle.lookup.proofs.Nesting.{nesting_alike}

module _ (m : Meaning) (allowed : Allowed) (t : Tables) (limit : ℕ) where
  abbrev on : Call → Ended → Ended
  on = resumed m allowed t limit

  abbrev anew : Text → Text → Context → Ended
  anew = again m allowed t limit

  -- a round that a text starts, without the bound on how deep rounds lie in one another
  one_deeper : (dir r : Text) (c : Context) → require m allowed t limit (suc limit) dir r c ≡ cond (ltb c.rounds limit) (round m allowed t anew dir r (counted c)) (failed recursion c)
  unfolding require
  one_deeper dir r c = refl

  pub starts : (dir r : Text) (c : Context) → anew dir r c ≡ cond (ltb c.rounds limit) (round m allowed t anew dir r (counted c)) (failed recursion c)
  starts dir r c = nesting_alike m allowed t limit limit (suc limit) dir r c (omega arith) (omega arith) ∙ one_deeper dir r c

  -- a request's labels and its way are one open call
  pub found : (dir r : Text) (c : Context) → find m allowed t anew dir r c ≡ on (labelled dir r (attempts m dir r t.aliases)) (missed c)
  unfolding find
  found dir r c = refl

  -- a round ends at once where its path is empty
  pub round_empty : (dir r : Text) (c : Context) → empty (path_of r) ≡ true → round m allowed t anew dir r c ≡ failed (empty_request r) c
  unfolding round
  round_empty dir r c e = cond-true _ _ _ e

  pub round_full : (dir r : Text) (c : Context) → empty (path_of r) ≡ false → round m allowed t anew dir r c ≡ (let d : Context = taking r c in with_marks m allowed t anew d.query d.fragment dir (path_of r) d)
  unfolding round
  round_full dir r c e = cond-false _ _ _ e

  module _ (dir r : Text) (c : Context) where
    pub all_rounds_run : ltb c.rounds limit ≡ false → on (waiting dir r) (missed c) ≡ failed recursion c
    all_rounds_run h = starts dir r c ∙ cond-false _ _ _ h

    module _ (h : ltb c.rounds limit ≡ true) where
      pub begun : on (waiting dir r) (missed c) ≡ round m allowed t anew dir r (counted c)
      begun = starts dir r c ∙ cond-true _ _ _ h

    -- the fragment is put back, and the path alone is tried
    pub put_back : (f : Text) → on (marked dir r f) (missed c) ≡ on (labelled dir r (attempts m dir r t.aliases)) (missed (with_fragment (Some f) c))
    put_back f = found dir r (with_fragment (Some f) c)

    pub put_back_after : (f : Text) (x : Fault) → stays x ≡ false → on (marked dir r f) (failed x c) ≡ on (labelled dir r (attempts m dir r t.aliases)) (missed (with_fragment (Some f) c))
    put_back_after f x h = cond-false _ _ _ h ∙ found dir r (with_fragment (Some f) c)

    pub fault_stays : (f : Text) (x : Fault) → stays x ≡ true → on (marked dir r f) (failed x c) ≡ failed x c
    fault_stays f x h = cond-true _ _ _ h

    -- the labels on a request
    pub value_starts : (s : Text) (ts : List Attempt) → on (labelled dir r (attempt.again s ∷ ts)) (missed c) ≡ on (labelled dir r ts) (on (waiting dir s) (missed (loosened c)))
    value_starts s ts = refl

    pub goes_its_way : on (labelled dir r []) (missed c) ≡ by_way m allowed t anew (branch r) dir r c
    goes_its_way = refl

    pub looks_at_candidates : t.context ≡ false → look m allowed t anew dir r c ≡ on (trying dir (candidates t c.fully m (asks_for_directory dir) r)) (missed c)
    looks_at_candidates h = cond-false _ _ _ h

    -- after labels: a fault that a label's next value follows counts as nothing, any other stands
    module _ (ts : List Attempt) (x : Fault) where
      abbrev way : Ended → Ended
      way y = or_next y (λ d. by_way m allowed t anew (branch r) dir r d)

      pub passed_labels : passes_on x ≡ true → on (labelled dir r ts) (failed x c) ≡ on (labelled dir r ts) (missed c)
      passed_labels h = ap way (cond-true _ _ _ h)

      pub labels_stand : passes_on x ≡ false → on (labelled dir r ts) (failed x c) ≡ failed x c
      labels_stand h = ap way (cond-false _ _ _ h)

      abbrev test : Ended → Ended
      test y = or_next y (λ d. cond (acceptable m allowed t.restrictions dir) (ends_in dir d) (missed d))

      pub passed_test : passes_on x ≡ true → on (testing dir ts) (failed x c) ≡ on (testing dir ts) (missed c)
      passed_test h = ap test (cond-true _ _ _ h)

      pub test_stands : passes_on x ≡ false → on (testing dir ts) (failed x c) ≡ failed x c
      test_stands h = ap test (cond-false _ _ _ h)

  -- the candidates and their tests
  pub next_is_tested : (r p : Text) (cs : List Candidate) (c : Context) → on (trying r (try p ∷ cs)) (missed c) ≡ on (trying r cs) (on (testing p (attempts m p p t.aliases)) (missed c))
  next_is_tested r p cs c = refl

  pub candidate_starts : (p s : Text) (ts : List Attempt) (c : Context) → on (testing p (attempt.again s ∷ ts)) (missed c) ≡ on (testing p ts) (on (waiting p s) (missed (loosened c)))
  candidate_starts p s ts c = refl

  -- a path that is looked for in context mode
  module _ (r p : Text) (c : Context) (mode : t.context ≡ true) where
    pub found_in_context : is_directory (m.kind (parts p)) ≡ true → look m allowed t anew r p c ≡ ends_in p c
    found_in_context d = cond-true _ _ _ mode ∙ cond-true _ _ _ d

    pub lost_in_context : is_directory (m.kind (parts p)) ≡ false → look m allowed t anew r p c ≡ failed (not_found r) c
    lost_in_context d = cond-true _ _ _ mode ∙ cond-false _ _ _ d

  -- a round whose text is taken apart
  module _ (dir r : Text) (c : Context) where
    pub marks_first : (f : Text) → fits (r ++ f) ≡ true
        → with_marks m allowed t anew None (Some f) dir r c ≡ on (marked dir r f) (on (labelled dir (r ++ f) (attempts m dir (r ++ f) t.aliases)) (missed (with_fragment None c)))
    marks_first f l = cond-true _ _ _ l ∙ ap (λ (x : Ended). on (marked dir r f) x) (found dir (r ++ f) (with_fragment None c))

    pub marks_long : (f : Text) → fits (r ++ f) ≡ false → with_marks m allowed t anew None (Some f) dir r c ≡ failed long_text c
    marks_long f l = cond-false _ _ _ l

    pub marks_none : with_marks m allowed t anew None None dir r c ≡ on (labelled dir r (attempts m dir r t.aliases)) (missed c)
    marks_none = found dir r c

    pub marks_query : (q : Text) (f : Option Text) → with_marks m allowed t anew (Some q) f dir r c ≡ on (labelled dir r (attempts m dir r t.aliases)) (missed c)
    marks_query q f = found dir r c

    -- a query, or no fragment: the path alone
    pub marks_some : (g : Place → Text) (q : Option Place) (f : Option Text) → is_some q ≡ true → with_marks m allowed t anew (option_map g q) f dir r c ≡ on (labelled dir r (attempts m dir r t.aliases)) (missed c)
    marks_some g None f h = absurd (true≢false (sym h))
    marks_some g (Some q) f h = marks_query (g q) f

    pub marks_alone : (q f : Option Text) → f ≡ None → with_marks m allowed t anew q f dir r c ≡ on (labelled dir r (attempts m dir r t.aliases)) (missed c)
    marks_alone None f h = ap (λ (o : Option Text). with_marks m allowed t anew None o dir r c) h ∙ marks_none
    marks_alone (Some q) f h = marks_query q f
