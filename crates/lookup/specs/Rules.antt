-- The rules of a lookup as a relation: what is asked, in which context, may end how. They call no step of the definition in Lookups, and count no depth. Assumes nothing.
use Rattle.std.specs.Prelude.{◌≡◌, ℕ, ◌<◌, ◌≤◌, true, false, List, [], ◌∷◌, ◌++◌, Some, None}
use Rattle.texts.specs.Texts.{Text, empty, fits, unslashed}
use Rattle.texts.specs.Parts.{parts}
use Rattle.paths.specs.Joins.{join, joins}
use Rattle.specifier.specs.declared.branch.Branch.TheVariants as way
use Rattle.specifier.specs.Branches.{branch}
use Rattle.specifier.specs.Requests.{path_of}
use Rattle.tree.specs.declared.answers.Way.TheVariants as asked
use Rattle.tree.specs.Acceptances.{Allowed, acceptable}
use Rattle.tree.specs.Meanings.{Meaning}
use Rattle.settings.specs.Tables.{Tables}
use Rattle.alias.specs.Attempts.{Attempt, attempts}
use Rattle.alias.specs.Attempts as attempt
use Rattle.candidates.specs.Candidates.{Candidate, broken_at, candidates, asks_for_directory, is_directory, overlong, try}
use Rattle.lookup.specs.Faults.{Fault, broken_manifest, empty_request, ignored, long_text, not_found, passes_on, recursion, stays, unmatched}
use Rattle.lookup.specs.Laws.{decisive}
use Rattle.lookup.specs.Lookups.{Context, Ended, answered_by, counted, ends_in, failed, loosened, missed, taking, with_fragment}
use Rattle.lookup.specs.Outcomes.{Outcome, Room, fresh, path, refusal, refused, rounds_at_most}

-- what is asked in the course of a lookup
pub data Asked : Type 0 where
  -- from this directory, a round with this text
  a_round : Text → Text → Asked
  -- from this directory, a path whose query and fragment are in the context
  a_path : Text → Text → Asked
  -- from this directory, a request without query and fragment
  a_request : Text → Text → Asked
  -- from this directory, what labels try
  the_attempts : Text → List Attempt → Asked
  -- for this request, the path that it looks for
  a_place : Text → Text → Asked
  -- candidates
  the_candidates : List Candidate → Asked

module _ (m : Meaning) (allowed : Allowed) (t : Tables) (limit : ℕ) where
  -- what the labels try for a request from a directory
  abbrev pub labels_on : Text → Text → Asked
  labels_on dir r = the_attempts dir (attempts m dir r t.aliases)

  -- what is asked, in this context, ends so: in a path, in nothing, or in a fault, with the context then
  pub data Ends : Asked → Context → Ended → Type 0 where
    -- where no round is left, it is 27
    no_round_is_left : {dir r : Text} {c : Context}
        → limit ≤ c.rounds → Ends (a_round dir r) c (failed recursion c)
    -- a round whose path is empty ends with 21 and the whole text
    path_is_empty : {dir r : Text} {c : Context}
        → c.rounds < limit → empty (path_of r) ≡ true → Ends (a_round dir r) c (failed (empty_request r) (counted c))
    -- otherwise its query and fragment take the place of the old ones, and its path is asked for
    path_is_asked : {dir r : Text} {c : Context} {e : Ended}
        → c.rounds < limit → empty (path_of r) ≡ false → Ends (a_path dir (path_of r)) (taking r (counted c)) e → Ends (a_round dir r) c e
    -- a path with a query is the request
    with_a_query : {dir p q : Text} {c : Context} {e : Ended}
        → c.query ≡ Some q → Ends (a_request dir p) c e → Ends (a_path dir p) c e
    -- and so is a path with neither query nor fragment
    with_no_marks : {dir p : Text} {c : Context} {e : Ended}
        → c.query ≡ None → c.fragment ≡ None → Ends (a_request dir p) c e → Ends (a_path dir p) c e
    -- with a fragment and no query, both together are the request first, without a fragment: too long is 28
    fragment_is_too_long : {dir p f : Text} {c : Context}
        → c.query ≡ None → c.fragment ≡ Some f → fits (p ++ f) ≡ false → Ends (a_path dir p) c (failed long_text c)
    -- what is found so stands
    fragment_is_of_the_path : {dir p f s : Text} {c d : Context}
        → c.query ≡ None → c.fragment ≡ Some f → fits (p ++ f) ≡ true → Ends (a_request dir (p ++ f)) (with_fragment None c) (ends_in s d) → Ends (a_path dir p) c (ends_in s d)
    -- and so does 28
    fault_stays : {dir p f : Text} {x : Fault} {c d : Context}
        → c.query ≡ None → c.fragment ≡ Some f → fits (p ++ f) ≡ true → Ends (a_request dir (p ++ f)) (with_fragment None c) (failed x d) → stays x ≡ true → Ends (a_path dir p) c (failed x d)
    -- after any other fault the fragment is put back, and the path alone is the request
    fragment_is_put_back : {dir p f : Text} {x : Fault} {c d : Context} {e : Ended}
        → c.query ≡ None → c.fragment ≡ Some f → fits (p ++ f) ≡ true → Ends (a_request dir (p ++ f)) (with_fragment None c) (failed x d) → stays x ≡ false
        → Ends (a_request dir p) (with_fragment (Some f) d) e → Ends (a_path dir p) c e
    -- a path or a fault that the labels of a request end in stands
    labels_decide : {dir r : Text} {c : Context} {e : Ended}
        → Ends (labels_on dir r) c e → decisive e ≡ true → Ends (a_request dir r) c e
    -- where they tried nothing, an absolute request looks for itself without its final slashes
    absolute : {dir r : Text} {c d : Context} {e : Ended}
        → Ends (labels_on dir r) c (missed d) → branch r ≡ way.Absolute → Ends (a_place r (unslashed r)) d e → Ends (a_request dir r) c e
    -- a relative one for itself joined to the directory
    relative : {dir r : Text} {c d : Context} {e : Ended}
        → Ends (labels_on dir r) c (missed d) → branch r ≡ way.Relative → joins dir r ≡ true → Ends (a_place r (join dir r)) d e → Ends (a_request dir r) c e
    -- which is 28 if a text on the way is too long
    relative_is_too_long : {dir r : Text} {c d : Context}
        → Ends (labels_on dir r) c (missed d) → branch r ≡ way.Relative → joins dir r ≡ false → Ends (a_request dir r) c (failed long_text d)
    -- a request with `#` in front ends in what hash lookup answers
    by_hash : {dir r : Text} {c d : Context}
        → Ends (labels_on dir r) c (missed d) → branch r ≡ way.Hash → Ends (a_request dir r) c (answered_by r (m.lookup asked.Hash r (parts dir)) d)
    -- and one for a package in what package lookup answers
    by_package : {dir r : Text} {c d : Context}
        → Ends (labels_on dir r) c (missed d) → branch r ≡ way.Package → Ends (a_request dir r) c (answered_by r (m.lookup asked.Package r (parts dir)) d)
    -- where no attempt is left, nothing is found
    no_attempt_is_left : {dir : Text} {c : Context}
        → Ends (the_attempts dir []) c (missed c)
    -- a new request is a round, fully specified no more; what it finds stands
    value_finds : {dir r s : Text} {more : List Attempt} {c d : Context}
        → Ends (a_round dir r) (loosened c) (ends_in s d) → Ends (the_attempts dir (attempt.again r ∷ more)) c (ends_in s d)
    -- so does a fault other than 22 and 23
    value_fails : {dir r : Text} {more : List Attempt} {x : Fault} {c d : Context}
        → Ends (a_round dir r) (loosened c) (failed x d) → passes_on x ≡ false → Ends (the_attempts dir (attempt.again r ∷ more)) c (failed x d)
    -- after 22 and 23 the next attempt follows
    next_follows : {dir r : Text} {more : List Attempt} {x : Fault} {c d : Context} {e : Ended}
        → Ends (a_round dir r) (loosened c) (failed x d) → passes_on x ≡ true → Ends (the_attempts dir more) d e → Ends (the_attempts dir (attempt.again r ∷ more)) c e
    -- ignore is 24 with its path
    label_ignores : {dir p : Text} {more : List Attempt} {c : Context}
        → Ends (the_attempts dir (attempt.ignored p ∷ more)) c (failed (ignored p) c)
    -- a label whose values were tried in vain is 23
    label_is_unmatched : {dir r l : Text} {more : List Attempt} {c : Context}
        → Ends (the_attempts dir (attempt.unmatched r l ∷ more)) c (failed (unmatched r l) c)
    -- a text that would be too long is 28
    attempt_is_too_long : {dir : Text} {more : List Attempt} {c : Context}
        → Ends (the_attempts dir (attempt.overlong ∷ more)) c (failed long_text c)
    -- in context mode the path that is looked for is found if it is a directory
    directory_in_context : {r p : Text} {c : Context}
        → t.context ≡ true → is_directory (m.kind (parts p)) ≡ true → Ends (a_place r p) c (ends_in p c)
    -- and otherwise it is 22 with the request
    nothing_in_context : {r p : Text} {c : Context}
        → t.context ≡ true → is_directory (m.kind (parts p)) ≡ false → Ends (a_place r p) c (failed (not_found r) c)
    -- else a path or a fault that its candidates end in stands
    candidates_decide : {r p : Text} {c : Context} {e : Ended}
        → t.context ≡ false → Ends (the_candidates (candidates t c.fully m (asks_for_directory r) p)) c e → decisive e ≡ true → Ends (a_place r p) c e
    -- and where none of them passes, it is 22 with the request
    no_candidate_passes : {r p : Text} {c d : Context}
        → t.context ≡ false → Ends (the_candidates (candidates t c.fully m (asks_for_directory r) p)) c (missed d) → Ends (a_place r p) c (failed (not_found r) d)
    -- where no candidate is left, nothing is found
    no_candidate_is_left : {c : Context}
        → Ends (the_candidates []) c (missed c)
    -- a path or a fault that the labels of a candidate end in stands; they apply with its path as the directory too
    its_labels_decide : {p : Text} {more : List Candidate} {c : Context} {e : Ended}
        → Ends (labels_on p p) c e → decisive e ≡ true → Ends (the_candidates (try p ∷ more)) c e
    -- where they tried nothing, it is found if it is acceptable
    candidate_passes : {p : Text} {more : List Candidate} {c d : Context}
        → Ends (labels_on p p) c (missed d) → acceptable m allowed t.restrictions p ≡ true → Ends (the_candidates (try p ∷ more)) c (ends_in p d)
    -- and otherwise the next one follows
    candidate_is_passed_over : {p : Text} {more : List Candidate} {c d : Context} {e : Ended}
        → Ends (labels_on p p) c (missed d) → acceptable m allowed t.restrictions p ≡ false → Ends (the_candidates more) d e → Ends (the_candidates (try p ∷ more)) c e
    -- a broken manifest in a candidate's place is 30 with its path
    manifest_is_broken : {p : Text} {more : List Candidate} {c : Context}
        → Ends (the_candidates (broken_at p ∷ more)) c (failed (broken_manifest p) c)
    -- and a text that would be too long is 28
    candidate_is_too_long : {more : List Candidate} {c : Context}
        → Ends (the_candidates (overlong ∷ more)) c (failed long_text c)

-- what a call answers by the rules
pub data Answers (m : Meaning) (allowed : Allowed) (t : Tables) (room : Room) (dir r : Text) : Outcome → Type 0 where
  -- a call that is refused before the lookup: that fault, with no round run
  is_refused : {f : Fault}
      → refusal room dir r ≡ Some f → Answers m allowed t room dir r (refused f 0)
  -- an accepted call whose request ends in a path: that path, with the query, the fragment and the rounds then
  finds : {p : Text} {c : Context}
      → refusal room dir r ≡ None → Ends m allowed t rounds_at_most (a_round dir r) (fresh t) (ends_in p c) → Answers m allowed t room dir r (path p c.query c.fragment c.rounds)
  -- one whose request ends in a fault: that fault, with the rounds then
  fails : {f : Fault} {c : Context}
      → refusal room dir r ≡ None → Ends m allowed t rounds_at_most (a_round dir r) (fresh t) (failed f c) → Answers m allowed t room dir r (refused f c.rounds)
