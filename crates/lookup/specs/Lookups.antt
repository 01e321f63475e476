-- A lookup: rounds, labels and candidates. Assumes nothing.
use Rattle.std.specs.Prelude.{ℕ, zero, suc, Bool, false, cond, List, [], ◌∷◌, ◌++◌, Some, None, Option, nat_lt}
use Rattle.texts.specs.Texts.{Text, empty, fits, unslashed}
use Rattle.texts.specs.Parts.{parts}
use Rattle.paths.specs.Joins.{join, joins}
use Rattle.specifier.specs.declared.branch.Branch.{Branch}
use Rattle.specifier.specs.declared.branch.Branch.TheVariants as way
use Rattle.specifier.specs.Branches.{branch}
use Rattle.specifier.specs.Requests.{fragment_of, path_of, query_of}
use Rattle.tree.specs.declared.answers.Way.TheVariants as asked
use Rattle.tree.specs.Acceptances.{Allowed, acceptable}
use Rattle.tree.specs.Meanings.{Finding, Meaning, faulty, found, missing}
use Rattle.settings.specs.Tables.{Tables}
use Rattle.alias.specs.Attempts.{Attempt, attempts}
use Rattle.alias.specs.Attempts as attempt
use Rattle.candidates.specs.Candidates.{Candidate, broken_at, candidates, asks_for_directory, is_directory, overlong, try}
use Rattle.lookup.specs.Faults.{Fault, broken_lookup, broken_manifest, empty_request, ignored, long_text, not_found, passes_on, recursion, stays, unmatched}

-- what goes with a lookup from round to round: the rounds run, whether a request is fully specified, query and fragment
pub record Context : Type 0 where
  pub rounds : ℕ
  pub fully : Bool
  pub query : Option Text
  pub fragment : Option Text

-- how a part of a lookup ends: in a path, in nothing, or in a fault, and the context then
pub data Ended : Type 0 where
  ends_in : Text → Context → Ended
  missed : Context → Ended
  failed : Fault → Context → Ended

-- after nothing, what comes next
abbrev pub or_next : Ended → (Context → Ended) → Ended
or_next (ends_in p c) go = ends_in p c
or_next (missed c) go = go c
or_next (failed f c) go = failed f c

-- after 22 and 23 too
abbrev pub or_value : Ended → (Context → Ended) → Ended
or_value (ends_in p c) go = ends_in p c
or_value (missed c) go = go c
or_value (failed f c) go = cond (passes_on f) (go c) (failed f c)

-- after every fault but the one that stays
abbrev pub or_alone : Ended → (Context → Ended) → Ended
or_alone (ends_in p c) go = ends_in p c
or_alone (missed c) go = go c
or_alone (failed f c) go = cond (stays f) (failed f c) (go c)

-- one more round; a round is never given back
abbrev pub counted : Context → Context
counted c = record { rounds = suc c.rounds; fully = c.fully; query = c.query; fragment = c.fragment }

-- fully specified off, for good
abbrev pub loosened : Context → Context
loosened c = record { rounds = c.rounds; fully = false; query = c.query; fragment = c.fragment }

abbrev pub with_fragment : Option Text → Context → Context
with_fragment f c = record { rounds = c.rounds; fully = c.fully; query = c.query; fragment = f }

-- a new query or fragment takes the place of the old one
abbrev pub newer : Option Text → Option Text → Option Text
newer None old = old
newer (Some t) old = Some t

abbrev pub taking : Text → Context → Context
taking r c = record { rounds = c.rounds; fully = c.fully; query = newer (query_of r) c.query; fragment = newer (fragment_of r) c.fragment }

-- what package or hash lookup ends a request in
abbrev pub answered_by : Text → Finding → Context → Ended
answered_by r (found p) c = ends_in p c
answered_by r missing c = failed (not_found r) c
answered_by r faulty c = failed (broken_lookup r) c

-- one round of a lookup; `again` is the round that a label's value starts
module _ (m : Meaning) (allowed : Allowed) (t : Tables) (again : Text → Text → Context → Ended) where
  -- the attempts of the labels, in turn
  abbrev pub tries : Text → List Attempt → Context → Ended
  tries dir [] c = missed c
  tries dir (attempt.again r ∷ more) c = or_value (again dir r (loosened c)) (λ d. tries dir more d)
  tries dir (attempt.ignored p ∷ more) c = failed (ignored p) c
  tries dir (attempt.unmatched r l ∷ more) c = failed (unmatched r l) c
  tries dir (attempt.overlong ∷ more) c = failed long_text c

  -- what the labels make of a request from a directory
  abbrev pub by_labels : Text → Text → Context → Ended
  by_labels dir r c = tries dir (attempts m dir r t.aliases) c

  -- a candidate: first the labels apply to it, with its path as the directory too, then it must be acceptable
  abbrev pub tested : Text → Context → Ended
  tested p c = or_next (by_labels p p c) (λ d. cond (acceptable m allowed t.restrictions p) (ends_in p d) (missed d))

  -- the candidates, in turn
  abbrev pub tests : List Candidate → Context → Ended
  tests [] c = missed c
  tests (try p ∷ more) c = or_next (tested p c) (λ d. tests more d)
  tests (broken_at p ∷ more) c = failed (broken_manifest p) c
  tests (overlong ∷ more) c = failed long_text c

  -- the path P of a request: in context mode P itself if it is a directory, else its candidates
  abbrev pub look : Text → Text → Context → Ended
  look r p c =
      cond t.context
      (cond (is_directory (m.kind (parts p))) (ends_in p c) (failed (not_found r) c))
      (or_next (tests (candidates t c.fully m (asks_for_directory r) p) c) (λ d. failed (not_found r) d))

  -- a request that no label rewrites
  abbrev pub by_way : Branch → Text → Text → Context → Ended
  by_way way.Absolute dir r c = look r (unslashed r) c
  by_way way.Relative dir r c = cond (joins dir r) (look r (join dir r) c) (failed long_text c)
  by_way way.Hash dir r c = answered_by r (m.lookup asked.Hash r (parts dir)) c
  by_way way.Package dir r c = answered_by r (m.lookup asked.Package r (parts dir)) c

  -- a request without query and fragment: the labels, then its way
  unfoldable pub find : Text → Text → Context → Ended
  find dir r c = or_next (by_labels dir r c) (λ d. by_way (branch r) dir r d)

  -- the path; with a fragment and no query it is first tried with the fragment as a part of it
  abbrev pub with_marks : Option Text → Option Text → Text → Text → Context → Ended
  with_marks None (Some f) dir r c =
      cond (fits (r ++ f))
      (or_alone (find dir (r ++ f) (with_fragment None c)) (λ d. find dir r (with_fragment (Some f) d)))
      (failed long_text c)
  with_marks None None dir r c = find dir r c
  with_marks (Some q) f dir r c = find dir r c

  -- the text of a round, taken apart; an empty path is refused with the whole text, and leaves the context as it was
  unfoldable pub round : Text → Text → Context → Ended
  round dir r c =
      cond (empty (path_of r)) (failed (empty_request r) c)
      (let d : Context = taking r c in with_marks d.query d.fragment dir (path_of r) d)

-- a round, if one of `limit` is left; n bounds how deep rounds lie in one another and never shows, since no round is left at 0
unfoldable pub require : Meaning → Allowed → Tables → ℕ → ℕ → Text → Text → Context → Ended
require m allowed t limit zero dir r c = failed recursion c
require m allowed t limit (suc n) dir r c =
    cond (nat_lt c.rounds limit)
    (round m allowed t (λ e u d. require m allowed t limit n e u d) dir r (counted c))
    (failed recursion c)
