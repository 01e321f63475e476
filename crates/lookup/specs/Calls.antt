-- Calls that stand open in one another, and what each makes of what comes back to it. Assumes nothing.
use Rattle.std.specs.Prelude.{ℕ, cond, List, [], ◌∷◌}
use Rattle.texts.specs.Texts.{Text}
use Rattle.specifier.specs.Branches.{branch}
use Rattle.tree.specs.Acceptances.{Allowed, acceptable}
use Rattle.tree.specs.Meanings.{Meaning}
use Rattle.settings.specs.Tables.{Tables}
use Rattle.alias.specs.Attempts.{Attempt}
use Rattle.candidates.specs.Candidates.{Candidate}
use Rattle.lookup.specs.Faults.{not_found}
use Rattle.lookup.specs.Lookups.{Context, Ended, by_way, ends_in, failed, find, missed, or_alone, or_next, or_value, require, tests, tries, with_fragment}
use Rattle.std.specs.Prelude.{Some}

-- an open call, by what it still has to do: start a round, put a fragment back, or go on with attempts, candidates or the test of one
pub data Call : Type 0 where
  waiting : Text → Text → Call
  marked : Text → Text → Text → Call
  labelled : Text → Text → List Attempt → Call
  trying : Text → List Candidate → Call
  testing : Text → List Attempt → Call

module _ (m : Meaning) (allowed : Allowed) (t : Tables) (limit : ℕ) where
  -- the round that a text starts
  abbrev pub again : Text → Text → Context → Ended
  again dir r c = require m allowed t limit limit dir r c

  -- what an open call ends in, once this has come back to it
  abbrev pub resumed : Call → Ended → Ended
  resumed (waiting dir r) e = or_next e (λ c. again dir r c)
  resumed (marked dir r f) e = or_alone e (λ c. find m allowed t again dir r (with_fragment (Some f) c))
  resumed (labelled dir r ts) e = or_next (or_value e (λ c. tries m allowed t again dir ts c)) (λ c. by_way m allowed t again (branch r) dir r c)
  resumed (trying r cs) e = or_next (or_next e (λ c. tests m allowed t again cs c)) (λ c. failed (not_found r) c)
  resumed (testing p ts) e = or_next (or_value e (λ c. tries m allowed t again p ts c)) (λ c. cond (acceptable m allowed t.restrictions p) (ends_in p c) (missed c))

  -- what a table of open calls ends in, the top one first
  abbrev pub plugged : List Call → Ended → Ended
  plugged [] e = e
  plugged (k ∷ ks) e = plugged ks (resumed k e)
