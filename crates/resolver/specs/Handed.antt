-- What holds of every path that a call hands out, told by its answer and its buffers. Assumes nothing.
use Rattle.std.specs.Prelude.{◌≡◌, ◌↔◌, true, false, List, ℕ, length, take, Ok, Err, Result, Some, None, Option}
use Rattle.texts.specs.Texts.{Text}
use Rattle.tree.specs.Acceptances.{Allowed, acceptable}
use Rattle.tree.specs.Meanings.{Meaning}
use Rattle.settings.specs.Tables.{Tables}
use Rattle.lookup.specs.declared.resolution.Found.{Found}
use Rattle.lookup.specs.declared.resolution.Refused.{Refused}
use Rattle.lookup.specs.declared.resolution.Resolution.{Resolution}
use Rattle.lookup.specs.declared.resolution.ResolveError.TheVariants as error
use Rattle.lookup.specs.Laws.{FindsAcceptablePaths, candidates_of}
use Rattle.lookup.specs.Outcomes.{Room, refusal}
use Rattle.lookup.specs.Quiet.{First, NonePasses, Quiet}

-- the path that an answer hands out: what stands at the front of the first buffer
abbrev pub path_in : Result Found Refused → List ℕ → Option Text
path_in (Ok f) first = Some (take f.path first)
path_in (Err e) first = None

-- an answer hands out this path, with no query and no fragment
abbrev pub hands_out_alone : Text → Resolution → List ℕ → Type 0
hands_out_alone p a first = (a.outcome ≡ Ok (record { path = length p; query = None; fragment = None })) × (path_in a.outcome first ≡ Some p)

-- an answer says that nothing was found for this request, which stands at the front of the first buffer
abbrev pub says_not_found : Text → Resolution → List ℕ → Type 0
says_not_found r a first = (a.outcome ≡ Err (record { error = error.NotFound; first = Some (length r); second = None })) × (take (length r) first ≡ r)

-- out of context mode, where package and hash lookup of the host find only acceptable paths, a path that is handed out is acceptable: a file that the policy allows and every restriction passes
abbrev pub OnlyAcceptablePaths : Meaning → Allowed → Tables → Resolution → List ℕ → Type 0
OnlyAcceptablePaths m allowed t a first =
    t.context ≡ false → FindsAcceptablePaths m allowed t.restrictions → (p : Text) → path_in a.outcome first ≡ Some p → acceptable m allowed t.restrictions p ≡ true

-- an accepted quiet request, out of context mode
pub record AcceptedQuiet (m : Meaning) (t : Tables) (room : Room) (dir r : Text) : Type 0 where
  pub out_of_context : t.context ≡ false
  pub accepted : refusal room dir r ≡ None
  pub quiet : Quiet m t dir r

-- a quiet request that is accepted hands out a path, byte for byte, with no query and no fragment, exactly if it is the first acceptable candidate
abbrev pub FirstCandidate : Meaning → Allowed → Tables → Room → Text → Text → Resolution → List ℕ → Type 0
FirstCandidate m allowed t room dir r a first =
    AcceptedQuiet m t room dir r → (p : Text) → hands_out_alone p a first ↔ First m allowed t.restrictions (candidates_of m t dir r) p

-- and it is answered that nothing was found exactly if no candidate is acceptable
abbrev pub NotFoundIfNone : Meaning → Allowed → Tables → Room → Text → Text → Resolution → List ℕ → Type 0
NotFoundIfNone m allowed t room dir r a first =
    AcceptedQuiet m t room dir r → says_not_found r a first ↔ NonePasses m allowed t.restrictions (candidates_of m t dir r)
