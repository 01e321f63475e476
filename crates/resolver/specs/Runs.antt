-- What a resolver was asked since it was new, whoever asked and with whatever memory. Assumes nothing.
use Rattle.std.specs.Prelude.{◌≡◌, ℕ, ◌+◌, List, [], ◌∷◌, Ok, Err, Result, min}
use Rattle.texts.specs.Texts.{Text}
use Rattle.tree.specs.Acceptances.{Allowed}
use Rattle.tree.specs.Meanings.{Meaning}
use Rattle.settings.specs.Tables.{Tables}
use Rattle.lookup.specs.declared.resolution.Found.{Found}
use Rattle.lookup.specs.declared.resolution.Refused.{Refused}
use Rattle.lookup.specs.declared.resolution.Resolution.{Resolution}
use Rattle.lookup.specs.Outcomes.{Room, answer, buffers_after}
use Rattle.lookup.specs.Resolutions.{resolution_of}

-- the most that a tally answers
abbrev pub ceiling : ℕ
ceiling = 4294967295

-- what the three buffers hold
abbrev pub Buffers : Type 0
Buffers = List ℕ × (List ℕ × List ℕ)

-- a call as it went: a resolve with its directory, request, room, its answer, and the buffers before and after it; a forget; a tally with its answer
pub data Event : Type 0 where
  asked : Text → Text → Room → Resolution → Buffers → Buffers → Event
  forgot : Event
  tallied : ℕ → Event

-- how many paths an answer hands out, and a call
abbrev pub paths_in : Result Found Refused → ℕ
paths_in (Ok f) = 1
paths_in (Err e) = 0

abbrev pub handed_by : Event → ℕ
handed_by (asked dir r room a before after) = paths_in a.outcome
handed_by forgot = 0
handed_by (tallied n) = 0

-- how many paths were handed out
abbrev pub handed_out_by : List Event → ℕ
handed_out_by [] = 0
handed_out_by (e ∷ more) = handed_by e + handed_out_by more

module _ (m : Meaning) (allowed : Allowed) (t : Tables) where
  -- a call went as it is defined, where so many paths had been handed out before it: only a tally has to do with that number
  pub data Right : ℕ → Event → Type 0 where
    resolved_right : {n : ℕ} (dir r : Text) (room : Room) (a : Resolution) (before after : Buffers) → a ≡ resolution_of (answer m allowed t room dir r) → after ≡ buffers_after (answer m allowed t room dir r) before → Right n (asked dir r room a before after)
    forgot_right : {n : ℕ} → Right n forgot
    tallied_right : {n : ℕ} (k : ℕ) → k ≡ min n ceiling → Right n (tallied k)

  -- every call of a run went as it is defined; the run begins where so many paths had been handed out
  pub data AllRight : ℕ → List Event → Type 0 where
    no_call : {n : ℕ} → AllRight n []
    one_more : {n : ℕ} (e : Event) (more : List Event) → Right n e → AllRight (n + handed_by e) more → AllRight n (e ∷ more)

  -- every call since the resolver was new went as it is defined, and it counts the paths handed out, up to the ceiling
  pub record Reached (past : List Event) (tally : ℕ) : Type 0 where
    pub each_as_defined : AllRight 0 past
    pub counted : tally ≡ min (handed_out_by past) ceiling
