-- A list of calls, and what each of them is answered. Assumes nothing.
use Rattle.std.specs.Prelude.{◌≡◌, ℕ, ◌+◌, List, [], ◌∷◌, length, min}
use Rattle.texts.specs.Texts.{Text}
use Rattle.texts.specs.Parts.{text_at}
use Rattle.tree.specs.Acceptances.{Allowed}
use Rattle.texts.specs.declared.place.Place.{Place}
use Rattle.tree.specs.Meanings.{Meaning, Question, forgetting}
use Rattle.settings.specs.Tables.{Tables}
use Rattle.lookup.specs.Outcomes.{Room, answer, buffers_after, memory_after, refusal}
use Rattle.lookup.specs.Resolutions.{resolution_of}
use Rattle.resolver.specs.declared.Answered.{Answered}
use Rattle.resolver.specs.declared.Answered.TheVariants.{Counted, Forgotten, Resolved, Unserved}
use Rattle.resolver.specs.declared.Call.{Call}
use Rattle.resolver.specs.declared.Call.TheVariants.{Forget, Resolve, Tally}
use Rattle.resolver.specs.declared.Reply.{Reply}
use Rattle.resolver.specs.Runs.{Buffers, Event, asked, ceiling, forgot, paths_in, tallied}

-- the three buffers of a reply
abbrev pub buffers_of : Reply → Buffers
buffers_of reply = (reply.first, (reply.second, reply.third))

-- the paths that an answer hands out
abbrev pub paths_by : Answered → ℕ
paths_by Unserved = 0
paths_by (Resolved a) = paths_in a.outcome
paths_by Forgotten = 0
paths_by (Counted n) = 0

-- the paths that replies hand out
abbrev pub paths_of : List Reply → ℕ
paths_of [] = 0
paths_of (reply ∷ more) = paths_by reply.answered + paths_of more

-- how much is lent to a call whose reply this is
abbrev pub room_in : ℕ → ℕ → Reply → Room
room_in area rows reply = record { area = area; rows = rows; first = length reply.first; second = length reply.second; third = length reply.third }

module _ (m : Meaning) (allowed : Allowed) (t : Tables) (area rows : ℕ) (texts : Text) where
  -- what a call is answered, and what its buffers hold then, where so many paths had been handed out before it: only a tally has to do with that number
  abbrev pub due : ℕ → Call → Reply → Answered × Buffers
  due n (Resolve dir r) old =
      let a = answer m allowed t (room_in area rows old) (text_at texts dir) (text_at texts r) in
      (Resolved (resolution_of a), buffers_after a (buffers_of old))
  due n Forget old = (Forgotten, buffers_of old)
  due n Tally old = (Counted (min n ceiling), buffers_of old)

  -- each call has its reply, and the replies come to what is due; the list begins where so many paths had been handed out
  pub data Served : ℕ → List Call → List Reply → List Reply → Type 0 where
    no_call_left : {n : ℕ} → Served n [] [] []
    one_call_more : {n : ℕ} (call : Call) (calls : List Call) (old new : Reply) (olds news : List Reply) →
        (new.answered, buffers_of new) ≡ due n call old → Served (n + paths_by new.answered) calls olds news → Served n (call ∷ calls) (old ∷ olds) (new ∷ news)

module _ (area rows : ℕ) (texts : Text) where
  -- a call of a list as it went, by what it was answered and what its buffers held then; no call is answered in another way
  abbrev pub went : Call → Reply → Answered × Buffers → Event
  went (Resolve dir r) old (Resolved a, after) = asked (text_at texts dir) (text_at texts r) (room_in area rows old) a (buffers_of old) after
  went (Resolve dir r) old (Unserved, after) = forgot
  went (Resolve dir r) old (Forgotten, after) = forgot
  went (Resolve dir r) old (Counted n, after) = forgot
  went Forget old (a, after) = forgot
  went Tally old (Counted n, after) = tallied n
  went Tally old (Unserved, after) = forgot
  went Tally old (Resolved a, after) = forgot
  went Tally old (Forgotten, after) = forgot

  -- the calls of a list as they went
  abbrev pub events : List Call → List Reply → List Reply → List Event
  events [] olds news = []
  events (call ∷ calls) [] news = []
  events (call ∷ calls) (old ∷ olds) [] = []
  events (call ∷ calls) (old ∷ olds) (new ∷ news) = went call old (new.answered, buffers_of new) ∷ events calls olds news

  -- lent memory after a call, and after a list of calls: as it was until a lookup is accepted, blank from then on
  abbrev pub memory_by : {A : Type 0} → A → Call → Reply → List A → List A
  memory_by blank (Resolve dir r) old held = memory_after blank (refusal (room_in area rows old) (text_at texts dir) (text_at texts r)) held
  memory_by blank Forget old held = held
  memory_by blank Tally old held = held

  abbrev pub memory_then : {A : Type 0} → A → List Call → List Reply → List A → List A
  memory_then blank [] olds held = held
  memory_then blank (call ∷ calls) [] held = held
  memory_then blank (call ∷ calls) (old ∷ olds) held = memory_then blank calls olds (memory_by blank call old held)

-- how calls move the host: a forget is handed on to it, a tally leaves it as it is, and a resolve may ask it
module _ {Host : Type 0} (steps : Host → Question → Host → Type 0) where
  pub data Moves : Call → Host → Host → Type 0 where
    may_ask : {before after : Host} (dir r : Place) → Moves (Resolve dir r) before after
    told_to_forget : {before after : Host} → steps before forgetting after → Moves Forget before after
    left_alone : {host : Host} → Moves Tally host host

  pub data MovesOn : List Call → Host → Host → Type 0 where
    stays : {host : Host} → MovesOn [] host host
    moves_on : {before between after : Host} (call : Call) (calls : List Call) → Moves call before between → MovesOn calls between after → MovesOn (call ∷ calls) before after
