-- What a lookup answers. Assumes nothing.
use Rattle.std.specs.Prelude.{ℕ, Bool, cond, ◌&&◌, List, ◌++◌, length, drop, replicate, Some, None, Option, nat_le}
use Rattle.texts.specs.Texts.{Text}
use Rattle.specifier.specs.Accepted.{askable, startable}
use Rattle.tree.specs.Acceptances.{Allowed}
use Rattle.tree.specs.Meanings.{Meaning}
use Rattle.settings.specs.Tables.{Tables}
use Rattle.lookup.specs.Faults.{Fault, bad_directory, bad_request, no_memory, number, recursion, texts}
use Rattle.lookup.specs.Lookups.{Context, Ended, ends_in, failed, missed, require}

-- the rounds that run at most
abbrev pub rounds_at_most : ℕ
rounds_at_most = 64

-- a path with query and fragment, or a fault; and the rounds run
pub data Outcome : Type 0 where
  path : Text → Option Text → Option Text → ℕ → Outcome
  refused : Fault → ℕ → Outcome

abbrev pub rounds_of : Outcome → ℕ
rounds_of (path p q f n) = n
rounds_of (refused f n) = n

-- the path that is handed out, if one is
abbrev pub handed_out : Outcome → Option Text
handed_out (path p q f n) = Some p
handed_out (refused f n) = None

abbrev pub outcome_of : Ended → Outcome
outcome_of (ends_in p c) = path p c.query c.fragment c.rounds
outcome_of (missed c) = refused recursion c.rounds
outcome_of (failed f c) = refused f c.rounds

-- the context that a lookup starts with
abbrev pub fresh : Tables → Context
fresh t = record { rounds = 0; fully = t.fully_specified; query = None; fragment = None }

-- how an accepted lookup ends
unfoldable pub lookup : Meaning → Allowed → Tables → Text → Text → Outcome
lookup m allowed t dir r = outcome_of (require m allowed t rounds_at_most rounds_at_most dir r (fresh t))

-- the room that a call is given: bytes of the text area, rows, and bytes of the three buffers
pub record Room : Type 0 where
  pub area : ℕ
  pub rows : ℕ
  pub first : ℕ
  pub second : ℕ
  pub third : ℕ

-- as much as is lent: the text area, the rows and the three buffers
abbrev pub room_of : {Row : Type 0} → List ℕ → List Row → List ℕ → List ℕ → List ℕ → Room
room_of area rows first second third = record { area = length area; rows = length rows; first = length first; second = length second; third = length third }

abbrev pub roomy : Room → Bool
roomy r = nat_le 131072 r.area && (nat_le 1024 r.rows && (nat_le 255 r.first && (nat_le 255 r.second && nat_le 255 r.third)))

-- why a call is refused before the lookup, in this order: 1, 2, 20
abbrev pub refusal : Room → Text → Text → Option Fault
refusal room dir r =
    cond (roomy room) (cond (startable dir) (cond (askable r) None (Some bad_request)) (Some bad_directory)) (Some no_memory)

abbrev pub unless_refused : Option Fault → Outcome → Outcome
unless_refused None o = o
unless_refused (Some f) o = refused f 0

-- what a call answers
abbrev pub answer : Meaning → Allowed → Tables → Room → Text → Text → Outcome
answer m allowed t room dir r = unless_refused (refusal room dir r) (lookup m allowed t dir r)

-- a buffer after a text is written to it, if there is one: its other bytes stay
abbrev pub written : Option Text → List ℕ → List ℕ
written None b = b
written (Some t) b = t ++ drop (length t) b

-- what the three buffers hold after a call: a path writes path, query and fragment, a fault its texts to the first two
abbrev pub buffers_after : Outcome → List ℕ × (List ℕ × List ℕ) → List ℕ × (List ℕ × List ℕ)
buffers_after (path p q f n) b = (written (Some p) b.0, (written q b.1.0, written f b.1.1))
buffers_after (refused f n) b = (written (texts f).0 b.0, (written (texts f).1 b.1.0, b.1.1))

-- the number that a call answers: 0 with a path, else that of the fault
abbrev pub number_of : Outcome → ℕ
number_of (path p q f n) = 0
number_of (refused f n) = number f

-- lent memory after a call: a refusal before the lookup leaves it as it was, an accepted call leaves it blank throughout
abbrev pub memory_after : {A : Type 0} → A → Option Fault → List A → List A
memory_after blank None held = replicate (length held) blank
memory_after blank (Some f) held = held

-- the text area after a call: its bytes are zeroed, those beyond what a call asks for too
abbrev pub area_after : Option Fault → List ℕ → List ℕ
area_after early area = memory_after 0 early area

-- and the rows, by what a blank row is
abbrev pub rows_after : {Row : Type 0} → Row → Option Fault → List Row → List Row
rows_after blank early rows = memory_after blank early rows
