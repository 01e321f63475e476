-- What one move of an open call keeps. Assumes nothing.
use Rattle.std.specs.Prelude.{◌≡◌, ℕ, ◌+◌, ◌*◌, ◌-◌, ◌<◌, ◌≤◌, Bool, false, List, [], ◌∷◌, length, map, take, None, Ok, Option, Result}
use Rattle.texts.specs.declared.place.Place.{Place}
use Rattle.texts.specs.Parts.{text_at}
use Rattle.texts.specs.Texts.{Text}
use Rattle.tree.specs.Acceptances.{Allowed}
use Rattle.tree.specs.Meanings.{Meaning}
use Rattle.settings.specs.Tables.{Alias, Tables}
use Rattle.lookup.specs.declared.calls.Fault.{Fault as Told}
use Rattle.lookup.specs.declared.calls.ResolveContext.{ResolveContext}
use Rattle.alias.specs.declared.attempts.Progress.{Progress}
use Rattle.candidates.specs.declared.walk.Walk.{Walk}
use Rattle.lookup.specs.declared.calls.Asked.{Asked}
use Rattle.lookup.specs.declared.calls.OpenCall.{OpenCall}
use Rattle.lookup.specs.declared.calls.Stage.{Stage}
use Rattle.lookup.specs.declared.calls.Stage.TheVariants as stage
use Rattle.lookup.specs.declared.calls.Move.{Move}
use Rattle.lookup.specs.declared.calls.Move.TheVariants.{Open, Return, Stay}
use Rattle.lookup.specs.Calls.{again, plugged, resumed}
use Rattle.lookup.specs.Lookups.{Ended, missed, round, with_marks}
use Rattle.lookup.specs.Moves.{attempts_most, label_moves, rounds_left, weight, weights}
use Rattle.lookup.specs.Areas.{Before}
use Rattle.lookup.specs.Opened.{Begun, MarksIn, Placed, Short, context_of, ended, first_unit, free_unit, shown, stage_shown}

-- the open calls that a move leaves, the top one first
abbrev pub rows_of : Move → List OpenCall
rows_of (Return a) = []
rows_of (Stay row) = row ∷ []
rows_of (Open row child) = child ∷ row ∷ []

-- what the top one of them is told
abbrev pub came_back : List ℕ → List Alias → Move → ResolveContext → Ended
came_back w labels (Return a) c = ended w labels a c
came_back w labels (Stay row) c = missed (context_of w c)
came_back w labels (Open row child) c = missed (context_of w c)

-- how high a stage may stand in its round
abbrev pub rank : Stage → ℕ
rank stage.Require = 1
rank (stage.Marked f) = 1
rank (stage.Labels p) = 2
rank (stage.Candidates p fully walk) = 2
rank (stage.Tested p) = 3

-- how high an open call may stand in the table
abbrev pub height : OpenCall → ℕ
height row = 3 * row.asked.round + rank row.stage

-- a context with fully specified off
abbrev pub loosened : ResolveContext → ResolveContext
loosened c = record { rounds = c.rounds; fully_specified = false; query = c.query; fragment = c.fragment }

-- the round that a text starts, from the directory of the call that it comes from
abbrev pub round_row : Asked → Place → OpenCall
round_row a p = record { asked = record { round = a.round + 1; directory = a.directory; text = p }; stage = stage.Require }

-- the round that a text starts from a candidate, with the candidate as its directory
abbrev pub round_from : Asked → Place → OpenCall
round_from a p = round_row (record { round = a.round; directory = a.text; text = a.text }) p

-- an open call may stand where another one stood, or so many rows above it
pub record Follows (rounds : ℕ) (row : OpenCall) (above : ℕ) (to : OpenCall) : Type 0 where
  pub placed : Placed to
  pub begun : Begun rounds to
  pub free : free_unit row ≤ free_unit to
  pub room : height row + above ≤ height to

abbrev pub Kept : ℕ → OpenCall → Move → Type 0
Kept rounds row (Return a) = Unit {0}
Kept rounds row (Stay to) = Follows rounds row 0 to
Kept rounds row (Open to child) = Follows rounds row 0 to × Follows rounds row 1 child × (free_unit to ≤ free_unit child)

-- the rounds, the query and the fragment of a context are what they can be
pub record Sound (limit : ℕ) (c : ResolveContext) : Type 0 where
  pub few : c.rounds ≤ limit
  pub query : MarksIn c.rounds c.query
  pub fragment : MarksIn c.rounds c.fragment

-- what is asked in a round that has begun: its texts lie below so many units of that round
pub record Stands (units : ℕ) (c : ResolveContext) (a : Asked) : Type 0 where
  pub directory : Before (256 * (first_unit a.round + units)) a.directory
  pub text : Before (256 * (first_unit a.round + units)) a.text
  pub short : a.text.len ≤ 255
  pub begun : a.round < c.rounds
  pub query : MarksIn c.rounds c.query
  pub fragment : MarksIn c.rounds c.fragment

-- a request whose labels are tried: its texts lie below the path that is looked for
abbrev pub Labelled : ResolveContext → Asked → Type 0
Labelled = Stands 3

-- a candidate whose labels are tried: its texts lie below the texts of attempts
abbrev pub Testing : ResolveContext → Asked → Type 0
Testing = Stands 5

-- a path whose candidates are tried: its texts lie below the texts of candidates
pub record Trying (c : ResolveContext) (a : Asked) (p : Place) : Type 0 where
  pub directory : Before (256 * (first_unit a.round + 4)) a.directory
  pub text : Before (256 * (first_unit a.round + 4)) a.text
  pub path : Before (256 * (first_unit a.round + 4)) p
  pub short_path : p.len ≤ 255
  pub short : a.text.len ≤ 255
  pub begun : a.round < c.rounds
  pub query : MarksIn c.rounds c.query
  pub fragment : MarksIn c.rounds c.fragment

-- what was asked with another text
abbrev pub with_text : Asked → Place → Asked
with_text a p = record { round = a.round; directory = a.directory; text = p }

-- the open call that tests a candidate, and the one that tries the candidates of a path
abbrev pub test_row : Asked → Progress → OpenCall
test_row a p = record { asked = a; stage = stage.Tested p }

abbrev pub trying_row : Asked → Place → Bool → Walk → OpenCall
trying_row a path fully walk = record { asked = a; stage = stage.Candidates path fully walk }

-- the open call whose labels are tried
abbrev pub labels_row : Asked → Progress → OpenCall
labels_row a p = record { asked = a; stage = stage.Labels p }

-- a move that ends its call ends it in a short text
abbrev pub EndsShort : Move → Type 0
EndsShort (Return a) = Short a
EndsShort (Stay row) = Unit {0}
EndsShort (Open row child) = Unit {0}

-- a move of an open call, once this has come back to it: what it ends in stays, the moves that are left get fewer, and what lies below its free units stays
pub record Moved (m : Meaning) (allowed : Allowed) (t : Tables) (limit : ℕ) (w : List ℕ) (row : OpenCall) (back : Result (Option Place) Told) (c : ResolveContext) (move : Move) (after : List ℕ) (d : ResolveContext) : Type 0 where
  pub means : resumed m allowed t limit (shown m t w row) (ended w t.aliases back c) ≡ plugged m allowed t limit (map (shown m t after) (rows_of move)) (came_back after t.aliases move d)
  pub falls : weights t (map (shown m t after) (rows_of move)) + rounds_left t (limit - d.rounds) < weight t (shown m t w row) + rounds_left t (limit - c.rounds)
  pub kept : Kept d.rounds row move
  pub sound : Sound limit d
  pub later : c.rounds ≤ d.rounds
  pub below : take (256 * free_unit row) after ≡ take (256 * free_unit row) w
  pub long : length after ≡ length w
  pub short : Short back → EndsShort move

-- the same, whatever the policy
abbrev pub Moves : Meaning → Tables → ℕ → List ℕ → OpenCall → Result (Option Place) Told → ResolveContext → Move → List ℕ → ResolveContext → Type 0
Moves m t limit w row back c move after d = (allowed : Allowed) → Moved m allowed t limit w row back c move after d

-- what an open call needs for a move
pub record Ready (limit : ℕ) (w : List ℕ) (row : OpenCall) (c : ResolveContext) : Type 0 where
  pub placed : Placed row
  pub begun : Begun c.rounds row
  pub sound : Sound limit c
  pub room : 256 * (2 + 6 * limit) ≤ length w

-- what a round with its text ends in, and what is left of it once the text is taken apart
abbrev pub round_ends : List ℕ → Asked → ResolveContext → Meaning → Allowed → Tables → ℕ → Ended
round_ends w a c m allowed t limit = round m allowed t (again m allowed t limit) (text_at w a.directory) (text_at w a.text) (context_of w c)

abbrev pub marks_end : List ℕ → Asked → ResolveContext → Meaning → Allowed → Tables → ℕ → Ended
marks_end w a c m allowed t limit = with_marks m allowed t (again m allowed t limit) (context_of w c).query (context_of w c).fragment (text_at w a.directory) (text_at w a.text) (context_of w c)

-- the first move of a round, which ends in this
pub record Begins (what : Meaning → Allowed → Tables → ℕ → Ended) (w : List ℕ) (a : Asked) (c : ResolveContext) (move : Move) (after : List ℕ) (d : ResolveContext) : Type 0 where
  pub means :
      (m : Meaning) (allowed : Allowed) (t : Tables) (limit : ℕ)
      → what m allowed t limit ≡ plugged m allowed t limit (map (shown m t after) (rows_of move)) (came_back after t.aliases move d)
  pub falls : (m : Meaning) (t : Tables) → weights t (map (shown m t after) (rows_of move)) ≤ 1 + 2 * label_moves t (attempts_most t.aliases)
  pub kept : (row : OpenCall) → free_unit row ≤ first_unit a.round → height row ≤ 3 * a.round + 1 → Kept d.rounds row move
  pub rounds : d.rounds ≡ c.rounds
  pub query : MarksIn d.rounds d.query
  pub fragment : MarksIn d.rounds d.fragment
  pub front : take (256 * first_unit a.round) after ≡ take (256 * first_unit a.round) w
  pub long : length after ≡ length w
  pub short : EndsShort move

-- the open call whose path was tried with its fragment
abbrev pub marked_row : Asked → Place → OpenCall
marked_row a f = record { asked = a; stage = stage.Marked f }

-- the open call that starts a round
abbrev pub require_row : Asked → OpenCall
require_row a = record { asked = a; stage = stage.Require }

-- what an open call is told: a fault that it catches counts as nothing, and what it does not catch is its own end
pub record IsTold (s : Stage) (back told : Result (Option Place) Told) : Type 0 where
  pub same :
      (m : Meaning) (allowed : Allowed) (t : Tables) (limit : ℕ) (w : List ℕ) (dir r : Text) (c : ResolveContext)
      → resumed m allowed t limit (stage_shown m t w dir r s) (ended w t.aliases back c) ≡ resumed m allowed t limit (stage_shown m t w dir r s) (ended w t.aliases told c)
  pub short : Short back → Short told
  pub ends_else :
      (m : Meaning) (allowed : Allowed) (t : Tables) (limit : ℕ) (w : List ℕ) (dir r : Text) (c : ResolveContext) → (told ≡ Ok None → ⊥)
      → resumed m allowed t limit (stage_shown m t w dir r s) (ended w t.aliases told c) ≡ ended w t.aliases told c
