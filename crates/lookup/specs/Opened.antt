-- What the open calls of a lookup say, read off the work text. Assumes nothing.
use Rattle.std.specs.Prelude.{ℕ, ◌+◌, ◌*◌, ◌<◌, ◌≤◌, List, drop, Some, None, Option, Ok, Err, Result}
use Rattle.std.specs.Option.{option_map}
use Rattle.texts.specs.declared.place.Place.{Place}
use Rattle.texts.specs.Texts.{Text}
use Rattle.texts.specs.Parts.{text_at}
use Rattle.tree.specs.Meanings.{Meaning}
use Rattle.settings.specs.Tables.{Alias, Tables}
use Rattle.alias.specs.Forms.{key}
use Rattle.alias.specs.Left.{label_of, left as attempts_left}
use Rattle.candidates.specs.Left.{left as candidates_left}
use Rattle.lookup.specs.declared.calls.Fault.{Fault as Told}
use Rattle.lookup.specs.declared.calls.Fault.TheVariants as told
use Rattle.lookup.specs.declared.calls.ResolveContext.{ResolveContext}
use Rattle.lookup.specs.declared.calls.OpenCall.{OpenCall}
use Rattle.lookup.specs.declared.calls.Stage.{Stage}
use Rattle.lookup.specs.declared.calls.Stage.TheVariants as stage
use Rattle.lookup.specs.Areas.{Before, In}
use Rattle.lookup.specs.Calls.{Call, labelled, marked, testing, trying, waiting}
use Rattle.lookup.specs.Faults.{Fault, broken_lookup, broken_manifest, empty_request, ignored, long_text, not_found, recursion, unmatched}
use Rattle.lookup.specs.Lookups.{Context, Ended, ends_in, failed, missed}

-- what a context says
abbrev pub context_of : List ℕ → ResolveContext → Context
context_of w c = record { rounds = c.rounds; fully = c.fully_specified; query = option_map (text_at w) c.query; fragment = option_map (text_at w) c.fragment }

-- what a fault says
abbrev pub fault_of : List ℕ → List Alias → Told → Fault
fault_of w labels (told.Empty p) = empty_request (text_at w p)
fault_of w labels (told.NotFound p) = not_found (text_at w p)
fault_of w labels (told.Unmatched p i) = unmatched (text_at w p) (key (label_of (drop i labels)))
fault_of w labels (told.Ignored p) = ignored (text_at w p)
fault_of w labels told.Recursion = recursion
fault_of w labels told.TooLong = long_text
fault_of w labels (told.BrokenManifest p) = broken_manifest (text_at w p)
fault_of w labels (told.BrokenLookup p) = broken_lookup (text_at w p)

-- what came back, and the context then
abbrev pub ended : List ℕ → List Alias → Result (Option Place) Told → ResolveContext → Ended
ended w labels (Ok (Some p)) c = ends_in (text_at w p) (context_of w c)
ended w labels (Ok None) c = missed (context_of w c)
ended w labels (Err f) c = failed (fault_of w labels f) (context_of w c)

-- what an open call still has to do
abbrev pub stage_shown : Meaning → Tables → List ℕ → Text → Text → Stage → Call
stage_shown m t w dir r stage.Require = waiting dir r
stage_shown m t w dir r (stage.Marked f) = marked dir r (text_at w f)
stage_shown m t w dir r (stage.Labels p) = labelled dir r (attempts_left m dir r t.aliases p)
stage_shown m t w dir r (stage.Candidates p fully walk) = trying r (candidates_left t fully (text_at w p) m walk)
stage_shown m t w dir r (stage.Tested p) = testing r (attempts_left m r r t.aliases p)

abbrev pub shown : Meaning → Tables → List ℕ → OpenCall → Call
shown m t w row = stage_shown m t w (text_at w row.asked.directory) (text_at w row.asked.text) row.stage

-- how many units of its round an open call holds, beyond those of earlier rounds; the other ones are free
abbrev pub units_held : Stage → ℕ
units_held stage.Require = 0
units_held (stage.Marked f) = 3
units_held (stage.Labels p) = 3
units_held (stage.Candidates p fully walk) = 4
units_held (stage.Tested p) = 5

-- the first unit of a round, by the rounds before it: two hold the directory and the request of the call
abbrev pub first_unit : ℕ → ℕ
first_unit n = 2 + 6 * n

-- the first unit that is free above an open call
abbrev pub free_unit : OpenCall → ℕ
free_unit row = first_unit row.asked.round + units_held row.stage

-- a query or fragment stands in the first unit of a round that has begun
pub record MarkIn (rounds : ℕ) (p : Place) : Type 0 where
  pub round : ℕ
  pub begun : round < rounds
  pub there : In (first_unit round) p
  pub short : p.len ≤ 255

abbrev pub MarksIn : ℕ → Option Place → Type 0
MarksIn rounds None = Unit {0}
MarksIn rounds (Some p) = MarkIn rounds p

-- the texts of a stage lie before a byte, and a fragment where fragments stand
abbrev pub StagePlaced : ℕ → ℕ → Stage → Type 0
StagePlaced n round stage.Require = Unit {0}
StagePlaced n round (stage.Marked f) = MarkIn (round + 1) f
StagePlaced n round (stage.Labels p) = Unit {0}
StagePlaced n round (stage.Candidates p fully walk) = Before n p × (p.len ≤ 255)
StagePlaced n round (stage.Tested p) = Unit {0}

-- every text of an open call lies below its free units
pub record Placed (row : OpenCall) : Type 0 where
  pub directory : Before (256 * free_unit row) row.asked.directory
  pub text : Before (256 * free_unit row) row.asked.text
  pub short : row.asked.text.len ≤ 255
  pub stage : StagePlaced (256 * free_unit row) row.asked.round row.stage

-- an open call of a round that has begun; a text that starts a round comes after the one that it comes from
abbrev pub StageBegun : ℕ → ℕ → Stage → Type 0
StageBegun rounds n stage.Require = n ≤ rounds
StageBegun rounds n (stage.Marked f) = n < rounds
StageBegun rounds n (stage.Labels p) = n < rounds
StageBegun rounds n (stage.Candidates p fully walk) = n < rounds
StageBegun rounds n (stage.Tested p) = n < rounds

abbrev pub Begun : ℕ → OpenCall → Type 0
Begun rounds row = StageBegun rounds row.asked.round row.stage

-- a fault whose text is short, and an answer whose text is
abbrev pub ShortFault : Told → Type 0
ShortFault (told.Empty p) = p.len ≤ 255
ShortFault (told.NotFound p) = p.len ≤ 255
ShortFault (told.Unmatched p i) = p.len ≤ 255
ShortFault (told.Ignored p) = p.len ≤ 255
ShortFault told.Recursion = Unit {0}
ShortFault told.TooLong = Unit {0}
ShortFault (told.BrokenManifest p) = p.len ≤ 255
ShortFault (told.BrokenLookup p) = p.len ≤ 255

abbrev pub Short : Result (Option Place) Told → Type 0
Short (Ok (Some p)) = p.len ≤ 255
Short (Ok None) = Unit {0}
Short (Err f) = ShortFault f
