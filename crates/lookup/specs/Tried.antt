-- The next candidate, with its text in the work text. Assumes nothing.
use Rattle.std.specs.Prelude.{◌≡◌, ℕ, ◌*◌, ◌≤◌, List, [], ◌∷◌, Some, None, Option, Ok, Err, Result}
use Rattle.texts.specs.declared.place.Place.{Place}
use Rattle.texts.specs.Texts.{Text}
use Rattle.texts.specs.Parts.{text_at}
use Rattle.tree.specs.Acceptances.{Allowed}
use Rattle.tree.specs.Meanings.{Meaning}
use Rattle.settings.specs.Tables.{Alias, Tables}
use Rattle.candidates.specs.Candidates.{Candidate, try}
use Rattle.lookup.specs.declared.calls.Fault.{Fault as Told}
use Rattle.lookup.specs.Lookups.{Context, Ended, failed, tests}
use Rattle.lookup.specs.Opened.{ShortFault, fault_of}

-- candidates that end in a fault at once
abbrev pub StopsTrying : List ℕ → List Candidate → Told → Type 0
StopsTrying w before f =
    (labels : List Alias) (m : Meaning) (allowed : Allowed) (t : Tables) (again : Text → Text → Context → Ended) (c : Context)
    → tests m allowed t again before c ≡ failed (fault_of w labels f) c

-- the next candidate in its unit, if one is left, or the fault that stands in its place
abbrev pub NextTried : List ℕ → ℕ → List Candidate → Option (Result Place Told) → List Candidate → Type 0
NextTried w unit before None after = before ≡ []
NextTried w unit before (Some (Ok p)) after = (before ≡ try (text_at w p) ∷ after) × (p.start ≡ 256 * unit) × (p.len ≤ 255)
NextTried w unit before (Some (Err f)) after = StopsTrying w before f × ShortFault f
