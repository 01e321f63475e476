-- The next attempt of the labels, with its text in the work text. Assumes nothing.
use Rattle.std.specs.Prelude.{◌≡◌, ℕ, ◌*◌, ◌≤◌, List, [], ◌∷◌, Some, None, Option, Ok, Err, Result}
use Rattle.texts.specs.declared.place.Place.{Place}
use Rattle.texts.specs.Texts.{Text}
use Rattle.texts.specs.Parts.{text_at}
use Rattle.tree.specs.Acceptances.{Allowed}
use Rattle.tree.specs.Meanings.{Meaning}
use Rattle.settings.specs.Tables.{Alias, Tables}
use Rattle.alias.specs.Attempts.{Attempt, again}
use Rattle.lookup.specs.declared.calls.Fault.{Fault as Told}
use Rattle.lookup.specs.Lookups.{Context, Ended, failed, tries}
use Rattle.lookup.specs.Opened.{ShortFault, fault_of}

-- attempts that end in a fault at once
abbrev pub Stops : List ℕ → List Alias → List Attempt → Told → Type 0
Stops w labels before f =
    (m : Meaning) (allowed : Allowed) (t : Tables) (again : Text → Text → Context → Ended) (dir : Text) (c : Context)
    → tries m allowed t again dir before c ≡ failed (fault_of w labels f) c

-- an attempt starts a round with a text of its unit, or ends the search
abbrev pub Attempted : List ℕ → List Alias → ℕ → List Attempt → Result Place Told → List Attempt → Type 0
Attempted w labels unit before (Ok p) after = (before ≡ again (text_at w p) ∷ after) × (p.start ≡ 256 * unit) × (p.len ≤ 255)
Attempted w labels unit before (Err f) after = Stops w labels before f × ShortFault f

-- the next attempt, if one is left
abbrev pub Next : List ℕ → List Alias → ℕ → List Attempt → Option (Result Place Told) → List Attempt → Type 0
Next w labels unit before None after = before ≡ []
Next w labels unit before (Some a) after = Attempted w labels unit before a after
