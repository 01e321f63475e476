-- What a call answers: the end of its lookup if it is not refused before, and the number of a fault. Assumes nothing.
use Rattle.std.proofs.Common.{◌≡◌, None, Option, refl, sym, ap, ◌∙◌}
use Rattle.texts.specs.Texts.{Text}
use Rattle.tree.specs.Acceptances.{Allowed}
use Rattle.tree.specs.Meanings.{Meaning}
use Rattle.settings.specs.Tables.{Tables}
use Rattle.lookup.specs.Faults.{Fault, bad_directory, bad_request, broken_lookup, broken_manifest, empty_request, ignored, long_text, no_memory, not_found, number, recursion, unmatched}
use Rattle.lookup.specs.Lookups.{Ended, require}
use Rattle.lookup.specs.Outcomes.{Outcome, Room, answer, fresh, lookup, outcome_of, path, refusal, refused, rounds_of, unless_refused}
use Rattle.lookup.specs.Resolutions.{error_number, error_of, resolution_of}

-- a call that is not refused answers what its lookup ends in
pub answers : (m : Meaning) (allowed : Allowed) (t : Tables) (room : Room) (dir r : Text) (e : Ended) → refusal room dir r ≡ None → e ≡ require m allowed t 64 64 dir r (fresh t) → outcome_of e ≡ answer m allowed t room dir r
unfolding lookup
answers m allowed t room dir r e none ends = ap outcome_of ends ∙ ap (λ (f : Option Fault). unless_refused f (lookup m allowed t dir r)) (sym none)

-- it runs the rounds of its outcome
pub rounds_said : (o : Outcome) → (resolution_of o).rounds ≡ rounds_of o
rounds_said (path p q f n) = refl
rounds_said (refused f n) = refl

-- the error of a fault has its number
pub same_number : (f : Fault) → error_number (error_of f) ≡ number f
same_number no_memory = refl
same_number bad_directory = refl
same_number bad_request = refl
same_number (empty_request t) = refl
same_number (not_found t) = refl
same_number (unmatched r l) = refl
same_number (ignored p) = refl
same_number recursion = refl
same_number long_text = refl
same_number (broken_manifest p) = refl
same_number (broken_lookup t) = refl
