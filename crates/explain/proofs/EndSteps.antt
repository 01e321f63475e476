-- What an answer tells with its buffers is the end that is defined. Assumes nothing.
use Rattle.std.proofs.Common.{◌≡◌, ℕ, List, length, drop, Some, None, Ok, Err, Option, Result, refl, ap, ◌∙◌}
use Rattle.std.proofs.Math.Seq.{take-append_seam}
use Rattle.texts.specs.Texts.{Text}
use Rattle.tree.specs.Acceptances.{Allowed}
use Rattle.tree.specs.Meanings.{Meaning}
use Rattle.settings.specs.Tables.{Tables}
use Rattle.lookup.specs.declared.resolution.Found.{Found}
use Rattle.lookup.specs.declared.resolution.Refused.{Refused}
use Rattle.lookup.specs.declared.resolution.Resolution.{Resolution}
use Rattle.lookup.specs.Faults.{texts}
use Rattle.lookup.specs.Outcomes.{Outcome, Room, answer, buffers_after, path, refused, room_of, written}
use Rattle.lookup.specs.Resolutions.{length_of, resolution_of}
use Rattle.lookup.proofs.Answering.{same_number}
use Rattle.resolver.specs.Runs.{Buffers, paths_in}
use Rattle.sheets.specs.Rows.{lent}
use Rattle.explain.specs.Ends.{end_of, front_text, in_path, in_refusal, told_end}
use Rattle.explain.specs.Telling.{paths_of}

-- a text that was written to a buffer stands at its front
front_written : (t : Option Text) (b : List ℕ) → front_text (length_of t) (written t b) ≡ t
front_written None b = refl
front_written (Some t) b = ap Some (take-append_seam t (drop (length t) b))

told_as_defined : (o : Outcome) (b : Buffers) → told_end (resolution_of o).outcome (resolution_of o).rounds (buffers_after o b) ≡ end_of o
told_as_defined (path p q f n) b =
    λ i. in_path (take-append_seam p (drop (length p) b.0) i) (front_written q b.1.0 i) (front_written f b.1.1 i) n
told_as_defined (refused f n) b =
    λ i. in_refusal (same_number f i) (front_written (texts f).0 b.0 i) (front_written (texts f).1 b.1.0 i) n

-- as much is lent as a lookup asks for
pub room_is_lent : {Row : Type 0} (area : List ℕ) (rows : List Row) (first second third : List ℕ)
    → length area ≡ 131072 → length rows ≡ 1024 → length first ≡ 255 → length second ≡ 255 → length third ≡ 255 → room_of area rows first second third ≡ lent
room_is_lent area rows first second third a r f s t = λ i. record { area = a i; rows = r i; first = f i; second = s i; third = t i }

pub ends_as_defined : (m : Meaning) (allowed : Allowed) (t : Tables) (room : Room) (dir r : Text) (before after : Buffers) (a : Resolution)
    → room ≡ lent → a ≡ resolution_of (answer m allowed t room dir r) → after ≡ buffers_after (answer m allowed t room dir r) before
    → told_end a.outcome a.rounds after ≡ end_of (answer m allowed t lent dir r)
ends_as_defined m allowed t room dir r before after a as_lent answered kept =
    (λ i. told_end (answered i).outcome (answered i).rounds (kept i))
    ∙ told_as_defined (answer m allowed t room dir r) before
    ∙ ap (λ (x : Room). end_of (answer m allowed t x dir r)) as_lent

-- an end hands out as many paths as its answer
pub counted : (o : Result Found Refused) (rounds : ℕ) (b : Buffers) → paths_in o ≡ paths_of (told_end o rounds b)
counted (Ok f) rounds b = refl
counted (Err e) rounds b = refl
