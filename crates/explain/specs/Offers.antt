-- What becomes of the candidates of a path. Assumes nothing.
use Rattle.std.specs.Prelude.{Bool, true, false, cond, not, ◌&&◌, List, [], ◌∷◌, ◌++◌, codes, Ok, Err, Result}
use Rattle.lines.specs.Sheets.{LINE_END}
use Rattle.texts.specs.Held.{bytes_of}
use Rattle.texts.specs.Parts.{parts}
use Rattle.texts.specs.Texts.{Text}
use Rattle.tree.specs.declared.answers.Kind.{Kind}
use Rattle.tree.specs.declared.answers.Kind.TheVariants as kind
use Rattle.tree.specs.Acceptances.{Allowed, unrestricted}
use Rattle.tree.specs.Meanings.{Meaning}
use Rattle.candidates.specs.Candidates.{Candidate, broken_at, overlong, try}
use Rattle.explain.specs.Legible.{legible, phrase}
use Rattle.explain.specs.declared.offer.Offer.{Offer}
use Rattle.candidates.specs.declared.forming.Fault.{Fault}
use Rattle.candidates.specs.declared.forming.Fault.TheVariants.{BrokenManifest, TooLong}
use Rattle.explain.specs.declared.offer.Verdict.{Verdict}
use Rattle.explain.specs.declared.offer.Verdict.TheVariants.{Nothing, Directory, Forbidden, Restricted, Acceptable}

-- a file is refused by the policy first, then by a restriction
abbrev pub file_verdict : Bool → Bool → Verdict
file_verdict allowed free = cond allowed (cond free Acceptable Restricted) Forbidden

abbrev pub by_kind : Kind → Bool → Bool → Verdict
by_kind kind.Nothing allowed free = Nothing
by_kind kind.Directory allowed free = Directory
by_kind kind.File allowed free = file_verdict allowed free

module _ (m : Meaning) (allowed : Allowed) (restrictions : List Text) where
  -- what becomes of a path
  abbrev pub verdict_of : Text → Verdict
  verdict_of path = by_kind (m.kind (parts path)) (allowed path) (unrestricted restrictions path)

-- the path may be handed out
abbrev pub passes : Verdict → Bool
passes Nothing = false
passes Directory = false
passes Forbidden = false
passes Restricted = false
passes Acceptable = true

-- a candidate with its verdict
pub data Judged : Type 0 where
  tried : Text → Verdict → Judged
  broken : Text → Judged
  too_long : Judged

abbrev pub judged : Meaning → Allowed → List Text → Candidate → Judged
judged m allowed restrictions (try t) = tried t (verdict_of m allowed restrictions t)
judged m allowed restrictions (broken_at p) = broken p
judged m allowed restrictions overlong = too_long

-- what an offer of a path says, or why there is none
abbrev pub shown : Text → Result Offer Fault → Judged
shown path (Ok o) = tried (bytes_of o.text) o.verdict
shown path (Err BrokenManifest) = broken path
shown path (Err TooLong) = too_long

-- what becomes of a candidate, in words
abbrev pub verdict_words : Verdict → Text
verdict_words Nothing = codes "nothing there"
verdict_words Directory = codes "a directory"
verdict_words Forbidden = codes "a file that the policy does not allow"
verdict_words Restricted = codes "a file that differs from a restriction"
verdict_words Acceptable = codes "an acceptable file"

-- the first acceptable candidate is marked
abbrev pub mark : Bool → Verdict → Text
mark first v = cond (first && passes v) (codes ", the first") []

-- the line on a candidate; whether it is the first acceptable one if it is acceptable
abbrev pub candidate_line : Bool → Judged → Text
candidate_line first (tried t v) = phrase (codes "    " ∷ legible t ∷ codes " is " ∷ verdict_words v ∷ mark first v ∷ (LINE_END ∷ []) ∷ [])
candidate_line first (broken p) = phrase (codes "    refused with 30, since the manifest of " ∷ legible p ∷ codes " is broken" ∷ (LINE_END ∷ []) ∷ [])
candidate_line first too_long = codes "    refused with 28, since a text passes 255 bytes" ++ LINE_END ∷ []

-- the candidate may be handed out
abbrev pub may_pass : Judged → Bool
may_pass (tried t v) = passes v
may_pass (broken p) = false
may_pass too_long = false

-- the lines on all candidates, in their order
abbrev pub candidate_lines : Bool → List Judged → Text
candidate_lines first [] = []
candidate_lines first (j ∷ more) = candidate_line first j ++ candidate_lines (first && not (may_pass j)) more
