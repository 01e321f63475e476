-- What the labels make of a request, as a list of attempts worked out in advance. Assumes nothing.
use Rattle.std.specs.Prelude.{Bool, true, false, cond, List, [], ◌∷◌, Some, None, Option}
use Rattle.texts.specs.Texts.{Text}
use Rattle.paths.specs.Joins.{join, joins}
use Rattle.tree.specs.Meanings.{Meaning}
use Rattle.settings.specs.Tables.{Alias, Value, ignore, to}
use Rattle.alias.specs.Forms.{key, touches}
use Rattle.alias.specs.Rewrites.{Rewritten, as_written, made, rewritten, skipped, too_long}

-- one attempt: another request, or an end: ignored with this path (24), no value found with request and label (23), a text past 255 bytes (28)
pub data Attempt : Type 0 where
  again : Text → Attempt
  ignored : Text → Attempt
  unmatched : Text → Text → Attempt
  overlong : Attempt

-- an attempt that ends the search
abbrev pub last : Attempt → Bool
last (again t) = false
last (ignored p) = true
last (unmatched r l) = true
last overlong = true

-- a label that ignores: its path is the label without its final `$`, joined to the directory
abbrev pub ignoring : Text → Text → Attempt
ignoring dir l = cond (joins dir (key l)) (ignored (join dir (key l))) overlong

-- a value that rewrites is an attempt; one that is skipped is none
abbrev pub attempt_of : Text → Rewritten → Option Attempt
attempt_of v skipped = None
attempt_of v as_written = Some (again v)
attempt_of v (made t) = Some (again t)
attempt_of v too_long = Some overlong

-- an attempt with those behind it, which an end has none of; where there is no attempt, those that follow then
abbrev pub onward : Option Attempt → List Attempt → List Attempt → List Attempt
onward None passed tried = passed
onward (Some a) passed tried = a ∷ cond (last a) [] tried

module _ (m : Meaning) (dir r : Text) where
  -- what one value of a label makes of the request
  abbrev pub value_attempt : Text → Value → Option Attempt
  value_attempt l ignore = Some (ignoring dir l)
  value_attempt l (to v) = attempt_of v (rewritten m l v r)

  -- the values of a label that touches the request, in turn; where one was tried, no later label follows
  abbrev pub value_attempts : Text → List Value → Bool → List Attempt → List Attempt
  value_attempts l [] tried later = cond tried (unmatched r (key l) ∷ []) later
  value_attempts l (v ∷ vs) tried later = onward (value_attempt l v) (value_attempts l vs tried later) (value_attempts l vs true later)

  -- the labels, in the order written
  unfoldable pub attempts : List Alias → List Attempt
  attempts [] = []
  attempts (a ∷ more) = cond (touches a.label r) (value_attempts a.label a.values false (attempts more)) (attempts more)
