-- The laws of labels, in the words of those who write them. Assumes nothing.
use Rattle.std.specs.Prelude.{◌≡◌, ◌⊎◌, ◌↔◌, Bool, true, false, not, ◌&&◌, List, ◌∷◌, ◌++◌, Some}
use Rattle.texts.specs.Texts.{Text, ends, has}
use Rattle.texts.specs.Parts.{clean, parts}
use Rattle.paths.specs.Joins.{climbs}
use Rattle.tree.specs.Meanings.{Meaning}
use Rattle.settings.specs.Tables.{Alias}
use Rattle.alias.specs.Answers.{new_request}
use Rattle.alias.specs.Attempts.{attempts}
use Rattle.alias.specs.Forms.{DOLLAR, STAR, goes_on, key, touches}
use Rattle.alias.specs.Rewrites.{rewritten, trimmed}

-- a label with neither a final `$` nor a `*`
abbrev pub is_plain : Text → Bool
is_plain l = not (ends DOLLAR l) && not (has STAR l)

-- a request is the label itself, or goes on behind it with a slash or a backslash
abbrev pub Continues : Text → Text → Type 0
Continues l r = (r ≡ l) ⊎ ((tail : Text) × ((r ≡ l ++ tail) × (goes_on tail ≡ true)))

-- a plain label touches a request exactly if the request is the label or continues it; what merely begins with the label is not touched
abbrev pub PlainTouchesWhatItContinues : Text → Text → Type 0
PlainTouchesWhatItContinues l r = is_plain l ≡ true → (touches l r ≡ true) ↔ Continues l r

-- a label with a final `$` touches the request that it is without the `$`, and no other
abbrev pub ExactTouchesItself : Text → Text → Type 0
ExactTouchesItself l r = ends DOLLAR l ≡ true → (touches l r ≡ true) ↔ (r ≡ key l)

-- a path lies below another: its parts begin with that one's parts
abbrev pub LiesBelow : Text → Text → Type 0
LiesBelow v t = (rest : List Text) × (parts t ≡ parts v ++ rest)

-- under a plain label with a clean value, what is made of a request lies below the value, unless the tail of the request climbs with `..`
abbrev pub LiesBelowItsValue : Meaning → Text → Text → Text → Type 0
LiesBelowItsValue m l v r =
    is_plain l ≡ true → clean v ≡ true → (tail : Text) → r ≡ l ++ tail → climbs (parts (trimmed tail)) ≡ false → (t : Text) → new_request v (rewritten m l v r) ≡ Some t → LiesBelow v t

-- a label that does not touch a request may stand anywhere in the table: what the other labels make of the request is the same
abbrev pub UntouchingLabelChangesNothing : Meaning → Text → Text → Type 0
UntouchingLabelChangesNothing m dir r =
    (before behind : List Alias) (a : Alias) → touches a.label r ≡ false → attempts m dir r (before ++ a ∷ behind) ≡ attempts m dir r (before ++ behind)
