-- What a value of a label makes of a request that the label touches. Assumes nothing.
use Rattle.std.specs.List.{ends_with}
use Rattle.std.specs.Prelude.{nat_eq, ◌-◌, Bool, false, cond, ◌||◌, [], ◌∷◌, ◌++◌, length, take, Some, None, Option}
use Rattle.texts.specs.Texts.{Text, SLASH, begins, empty, fits, has}
use Rattle.texts.specs.Parts.{parts}
use Rattle.paths.specs.Joins.{join, joins, normalize}
use Rattle.tree.specs.Meanings.{Meaning, is_file}
use Rattle.alias.specs.Forms.{Form, STAR, before_star, behind, behind_star, exact, form, goes_on, plain, wildcard}

-- what a value makes of a request: it is skipped, the new request is the value as written or a text that is made, or that would pass 255 bytes
pub data Rewritten : Type 0 where
  skipped : Rewritten
  as_written : Rewritten
  made : Text → Rewritten
  too_long : Rewritten

-- a text that is made, if it fits
abbrev pub fitting : Text → Rewritten
fitting t = cond (fits t) (made t) too_long

-- what is left behind a value is nothing, or goes on with a slash
abbrev pub ends_or_slash : Option Text → Bool
ends_or_slash None = false
ends_or_slash (Some tail) = empty tail || begins SLASH tail

-- a request is the value already, or continues it with a slash
abbrev pub returns_to : Text → Text → Bool
returns_to v r = ends_or_slash (behind v r)

-- what is left of a text before an end; none if it ends otherwise
abbrev pub ahead : Text → Text → Option Text
ahead end s = cond (ends_with nat_eq s end) (Some (take (length s - length end) s)) None

-- the value with its first `*` replaced by the middle of the request; without a `*` it is the value
abbrev pub starred : Text → Text → Rewritten
starred v middle = cond (has STAR v) (fitting (before_star v ++ (middle ++ behind_star v))) as_written

-- the middle of a request: first the prefix is taken off, then the suffix; a value is skipped where they cannot be
abbrev pub starred_if : Text → Option Text → Rewritten
starred_if v None = skipped
starred_if v (Some middle) = starred v middle

abbrev pub by_suffix : Text → Text → Option Text → Rewritten
by_suffix v suffix None = skipped
by_suffix v suffix (Some t) = starred_if v (ahead suffix t)

-- a tail without its leading slashes and backslashes
abbrev pub trimmed : Text → Text
trimmed [] = []
trimmed (b ∷ s) = cond (goes_on (b ∷ s)) (trimmed s) (b ∷ s)

-- a text joined to a value, if it can be
abbrev pub joined_to : Text → Text → Rewritten
joined_to n t = cond (joins n t) (made (join n t)) too_long

-- the normalized value joined with a tail; without a tail it is the value as written
abbrev pub tailed_normal : Text → Text → Rewritten
tailed_normal n [] = as_written
tailed_normal n (b ∷ t) = joined_to n (b ∷ t)

-- the value of a plain label: skipped where the request goes on behind the label and the normalized value is a file
abbrev pub continued : Meaning → Text → Text → Rewritten
continued m v [] = as_written
continued m v (b ∷ t) = cond (is_file (m.kind (parts (normalize v)))) skipped (tailed_normal (normalize v) (trimmed (b ∷ t)))

abbrev pub continued_if : Meaning → Text → Option Text → Rewritten
continued_if m v None = skipped
continued_if m v (Some tail) = continued m v tail

-- by the form of the label
abbrev pub form_rewrites : Meaning → Form → Text → Text → Rewritten
form_rewrites m (exact k) v r = as_written
form_rewrites m (wildcard prefix suffix) v r = by_suffix v suffix (behind prefix r)
form_rewrites m (plain k) v r = continued_if m v (behind k r)

-- what a value of a label makes of a request that the label touches
unfoldable pub rewritten : Meaning → Text → Text → Text → Rewritten
rewritten m l v r = cond (returns_to v r) skipped (form_rewrites m (form l) v r)
