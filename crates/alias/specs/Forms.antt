-- The forms of labels, and which requests a label touches. Assumes nothing.
use Rattle.std.specs.List.{starts_with}
use Rattle.std.specs.Prelude.{nat_eq, ℕ, ◌+◌, ◌-◌, Bool, true, false, cond, not, ◌&&◌, ◌||◌, [], ◌∷◌, length, take, drop, Some, None, Option, ◌==◌}
use Rattle.std.specs.Str.{bytes_eq}
use Rattle.texts.specs.Texts.{Text, SLASH, begins, empty, ends, has, until}

abbrev pub DOLLAR : ℕ
DOLLAR = 36

abbrev pub STAR : ℕ
STAR = 42

abbrev pub BACKSLASH : ℕ
BACKSLASH = 92

-- a label without its final `$`
abbrev pub key : Text → Text
key l = cond (ends DOLLAR l) (take (length l - 1) l) l

-- what stands before the first `*` of a text, and behind it
abbrev pub before_star : Text → Text
before_star t = take (until STAR t) t

abbrev pub behind_star : Text → Text
behind_star t = drop (until STAR t + 1) t

-- a label's form: exact, a wildcard with prefix and suffix, or plain
pub data Form : Type 0 where
  exact : Text → Form
  wildcard : Text → Text → Form
  plain : Text → Form

-- a final `$` makes a label exact; otherwise the first `*` splits it; otherwise it is plain
unfoldable pub form : Text → Form
form l = cond (ends DOLLAR l) (exact (key l)) (cond (has STAR l) (wildcard (before_star l) (behind_star l)) (plain l))

-- what is left of a text behind a beginning; none if it begins otherwise
abbrev pub behind : Text → Text → Option Text
behind beginning s = cond (starts_with nat_eq s beginning) (Some (drop (length beginning) s)) None

-- a text that goes on as a path does: with a slash or a backslash
abbrev pub goes_on : Text → Bool
goes_on [] = false
goes_on (b ∷ s) = b == SLASH || b == BACKSLASH

-- what is left behind a plain label is nothing, or goes on as a path does
abbrev pub ends_or_goes_on : Option Text → Bool
ends_or_goes_on None = false
ends_or_goes_on (Some tail) = empty tail || goes_on tail

-- a request has the first byte of a prefix; an empty prefix asks for nothing
abbrev pub first_byte_fits : Text → Text → Bool
first_byte_fits [] r = true
first_byte_fits (b ∷ prefix) r = begins b r

-- the first byte alone tells a label apart from a request: it is neither `*` nor `$`, and the request begins otherwise
abbrev pub begins_otherwise : Text → Text → Bool
begins_otherwise [] r = false
begins_otherwise (b ∷ l) r = not (b == STAR) && (not (b == DOLLAR) && not (begins b r))

-- a label of this form touches a request: an exact one itself, a wildcard what has its prefix's first byte, a plain one itself and what goes on behind it
abbrev pub form_touches : Form → Text → Bool
form_touches (exact k) r = bytes_eq k r
form_touches (wildcard prefix suffix) r = first_byte_fits prefix r
form_touches (plain k) r = ends_or_goes_on (behind k r)

-- a label touches a request
unfoldable pub touches : Text → Text → Bool
touches l r = form_touches (form l) r
