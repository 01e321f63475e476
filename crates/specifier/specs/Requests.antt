-- How a request is read: its path, its query and its fragment. Assumes nothing.
use Rattle.std.specs.Prelude.{ℕ, suc, ◌+◌, ◌-◌, Bool, false, cond, not, ◌&&◌, ◌||◌, [], ◌∷◌, length, take, drop, Some, None, Ok, Err, Option, Result, ◌==◌, nat_lt, slice_index_or}
use Rattle.specifier.specs.declared.request.Specifier.{Specifier}
use Rattle.specifier.specs.declared.request.SpecifierError.{SpecifierError}
use Rattle.specifier.specs.declared.request.SpecifierError.TheVariants.{Empty}
use Rattle.texts.specs.declared.place.Place.{Place}
use Rattle.texts.specs.Parts.{text_at}
use Rattle.texts.specs.Texts.{Text, NUL, HASH, DOT, SLASH, QUESTION, begins, empty, until}

-- a first `/`, `.` or `#` is passed over
abbrev pub passed : ℕ → Bool
passed b = b == SLASH || (b == DOT || b == HASH)

-- how many bytes are passed over: the scan goes from there on
abbrev pub skip : Text → ℕ
skip [] = 0
skip (b ∷ s) = cond (passed b) 1 0

-- how many bytes stand before the first `#` that is not directly after a NUL, all of them if there is none; p is the byte in front of the text
abbrev pub until_hash : ℕ → Text → ℕ
until_hash p [] = 0
until_hash p (b ∷ s) = cond (b == HASH && not (p == NUL)) 0 (suc (until_hash b s))

-- where the fragment starts: at the first such `#` of the scan, or at the request's end; a byte that is not passed over is scanned itself and is no `#`
unfoldable pub fragment_at : Text → ℕ
fragment_at s = skip s + until_hash (slice_index_or s 0 NUL) (drop (skip s) s)

-- where the query starts: at the first `?` before the fragment, or where the fragment starts
unfoldable pub query_at : Text → ℕ
query_at s = skip s + until QUESTION (drop (skip s) (take (fragment_at s) s))

-- a NUL with a `#` directly behind it is an escape
abbrev pub escapes : Text → Bool
escapes [] = false
escapes (b ∷ s) = b == NUL && begins HASH s

-- a text without the NUL of each escape
abbrev pub unescaped : Text → Text
unescaped [] = []
unescaped (b ∷ s) = cond (escapes (b ∷ s)) (unescaped s) (b ∷ unescaped s)

-- the place from a to e; none if nothing stands there
abbrev pub place_between : ℕ → ℕ → Option Place
place_between a e = cond (nat_lt a e) (Some (record { start = a; len = e - a })) None

-- where the path stands: before the query
abbrev pub path_place : Text → Place
path_place s = record { start = 0; len = query_at s }

-- where the query stands: from its `?` to the fragment
abbrev pub query_place : Text → Option Place
query_place s = place_between (query_at s) (fragment_at s)

-- where the fragment stands: from its `#` to the request's end
abbrev pub fragment_place : Text → Option Place
fragment_place s = place_between (fragment_at s) (length s)

-- what stands at a place, if there is a place
abbrev pub piece_at : Text → Option Place → Option Text
piece_at s None = None
piece_at s (Some p) = Some (text_at s p)

-- the path as it is written
abbrev pub raw_path : Text → Text
raw_path s = text_at s (path_place s)

-- the path, without its escapes
unfoldable pub path_of : Text → Text
path_of s = unescaped (raw_path s)

-- the query from its `?` on, escapes and all
unfoldable pub query_of : Text → Option Text
query_of s = piece_at s (query_place s)

-- the fragment from its `#` on
unfoldable pub fragment_of : Text → Option Text
fragment_of s = piece_at s (fragment_place s)

-- what a request is read as: a request whose path is empty is refused
unfoldable pub specifier_of : Text → Result Specifier SpecifierError
specifier_of s = cond (empty (path_of s)) (Err Empty) (Ok (record {
  path = path_place s;
  query = query_place s;
  fragment = fragment_place s;
}))

-- the number of a fault
abbrev pub number : SpecifierError → ℕ
number Empty = 21
