-- The parts of a text, paths that are the same, and clean paths. Assumes nothing.
use Rattle.std.specs.Prelude.{ℕ, ◌+◌, ◌-◌, Bool, true, false, cond, not, ◌&&◌, List, [], ◌∷◌, ◌++◌, map, length, take, drop, ◌==◌}
use Rattle.std.specs.List.{list_all}
use Rattle.std.specs.Str.{bytes_eq}
use Rattle.texts.specs.declared.place.Place.{Place}
use Rattle.texts.specs.Texts.{Text, DOT, SLASH, empty}

-- the three parts that are no names: the leading slash, `.` and `..`
abbrev pub root : Text
root = SLASH ∷ []

abbrev pub here : Text
here = DOT ∷ []

abbrev pub above : Text
above = DOT ∷ DOT ∷ []

-- one byte more in front of the first piece
abbrev pub before : ℕ → List Text → List Text
before b [] = (b ∷ []) ∷ []
before b (p ∷ ps) = (b ∷ p) ∷ ps

-- the pieces of a text between its slashes, the empty ones too
unfoldable pub pieces : Text → List Text
pieces [] = [] ∷ []
pieces (b ∷ s) = cond (b == SLASH) ([] ∷ pieces s) (before b (pieces s))

-- a piece behind a slash is a part unless it is empty or `.`
abbrev pub solid : Text → Bool
solid [] = false
solid (b ∷ []) = not (b == DOT)
solid (b ∷ c ∷ p) = true

-- a part, and the place where it ends
abbrev pub Mark : Type 0
Mark = Text × ℕ

-- pieces with their ends, where the first begins at n
abbrev pub placed : ℕ → List Text → List Mark
placed n [] = []
placed n (p ∷ ps) = (p, n + length p) ∷ placed (n + length p + 1) ps

-- the pieces behind a slash that are parts
abbrev pub inner : List Mark → List Mark
inner [] = []
inner (m ∷ ms) = cond (solid m.0) (m ∷ inner ms) (inner ms)

-- the first piece: an empty one with a slash behind it is the root; any other is a part, `.` too
abbrev pub headed : List Mark → List Mark
headed [] = []
headed (m ∷ []) = cond (empty m.0) [] (m ∷ [])
headed (m ∷ n ∷ ms) = cond (empty m.0) ((root, 1) ∷ inner (n ∷ ms)) (m ∷ inner (n ∷ ms))

-- the parts of a text with their ends
unfoldable pub marks : Text → List Mark
marks s = headed (placed 0 (pieces s))

abbrev pub texts_of : List Mark → List Text
texts_of ms = map (λ m. m.0) ms

-- the parts of a text: the pieces between slashes without empty ones and `.`; a leading slash is a part, and a leading `.` with no slash before it is kept
unfoldable pub parts : Text → List Text
parts s = texts_of (marks s)

-- where a part stands
abbrev pub place_of : Mark → Place
place_of m = record { start = m.1 - length m.0; len = length m.0 }

-- where the parts of a text stand
abbrev pub places : Text → List Place
places s = map place_of (marks s)

-- what stands at a place
abbrev pub text_at : Text → Place → Text
text_at s p = take p.len (drop p.start s)

-- two lists of parts are the same; paths are the same if their parts are
abbrev pub same_parts : List Text → List Text → Bool
same_parts [] [] = true
same_parts [] (q ∷ qs) = false
same_parts (p ∷ ps) [] = false
same_parts (p ∷ ps) (q ∷ qs) = bytes_eq p q && same_parts ps qs

-- every text of the list passes the test
abbrev pub every : (Text → Bool) → List Text → Bool
every f ps = list_all f ps

-- a piece that a clean path may have: not empty, not `.`, not `..`
abbrev pub named : Text → Bool
named p = solid p && not (bytes_eq p above)

abbrev pub clean_pieces : List Text → Bool
clean_pieces [] = false
clean_pieces (p ∷ []) = false
clean_pieces (p ∷ q ∷ ps) = empty p && every named (q ∷ ps)

-- a clean path begins with a slash, has no empty, `.` or `..` piece, and ends in a slash only if it is `/`
unfoldable pub clean : Text → Bool
clean s = cond (bytes_eq s root) true (clean_pieces (pieces s))

-- names with a slash between each and the next
abbrev pub slash_between : List Text → Text
slash_between [] = []
slash_between (p ∷ []) = p
slash_between (p ∷ q ∷ ps) = p ++ (SLASH ∷ slash_between (q ∷ ps))

-- parts written with slashes: the root is its own slash
abbrev pub written : List Text → Text
written [] = []
written (p ∷ ps) = cond (bytes_eq p root) (SLASH ∷ slash_between ps) (slash_between (p ∷ ps))
