-- How one text is joined to another, and normalizing. Assumes nothing.
use Rattle.std.specs.Prelude.{ℕ, max, Bool, true, false, cond, not, ◌&&◌, ◌||◌, List, [], ◌∷◌, ◌++◌, length, take, Some, None, Option, nat_le}
use Rattle.std.specs.Str.{bytes_eq}
use Rattle.paths.specs.declared.path_util.Component.{Component}
use Rattle.paths.specs.declared.path_util.Component.TheVariants.{CurDir, ParentDir, Normal}
use Rattle.texts.specs.Texts.{Text, SLASH, empty, begins, ends, fits}
use Rattle.texts.specs.Parts.{root, here, above, Mark, marks, parts}

-- where the last part but one ends
abbrev pub last_but_one : Mark → List Mark → ℕ
last_but_one m [] = 0
last_but_one m (n ∷ []) = m.1
last_but_one m (n ∷ o ∷ ms) = last_but_one n (o ∷ ms)

-- how many bytes stay of a text of at most one part: all if the root leads, else none
abbrev pub root_length : Text → ℕ
root_length s = cond (begins SLASH s) (length s) 0

-- how many bytes stay of a text with these parts: all behind the last part but one go
abbrev pub cut_length : Text → List Mark → ℕ
cut_length s [] = root_length s
cut_length s (m ∷ []) = root_length s
cut_length s (m ∷ n ∷ ms) = last_but_one m (n ∷ ms)

-- a text cut by `..`: behind its last part but one or to nothing, never the root
unfoldable pub cut : Text → Text
cut s = take (cut_length s (marks s)) s

-- what stands between a text and a name behind it: a slash, unless the text is empty or ends in one
abbrev pub separator : Text → Text
separator s = cond (empty s || ends SLASH s) [] root

-- a text ready for a name
abbrev pub slashed : Text → Text
slashed s = s ++ separator s

-- what a part is: `.`, `..` or a name
abbrev pub component : Text → Component
component p = cond (bytes_eq p here) CurDir (cond (bytes_eq p above) ParentDir Normal)

-- a text with one more part: `.` does nothing, `..` cuts, a name is added
abbrev pub grown_by : Component → Text → Text → Text
grown_by CurDir a p = a
grown_by ParentDir a p = cut a
grown_by Normal a p = slashed a ++ p

unfoldable pub grown : Text → Text → Text
grown a p = grown_by (component p) a p

-- a text with more parts in turn
unfoldable pub walked : Text → List Text → Text
walked a [] = a
walked a (p ∷ ps) = walked (grown a p) ps

-- the length of the longest text on that way
unfoldable pub peak : Text → List Text → ℕ
peak a [] = length a
peak a (p ∷ ps) = max (length a) (peak (grown a p) ps)

-- a text with more parts in turn, or none where a text on the way has more than 255 bytes
abbrev pub walked_within : Text → List Text → Option Text
walked_within a ps = cond (nat_le (peak a ps) 255) (Some (walked a ps)) None

-- a text of these parts takes the place of any text that it is joined to: it has no part, or the root leads
abbrev pub replaces : List Text → Bool
replaces [] = true
replaces (p ∷ ps) = bytes_eq p root

-- a text that is added to what it is joined to: it is not empty and no slash leads
abbrev pub relative : Text → Bool
relative b = not (empty b) && not (begins SLASH b)

-- one of the parts is `..`
abbrev pub climbs : List Text → Bool
climbs [] = false
climbs (p ∷ ps) = bytes_eq p above || climbs ps

-- b joined to a
unfoldable pub join : Text → Text → Text
join a b = cond (replaces (parts b)) b (walked a (parts b))

-- no text on the way to b joined to a has more than 255 bytes
unfoldable pub joins : Text → Text → Bool
joins a b = cond (replaces (parts b)) (fits b) (nat_le (peak a (parts b)) 255)

-- b joined to a, or none where a text on the way is too long
abbrev pub joined : Text → Text → Option Text
joined a b = cond (joins a b) (Some (join a b)) None

-- parts joined to nothing, or to `/` after a leading slash
abbrev pub normal : List Text → Text
normal [] = []
normal (p ∷ ps) = cond (bytes_eq p root) (walked root ps) (walked [] (p ∷ ps))

unfoldable pub normalize : Text → Text
normalize s = normal (parts s)

-- a text normalized; none where it has more than 255 bytes
abbrev pub normalized : Text → Option Text
normalized s = cond (fits s) (Some (normalize s)) None
