-- The laws of joining, in words of paths. Assumes nothing.
use Rattle.std.specs.Prelude.{◌≡◌, ◌+◌, ◌≤◌, true, false, length, take}
use Rattle.texts.specs.Texts.{Text, SLASH, begins}
use Rattle.texts.specs.Parts.{clean, parts}
use Rattle.paths.specs.Joins.{climbs, join, joins, relative}

-- a relative text joined to a clean directory gives a clean path, which begins with a slash: it never climbs above the root
abbrev pub CleanStaysClean : Text → Text → Type 0
CleanStaysClean dir more = clean dir ≡ true → relative more ≡ true → (clean (join dir more) ≡ true) × (begins SLASH (join dir more) ≡ true)

-- a relative text without `..` keeps the text that it is joined to as a beginning
abbrev pub DirectoryStaysInFront : Text → Text → Type 0
DirectoryStaysInFront dir more = relative more ≡ true → climbs (parts more) ≡ false → take (length dir) (join dir more) ≡ dir

-- the joined text has at most one byte more than both, so short texts are never refused
abbrev pub ShortTextsJoin : Text → Text → Type 0
ShortTextsJoin dir more = (length (join dir more) ≤ length dir + length more + 1) × (length dir + length more + 1 ≤ 255 → joins dir more ≡ true)
