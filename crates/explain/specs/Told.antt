-- The sentence on a request that is read: how it is read, which way it goes, what it looks for and what the host says. Assumes nothing.
use Rattle.std.specs.Prelude.{◌∷◌, ℕ, [], ◌++◌, Some, None, Option, codes, decimal}
use Rattle.texts.specs.Texts.{Text}
use Rattle.tree.specs.declared.answers.Kind.{Kind}
use Rattle.tree.specs.declared.answers.Kind.TheVariants.{Nothing, File, Directory}
use Rattle.tree.specs.Meanings.{Finding, faulty, found, missing}
use Rattle.specifier.specs.declared.branch.Branch.{Branch}
use Rattle.specifier.specs.declared.branch.Branch.TheVariants.{Absolute, Relative, Hash, Package}
use Rattle.explain.specs.Answers.{Heard, kind_is, no_path, found_by}
use Rattle.explain.specs.Legible.{legible, phrase}
use Rattle.explain.specs.Readings.{Meaning}

-- a query or fragment with its name, or that there is none
abbrev pub piece_words : Text → Option Text → Text
piece_words name None = codes ", no " ++ name
piece_words name (Some piece) = phrase (codes ", " ∷ name ∷ codes " " ∷ legible piece ∷ [])

-- the path that is looked for
abbrev pub looking_words : Text → Option Text → Text
looking_words way None = phrase (codes "; it is " ∷ way ∷ codes " and looks for no path" ∷ [])
looking_words way (Some path) = phrase (codes "; it is " ∷ way ∷ codes " and looks for " ∷ legible path ∷ [])

-- the way, and the path that is looked for
abbrev pub way_words : Branch → Option Text → Text
way_words Absolute sought = looking_words (codes "absolute") sought
way_words Relative sought = looking_words (codes "relative") sought
way_words Hash sought = codes "; it goes to hash lookup"
way_words Package sought = codes "; it goes to package lookup"

-- what stands at a path
abbrev pub kind_words : Kind → Text
kind_words Nothing = codes "which is nothing"
kind_words File = codes "which is a file"
kind_words Directory = codes "which is a directory"

-- where a lookup leads
abbrev pub finding_words : Finding → Text
finding_words (found path) = codes ", which finds " ++ legible path
finding_words missing = codes ", which finds nothing"
finding_words faulty = codes ", which is broken"

-- what the host says
abbrev pub heard_words : Heard → Text
heard_words (kind_is k) = codes ", " ++ kind_words k
heard_words no_path = []
heard_words (found_by f) = finding_words f

-- how the request is read
abbrev pub reading_words : ℕ → Text → Text → Meaning → Text
reading_words line directory request m =
    phrase (codes "Line " ∷ decimal line ∷ codes ": from " ∷ legible directory ∷ codes ", " ∷ legible request ∷ codes " is read as path " ∷ legible m.path ∷ [])

-- the whole sentence
abbrev pub told : ℕ → Text → Text → Meaning → Heard → Text
told line directory request m heard =
    phrase (reading_words line directory request m ∷ piece_words (codes "query") m.query ∷ piece_words (codes "fragment") m.fragment ∷ way_words m.way m.sought ∷ heard_words heard ∷ [])
