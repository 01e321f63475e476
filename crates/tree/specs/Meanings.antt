-- What a host means: its file tree and its answers, as one value. Assumes nothing.
use Rattle.std.specs.Prelude.{◌≡◌, ℕ, ◌≤◌, Bool, true, false, cond, List, [], length, Some, None, Option, Ok, Err, Result, nat_le}
use Rattle.std.specs.List.{AllByRecursion}
use Rattle.texts.specs.Texts.{Text, SLASH, begins}
use Rattle.tree.specs.declared.answers.Kind.{Kind}
use Rattle.tree.specs.declared.answers.Kind.TheVariants.{Nothing, File, Directory}
use Rattle.tree.specs.declared.answers.Broken.{Broken}
use Rattle.tree.specs.declared.answers.Manifest.{Manifest}
use Rattle.tree.specs.declared.answers.Way.{Way}

-- a path, as a list of parts
abbrev pub Path : Type 0
Path = List Text

-- the manifest at a path: none, a broken one, or main texts in their order
pub data Noted : Type 0 where
  unnoted : Noted
  unreadable : Noted
  noted : List Text → Noted

-- what a lookup finds: a path's bytes, nothing, or a fault
pub data Finding : Type 0 where
  found : Text → Finding
  missing : Finding
  faulty : Finding

-- the file tree, and the answers to the three other questions
pub record Meaning : Type 0 where
  pub kind : Path → Kind
  pub manifest : Path → Noted
  pub lookup : Way → Text → Path → Finding

-- what a host can be asked
pub data Question : Type 0 where
  kind_of : Text → Question
  manifest_of : Text → Question
  lookup_of : Way → Text → Text → Question
  forgetting : Question

-- a path is a file
abbrev pub is_file : Kind → Bool
is_file Nothing = false
is_file File = true
is_file Directory = false

-- the answer to the manifest question
abbrev pub counted : Noted → Result (Option Manifest) Broken
counted unnoted = Ok None
counted unreadable = Err (record {})
counted (noted ts) = Ok (Some (record { mains = length ts }))

-- the main texts of a manifest
abbrev pub mains : Noted → List Text
mains unnoted = []
mains unreadable = []
mains (noted ts) = ts

-- the answer to a lookup with a buffer of n bytes: a path that is longer is missing
abbrev pub answered : Finding → ℕ → Result (Option ℕ) Broken
answered (found p) n = Ok (cond (nat_le (length p) n) (Some (length p)) None)
answered missing n = Ok None
answered faulty n = Err (record {})

-- the path that was found
abbrev pub path_found : Finding → Option Text
path_found (found p) = Some p
path_found missing = None
path_found faulty = None

-- a found path begins with a slash and has at most 255 bytes
abbrev pub FoundWell : Finding → Type 0
FoundWell (found p) = (begins SLASH p ≡ true) × (length p ≤ 255)
FoundWell missing = Unit {0}
FoundWell faulty = Unit {0}

-- what every meaning keeps: the empty list is nothing, a manifest has at most 255 main texts of at most 32 bytes, a found path begins with a slash and has at most 255 bytes
pub record Proper (m : Meaning) : Type 0 where
  pub nowhere : m.kind [] ≡ Nothing
  pub few_mains : (p : Path) → length (mains (m.manifest p)) ≤ 255
  pub short_mains : (p : Path) → AllByRecursion (λ t. length t ≤ 32) (mains (m.manifest p))
  pub found_well : (w : Way) (request : Text) (dir : Path) → FoundWell (m.lookup w request dir)
