-- The candidates of a path, in their order. Assumes nothing.
use Rattle.std.specs.Prelude.{Bool, true, false, cond, ◌||◌, List, [], ◌∷◌, ◌++◌}
use Rattle.std.specs.Str.{bytes_eq}
use Rattle.texts.specs.Texts.{Text, DOT, SLASH, begins, empty, ends, fits}
use Rattle.texts.specs.Parts.{here, parts}
use Rattle.paths.specs.Joins.{join, joins}
use Rattle.tree.specs.declared.answers.Kind.{Kind}
use Rattle.tree.specs.declared.answers.Kind.TheVariants.{Nothing, File, Directory}
use Rattle.tree.specs.Meanings.{Meaning, Noted, noted, unnoted, unreadable}
use Rattle.settings.specs.Tables.{Tables, enforced}

-- a text that is tested, or why nothing more is: the manifest of this path is broken (30), a text would pass 255 bytes (28)
pub data Candidate : Type 0 where
  try : Text → Candidate
  broken_at : Text → Candidate
  overlong : Candidate

-- a text as a candidate, if it fits
abbrev pub formed : Text → Candidate
formed t = cond (fits t) (try t) overlong

-- a main text as it is joined: behind `./` if it is empty or absolute
abbrev pub main_text : Text → Text
main_text m = cond (empty m || begins SLASH m) (DOT ∷ SLASH ∷ m) m

-- a request that asks for what is in a directory: it ends in a slash or is `.`; `..` does not count
abbrev pub asks_for_directory : Text → Bool
asks_for_directory r = ends SLASH r || bytes_eq r here

abbrev pub is_directory : Kind → Bool
is_directory Nothing = false
is_directory File = false
is_directory Directory = true

-- a path with each extension
abbrev pub extended : Text → List Text → List Candidate
extended p [] = []
extended p (e ∷ es) = formed (p ++ e) ∷ extended p es

-- each main file below a path, its slash always written, with all extensions in turn
abbrev pub indexed : Text → List Text → List Text → List Candidate
indexed p es [] = []
indexed p es (m ∷ ms) = extended (p ++ (SLASH ∷ m)) es ++ indexed p es ms

module _ (t : Tables) (fully : Bool) where
  -- a path as a file: itself, unless an extension is enforced, and with each extension, unless it is fully specified
  abbrev pub files : Text → List Candidate
  files p = cond (enforced t) [] (formed p ∷ []) ++ cond fully [] (extended p t.extensions)

  -- the index candidates of a path; none if it is fully specified
  abbrev pub indexes : Text → List Candidate
  indexes p = cond fully [] (indexed p t.extensions t.main_files)

  -- each main text of the manifest, joined to the path: as a file, and its index candidates; at last those of the path
  abbrev pub main_candidates : Text → List Text → List Candidate
  main_candidates p [] = indexes p
  main_candidates p (m ∷ ms) =
      cond (joins p (main_text m)) (files (join p (main_text m)) ++ (indexes (join p (main_text m)) ++ main_candidates p ms)) (overlong ∷ [])

  abbrev pub manifest_candidates : Text → Noted → List Candidate
  manifest_candidates p unnoted = indexes p
  manifest_candidates p unreadable = broken_at p ∷ []
  manifest_candidates p (noted ms) = main_candidates p ms

  -- what a path offers as a directory, if it is one
  abbrev pub directory_candidates : Meaning → Text → List Candidate
  directory_candidates m p = cond (is_directory (m.kind (parts p))) (manifest_candidates p (m.manifest (parts p))) []

  -- all candidates of a path that is looked for, of a request that asks for what is in a directory, or not
  unfoldable pub candidates : Meaning → Bool → Text → List Candidate
  candidates m inside p = cond inside [] (files p) ++ directory_candidates m p
