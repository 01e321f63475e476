-- Worked lookups. Assumes nothing.
use Rattle.std.specs.Prelude.{◌≡◌, ℕ, true, false, cond, List, [], ◌∷◌, ◌++◌, Some, None, Option, codes, replicate}
use Rattle.std.specs.List.{AllByRecursion}
use Rattle.texts.specs.Texts.{NUL, Text}
use Rattle.texts.specs.Parts.{parts, same_parts}
use Rattle.tree.specs.declared.answers.Kind.{Kind}
use Rattle.tree.specs.declared.answers.Kind.TheVariants.{Nothing, File, Directory}
use Rattle.tree.specs.declared.answers.Way.{Way}
use Rattle.tree.specs.declared.answers.Way.TheVariants.{Package, Hash}
use Rattle.tree.specs.Meanings.{Finding, Meaning, Noted, faulty, found, missing, noted, unnoted, unreadable}
use Rattle.settings.specs.declared.enforcement.EnforceExtension.TheVariants.{Auto}
use Rattle.settings.specs.Tables.{Alias, Tables, ignore, labelled, to}
use Rattle.lookup.specs.Faults.{Fault, bad_directory, bad_request, broken_lookup, broken_manifest, empty_request, ignored, long_text, no_memory, not_found, recursion, unmatched}
use Rattle.lookup.specs.Outcomes.{Outcome, Room, answer, area_after, buffers_after, number_of, path, refusal, refused, rows_after}
use Rattle.lookup.specs.Quiet.{QuietCall}

-- the first path that fits decides
abbrev pub listed : List (Text × Kind) → List Text → Kind
listed [] p = Nothing
listed (e ∷ es) p = cond (same_parts (parts e.0) p) e.1 (listed es p)

-- package and hash lookup find a path each
abbrev pub finds : Way → Finding
finds Package = found (codes "/package")
finds Hash = found (codes "/hash")

abbrev pub tree : List (Text × Kind) → Meaning
tree es = record { kind = listed es; manifest = λ p. unnoted; lookup = λ w r dir. finds w }

-- the same without packages
abbrev pub sparse : List (Text × Kind) → Meaning
sparse es = record { kind = listed es; manifest = λ p. unnoted; lookup = λ w r dir. missing }

-- extension `.js`, main file `index`
abbrev pub js : List Alias → List Text → Tables
js labels rs = record { aliases = labels; extensions = codes ".js" ∷ []; main_files = codes "index" ∷ []; restrictions = rs; fully_specified = false; context = false; enforcement = Auto }

abbrev pub one : Text → Text → List Alias
one l v = labelled l (to v ∷ []) ∷ []

abbrev pub room : Room
room = record { area = 131072; rows = 1024; first = 255; second = 255; third = 255 }

-- the files `/lib/a.js` and `/lib/a/index.js`, and their directories
abbrev pub library : List (Text × Kind)
library = (codes "/lib", Directory) ∷ (codes "/lib/a.js", File) ∷ (codes "/lib/a", Directory) ∷ (codes "/lib/a/index.js", File) ∷ []

abbrev pub from_lib : Tables → Text → Outcome
from_lib t r = answer (tree library) (λ p. true) t room (codes "/lib") r

-- `./a/` where the directory `/lib/a` has this manifest
abbrev pub from_manifest : Noted → Outcome
from_manifest n = answer (record { kind = listed library; manifest = λ p. n; lookup = λ w r dir. finds w }) (λ p. true) (js [] []) room (codes "/lib") (codes "./a/")

abbrev pub in_context : Tables → Tables
in_context t = record { aliases = t.aliases; extensions = t.extensions; main_files = t.main_files; restrictions = t.restrictions; fully_specified = t.fully_specified; context = true; enforcement = t.enforcement }

abbrev pub fully : Tables → Tables
fully t = record { aliases = t.aliases; extensions = t.extensions; main_files = t.main_files; restrictions = t.restrictions; fully_specified = true; context = t.context; enforcement = t.enforcement }

-- lookups, each with what it answers
abbrev pub samples : List (Outcome × Outcome)
samples =
    (from_lib (js [] []) (codes "./a"), path (codes "/lib/a.js") None None 1)
    ∷ (from_lib (js [] []) (codes "./a/"), path (codes "/lib/a/index.js") None None 1)
    ∷ (from_lib (js [] []) (codes "./a?q#f"), path (codes "/lib/a.js") (Some (codes "?q")) (Some (codes "#f")) 1)
    ∷ (from_lib (js [] []) (codes "./a#f"), path (codes "/lib/a.js") None (Some (codes "#f")) 1)
    ∷ (answer (tree ((codes "/lib/a#f.js", File) ∷ library)) (λ p. true) (js [] []) room (codes "/lib") (codes "./a#f"), path (codes "/lib/a#f.js") None None 1)
    ∷ (from_lib (js [] []) [], refused (empty_request []) 1)
    ∷ (from_lib (js [] []) (codes "?q"), refused (empty_request (codes "?q")) 1)
    ∷ (from_lib (js [] []) (codes "#a"), path (codes "/hash") None None 1)
    ∷ (from_lib (js (one (codes "ui") (codes "/lib/ui")) []) (codes "ui/b"), refused (unmatched (codes "ui/b") (codes "ui")) 2)
    ∷ (from_lib (js (one (codes "ui") (codes "/lib/ui")) []) (codes "uix"), path (codes "/package") None None 1)
    ∷ (from_lib (js (one (codes "one") (codes "two") ++ one (codes "two") (codes "one")) []) (codes "one"), refused recursion 64)
    ∷ (answer (tree ((codes "/", Directory) ∷ (codes "/index.js", File) ∷ [])) (λ p. true) (js [] []) room (codes "/") (codes "."), path (codes "//index.js") None None 1)
    ∷ (from_lib (js [] (codes "/lib" ∷ [])) (codes "./a"), refused (not_found (codes "./a")) 1)
    ∷ (answer (tree ((codes "/lib.js", File) ∷ [])) (λ p. true) (js [] []) room (codes "/lib/x") (codes ".."), path (codes "/lib.js") None None 1)
    ∷ (from_lib (js (labelled (codes "@ui*x") (ignore ∷ []) ∷ []) []) (codes "@other"), refused (ignored (codes "/lib/@ui*x")) 1)
    ∷ (from_lib (js [] []) (replicate 96 97), path (codes "/package") None None 1)
    ∷ (from_lib (js [] []) (replicate 97 97), refused bad_request 0)
    ∷ (answer (tree library) (λ p. true) (js [] []) room (codes "/lib/") (codes "./a"), refused bad_directory 0)
    ∷ (answer (tree library) (λ p. true) (js [] []) (record { area = 131071; rows = 1024; first = 255; second = 255; third = 255 }) (codes "x") (codes "./a"), refused no_memory 0)
    ∷ (from_lib (js (one (codes "ui*") (codes "./*")) []) (codes "uia?q"), path (codes "/lib/a.js") (Some (codes "?q")) None 2)
    ∷ (from_lib (js [] []) (codes "./a" ++ (NUL ∷ codes "#f?q")), refused (not_found (codes "./a#f")) 1)
    ∷ (from_lib (js (one (codes "/lib/a.js$") (codes "/lib/a/index.js")) []) (codes "./a"), path (codes "/lib/a/index.js") None None 2)
    ∷ (from_lib (js (one (codes "/lib/a.js$") (codes "x.")) []) (codes "./a"), path (codes "/package") None None 2)
    ∷ (answer (tree library) (λ p. false) (js [] []) room (codes "/lib") (codes "./a"), refused (not_found (codes "./a")) 1)
    ∷ (from_lib (in_context (js [] [])) (codes "./a"), path (codes "/lib/a") None None 1)
    ∷ (from_manifest unreadable, refused (broken_manifest (codes "/lib/a")) 1)
    ∷ (from_manifest (noted (codes "index" ∷ [])), path (codes "/lib/a/index.js") None None 1)
    ∷ (from_manifest (noted (replicate 250 97 ∷ [])), refused long_text 1)
    ∷ (answer (record { kind = listed []; manifest = λ p. unnoted; lookup = λ w r dir. faulty }) (λ p. true) (js [] []) room (codes "/lib") (codes "#a"), refused (broken_lookup (codes "#a")) 1)
    ∷ (from_lib (fully (js [] [])) (codes "./a"), refused (not_found (codes "./a")) 1)
    ∷ (from_lib (fully (js (one (codes "ui") (codes "/lib/a")) [])) (codes "ui"), path (codes "/lib/a.js") None None 2)
    ∷ (from_lib (js (labelled (codes "one") (to (codes "two") ∷ to (codes "/lib/a") ∷ []) ∷ one (codes "two") (codes "/none")) []) (codes "one"), path (codes "/lib/a.js") None None 4)
    ∷ (answer (record { kind = listed ((codes "/lib/a#f", Directory) ∷ library); manifest = λ p. noted (replicate 250 97 ∷ []); lookup = λ w r dir. finds w }) (λ p. true) (js [] []) room (codes "/lib") (codes "./a#f"), refused long_text 1)
    ∷ (answer (sparse ((codes "/b", File) ∷ [])) (λ p. true) (js (labelled (codes "a") (to (codes "x?q") ∷ to (codes "/b") ∷ []) ∷ []) []) room (codes "/lib") (codes "a"), path (codes "/b") (Some (codes "?q")) None 3)
    ∷ (answer (sparse library) (λ p. true) (fully (js (one (codes "./a#f") (codes "x")) [])) room (codes "/lib") (codes "./a#f"), path (codes "/lib/a.js") None (Some (codes "#f")) 2)
    ∷ (from_lib (js (labelled (codes "a#f$") (ignore ∷ []) ∷ []) []) (codes "a#f"), path (codes "/package") None (Some (codes "#f")) 1)
    ∷ (from_lib (js (labelled (codes "one") (to (codes "two") ∷ to (codes "/lib/a") ∷ []) ∷ labelled (codes "two") (ignore ∷ []) ∷ []) []) (codes "one"), refused (ignored (codes "/lib/two")) 2)
    ∷ []

-- each answers so
abbrev pub EachSampleHolds : Type 0
EachSampleHolds = AllByRecursion (λ s. s.0 ≡ s.1) samples

-- three buffers that hold 9s
abbrev pub nines : List ℕ × (List ℕ × List ℕ)
nines = (replicate 12 9, (replicate 4 9, replicate 3 9))

-- calls, each with the number it answers and what nines hold after it
abbrev pub calls : List (Outcome × (ℕ × (List ℕ × (List ℕ × List ℕ))))
calls =
    (from_lib (js [] []) (codes "./a?q#f"), (0, (codes "/lib/a.js" ++ replicate 3 9, (codes "?q" ++ replicate 2 9, codes "#f" ++ replicate 1 9))))
    ∷ (from_lib (js [] []) (codes "./a"), (0, (codes "/lib/a.js" ++ replicate 3 9, nines.1)))
    ∷ (from_lib (js (one (codes "ui") (codes "/lib/ui")) []) (codes "ui/b"), (23, (codes "ui/b" ++ replicate 8 9, (codes "ui" ++ replicate 2 9, replicate 3 9))))
    ∷ (from_lib (js [] []) (codes "?q#f"), (21, (codes "?q#f" ++ replicate 8 9, nines.1)))
    ∷ (from_lib (js [] []) (codes "./b"), (22, (codes "./b" ++ replicate 9 9, nines.1)))
    ∷ (from_lib (js (labelled (codes "x") (ignore ∷ []) ∷ []) []) (codes "x"), (24, (codes "/lib/x" ++ replicate 6 9, nines.1)))
    ∷ (from_lib (js (one (codes "one") (codes "two") ++ one (codes "two") (codes "one")) []) (codes "one"), (27, nines))
    ∷ (from_manifest (noted (replicate 250 97 ∷ [])), (28, nines))
    ∷ (from_manifest unreadable, (30, (codes "/lib/a" ++ replicate 6 9, nines.1)))
    ∷ (answer (record { kind = listed []; manifest = λ p. unnoted; lookup = λ w r dir. faulty }) (λ p. true) (js [] []) room (codes "/lib") (codes "a"), (31, (codes "a" ++ replicate 11 9, nines.1)))
    ∷ (answer (tree []) (λ p. true) (js [] []) (record { area = 131072; rows = 1024; first = 255; second = 254; third = 255 }) (codes "/") (codes "a"), (1, nines))
    ∷ (answer (tree []) (λ p. true) (js [] []) room (codes "lib") (128 ∷ []), (2, nines))
    ∷ (answer (tree []) (λ p. true) (js [] []) room (codes "/") (128 ∷ []), (20, nines))
    ∷ []

-- each answers with that number and leaves those bytes
abbrev pub EachCallLeavesItsBytes : Type 0
EachCallLeavesItsBytes = AllByRecursion (λ s. (number_of s.0, buffers_after s.0 nines) ≡ s.1) calls

-- a text area of 9s and two rows, and the same blank
abbrev pub used : List ℕ × List Text
used = (replicate 12 9, codes "a" ∷ codes "b" ∷ [])

abbrev pub blank : List ℕ × List Text
blank = (replicate 12 0, [] ∷ [] ∷ [])

-- calls, each with what that work memory holds after it: a lookup, one with an empty path, and the refusals 1, 2 and 20
abbrev pub memories : List (Option Fault × (List ℕ × List Text))
memories =
    (refusal room (codes "/lib") (codes "./a"), blank)
    ∷ (refusal room (codes "/lib") [], blank)
    ∷ (refusal (record { area = 131071; rows = 1024; first = 255; second = 255; third = 255 }) (codes "/lib") (codes "./a"), used)
    ∷ (refusal room (codes "lib") (codes "./a"), used)
    ∷ (refusal room (codes "/lib") (128 ∷ []), used)
    ∷ []

-- each leaves that
abbrev pub EachCallLeavesItsMemory : Type 0
EachCallLeavesItsMemory = AllByRecursion (λ s. (area_after s.0 used.0, rows_after [] s.0 used.1) ≡ s.1) memories

-- `./a` from `/lib` is a quiet request
abbrev pub SomeRequestIsQuiet : Type 0
SomeRequestIsQuiet = QuietCall (tree library) (js [] []) room (codes "/lib") (codes "./a")
