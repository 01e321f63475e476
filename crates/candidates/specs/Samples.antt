-- Worked examples of candidates. Assumes nothing.
use Rattle.std.specs.Prelude.{◌≡◌, Bool, true, false, cond, List, [], ◌∷◌, codes}
use Rattle.std.specs.List.{AllByRecursion}
use Rattle.texts.specs.Texts.{Text}
use Rattle.texts.specs.Parts.{parts, same_parts}
use Rattle.tree.specs.declared.answers.Kind.TheVariants.{Nothing, Directory}
use Rattle.tree.specs.Meanings.{Meaning, Noted, missing, noted, unnoted, unreadable}
use Rattle.settings.specs.declared.enforcement.EnforceExtension.{EnforceExtension}
use Rattle.settings.specs.declared.enforcement.EnforceExtension.TheVariants.{Auto, Enabled}
use Rattle.settings.specs.Tables.{Tables}
use Rattle.candidates.specs.Candidates.{Candidate, broken_at, candidates, asks_for_directory, try}

-- settings with these extensions and main files
abbrev pub set : List Text → List Text → EnforceExtension → Tables
set es ms enforcement = record { aliases = []; extensions = es; main_files = ms; restrictions = []; fully_specified = false; context = false; enforcement = enforcement }

abbrev pub js : Tables
js = set (codes ".js" ∷ []) (codes "index" ∷ []) Auto

-- a tree where one path is a directory with this manifest
abbrev pub one : Text → Noted → Meaning
one dir m = record {
  kind = λ p. cond (same_parts p (parts dir)) Directory Nothing;
  manifest = λ p. cond (same_parts p (parts dir)) m unnoted;
  lookup = λ w request from. missing;
}

abbrev pub tried : List Text → List Candidate
tried [] = []
tried (t ∷ ts) = try t ∷ tried ts

-- settings, fully specified or not, a tree, a request, the path that it looks for, and its candidates
pub record Sample : Type 0 where
  pub tables : Tables
  pub fully : Bool
  pub tree : Meaning
  pub request : Text
  pub path : Text
  pub all : List Candidate

abbrev pub sample : Tables → Bool → Meaning → Text → Text → List Candidate → Sample
sample t fully m r p cs = record { tables = t; fully = fully; tree = m; request = r; path = p; all = cs }

abbrev pub samples : List Sample
samples =
    sample js false (one (codes "/lib/a") unnoted) (codes "./a") (codes "/lib/a") (tried (codes "/lib/a" ∷ codes "/lib/a.js" ∷ codes "/lib/a/index.js" ∷ []))
    ∷ sample js false (one (codes "/lib/a") unnoted) (codes "./a/") (codes "/lib/a") (tried (codes "/lib/a/index.js" ∷ []))
    ∷ sample js false (one (codes "/lib/b") unnoted) (codes "./a") (codes "/lib/a") (tried (codes "/lib/a" ∷ codes "/lib/a.js" ∷ []))
    ∷ sample js false (one (codes "/") unnoted) (codes ".") (codes "/") (tried (codes "//index.js" ∷ []))
    ∷ sample js false (one (codes "/lib") unnoted) (codes "..") (codes "/lib") (tried (codes "/lib" ∷ codes "/lib.js" ∷ codes "/lib/index.js" ∷ []))
    ∷ sample js true (one (codes "/lib/a") unnoted) (codes "./a") (codes "/lib/a") (tried (codes "/lib/a" ∷ []))
    ∷ sample (set (codes ".js" ∷ [] ∷ []) (codes "i" ∷ codes "j" ∷ []) Auto) false (one (codes "/a") unnoted) (codes "/a") (codes "/a") (tried (codes "/a.js" ∷ codes "/a" ∷ codes "/a/i.js" ∷ codes "/a/i" ∷ codes "/a/j.js" ∷ codes "/a/j" ∷ []))
    ∷ sample (set [] (codes "index" ∷ []) Enabled) false (one (codes "/a") unnoted) (codes "/a") (codes "/a") []
    ∷ sample js false (one (codes "/a") unreadable) (codes "/a/") (codes "/a") (broken_at (codes "/a") ∷ [])
    ∷ sample js false (one (codes "/a") (noted (codes "m/" ∷ [] ∷ []))) (codes "/a/") (codes "/a") (tried (codes "/a/m" ∷ codes "/a/m.js" ∷ codes "/a/m/index.js" ∷ codes "/a" ∷ codes "/a.js" ∷ codes "/a/index.js" ∷ codes "/a/index.js" ∷ []))
    ∷ sample js true (one (codes "/a") (noted (codes "/x" ∷ codes "../y" ∷ []))) (codes "/a") (codes "/a") (tried (codes "/a" ∷ codes "/a/x" ∷ codes "/y" ∷ []))
    ∷ []

-- each request has these candidates
abbrev pub EachSampleHolds : Type 0
EachSampleHolds = AllByRecursion (λ s. candidates s.tables s.fully s.tree (asks_for_directory s.request) s.path ≡ s.all) samples
