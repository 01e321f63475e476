-- Worked examples: what requests are read as, which way paths go, and how texts are joined and normalized. Assumes nothing.
use Rattle.std.specs.Prelude.{◌≡◌, List, [], ◌∷◌, ◌++◌, Some, None, Ok, Err, codes, Option, Result}
use Rattle.std.specs.List.{AllByRecursion}
use Rattle.specifier.specs.declared.branch.Branch.{Branch}
use Rattle.specifier.specs.declared.branch.Branch.TheVariants.{Absolute, Relative, Hash, Package}
use Rattle.specifier.specs.declared.request.Specifier.{Specifier}
use Rattle.specifier.specs.declared.request.SpecifierError.{SpecifierError}
use Rattle.specifier.specs.declared.request.SpecifierError.TheVariants.{Empty}
use Rattle.specifier.specs.Branches.{branch}
use Rattle.specifier.specs.Requests.{unescaped, piece_at, specifier_of}
use Rattle.paths.specs.Joins.{joined, normalize}
use Rattle.texts.specs.Parts.{text_at}
use Rattle.texts.specs.Texts.{Text, NUL}

-- the pieces of a request as texts, the path without its escapes
pub record Pieces : Type 0 where
  pub path : Text
  pub query : Option Text
  pub fragment : Option Text

-- what comes of a request: its pieces, or a fault
abbrev pub Outcome : Type 0
Outcome = Result Pieces SpecifierError

-- a request that is read as these pieces
abbrev pub read_as : Text → Option Text → Option Text → Outcome
read_as p q f = Ok (record { path = p; query = q; fragment = f })

-- what stands at the places of a specifier
abbrev pub outcome : Text → Result Specifier SpecifierError → Outcome
outcome s (Ok r) = read_as (unescaped (text_at s r.path)) (piece_at s r.query) (piece_at s r.fragment)
outcome s (Err e) = Err e

-- requests, each with what it is read as
abbrev pub samples : List (Text × Outcome)
samples =
    (codes "./a", read_as (codes "./a") None None)
    ∷ (codes "./a?q#f", read_as (codes "./a") (Some (codes "?q")) (Some (codes "#f")))
    ∷ (codes "./a#f", read_as (codes "./a") None (Some (codes "#f")))
    ∷ (codes "?q", Err Empty)
    ∷ ([], Err Empty)
    ∷ (codes "#a", read_as (codes "#a") None None)
    ∷ (codes "a?b?c#d?e", read_as (codes "a") (Some (codes "?b?c")) (Some (codes "#d?e")))
    ∷ (codes "/#x", read_as (codes "/") None (Some (codes "#x")))
    ∷ (codes ".?x", read_as (codes ".") (Some (codes "?x")) None)
    ∷ (codes "a" ++ (NUL ∷ codes "#b"), read_as (codes "a#b") None None)
    ∷ (codes "a?b" ++ (NUL ∷ codes "#c"), read_as (codes "a") (Some (codes "?b" ++ (NUL ∷ codes "#c"))) None)
    ∷ (codes "##", read_as (codes "#") None (Some (codes "#")))
    ∷ []

-- paths, each with its way
abbrev pub ways : List (Text × Branch)
ways =
    (codes "/x", Absolute)
    ∷ (codes "./x", Relative)
    ∷ (codes "..", Relative)
    ∷ (codes ".a", Package)
    ∷ (codes "..a", Package)
    ∷ (codes "#a", Hash)
    ∷ (codes "a", Package)
    ∷ ([], Package)
    ∷ []

-- texts joined to a directory
abbrev pub joins : List (Text × Text × Text)
joins =
    (codes "/lib", codes "./a", codes "/lib/a")
    ∷ (codes "/lib/a", codes "../b/./c/", codes "/lib/b/c")
    ∷ (codes "/", codes "../../x", codes "/x")
    ∷ (codes "/lib", codes "/x//y/", codes "/x//y/")
    ∷ (codes "/lib", [], [])
    ∷ (codes "/a//b/", codes "..", codes "/a")
    ∷ (codes "/a/", codes "b", codes "/a/b")
    ∷ (codes "a", codes "..", [])
    ∷ []

-- texts normalized
abbrev pub normals : List (Text × Text)
normals =
    (codes "/foo/.././foo/", codes "/foo")
    ∷ (codes "../dir", codes "dir")
    ∷ (codes "./a//b", codes "a/b")
    ∷ (codes "//", codes "/")
    ∷ []

-- each request is read so, each path goes its way, and each text is joined and normalized so
pub record WorkedExamples : Type 0 where
  pub read : AllByRecursion (λ x. outcome x.0 (specifier_of x.0) ≡ x.1) samples
  pub gone : AllByRecursion (λ x. branch x.0 ≡ x.1) ways
  pub joined_so : AllByRecursion (λ x. joined x.0 x.1 ≡ Some x.2) joins
  pub normal_so : AllByRecursion (λ x. normalize x.0 ≡ x.1) normals
