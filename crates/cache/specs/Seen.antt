-- Paths with their kinds, the latest first: what is held, and what a question does to it. Assumes nothing.
use Rattle.std.specs.Prelude.{◌≡◌, ℕ, suc, ◌<◌, Bool, true, false, cond, ◌&&◌, List, [], ◌∷◌, ◌++◌, length, take, drop, Some, None, Option}
use Rattle.texts.specs.Parts.{parts, same_parts}
use Rattle.texts.specs.Texts.{Text, fits}
use Rattle.tree.specs.declared.answers.Kind.{Kind}
use Rattle.tree.specs.Meanings.{Path}

-- how many paths are held at most
abbrev pub room : ℕ
room = 64

-- a path that was asked, and its kind
pub record Seen : Type 0 where
  pub path : Path
  pub kind : Kind

abbrev pub fresh : Path → Kind → Seen
fresh p k = record { path = p; kind = k }

-- a path is held
abbrev pub holds : Path → List Seen → Bool
holds p [] = false
holds p (e ∷ es) = cond (same_parts e.path p) true (holds p es)

-- a text is held if it has at most 255 bytes and its path is held
abbrev pub holds_text : Text → List Seen → Bool
holds_text t es = fits t && holds (parts t) es

-- the kind of a path that is held
abbrev pub recalled : Path → List Seen → Option Kind
recalled p [] = None
recalled p (e ∷ es) = cond (same_parts e.path p) (Some e.kind) (recalled p es)

-- what is held beside a path
abbrev pub without : Path → List Seen → List Seen
without p [] = []
without p (e ∷ es) = cond (same_parts e.path p) es (e ∷ without p es)

-- a path that was asked is the latest, and the one asked longest ago gives way
abbrev pub remember : Path → Kind → List Seen → List Seen
remember p k es = take room (fresh p k ∷ without p es)

-- the same for a text: one of more than 255 bytes leaves what is held
abbrev pub remember_text : (Path → Kind) → Text → List Seen → List Seen
remember_text tree t es = cond (fits t) (remember (parts t) (tree (parts t)) es) es

-- a path that is held becomes the latest; any other leaves what is held
abbrev pub renewed_as : Path → List Seen → Option Kind → List Seen
renewed_as p es (Some k) = remember p k es
renewed_as p es None = es

abbrev pub renewed : Path → List Seen → List Seen
renewed p es = renewed_as p es (recalled p es)

-- where a path is held
abbrev pub Placed : Path → List Seen → Option ℕ → Type 0
Placed p es None = recalled p es ≡ None
Placed p es (Some i) = (i < length es) × ((k : Kind) × (recalled p es ≡ Some k) × (drop i es ≡ fresh p k ∷ drop (suc i) es) × (without p es ≡ take i es ++ drop (suc i) es))
