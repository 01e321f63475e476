-- What a cache holds, and how a question moves it and the host below. Assumes nothing.
use Rattle.std.specs.Prelude.{◌≡◌, true, false, ℕ, List, [], ◌∷◌, map, slice_index_or}
use Rattle.stack.specs.Held as list
use Rattle.texts.specs.Held.{bytes_of}
use Rattle.texts.specs.Parts.{parts}
use Rattle.texts.specs.Texts.{Text}
use Rattle.tree.specs.declared.answers.Kind.{Kind}
use Rattle.tree.specs.declared.answers.Kind.TheVariants.{Nothing}
use Rattle.tree.specs.Meanings.{Path, Question, kind_of, manifest_of, lookup_of, forgetting}
use Rattle.cache.specs.declared.recent.Entry.{Entry}
use Rattle.cache.specs.declared.recent.Recent.{Recent}
use Rattle.cache.specs.Seen.{Seen, fresh, holds_text, remember_text}

-- what an entry holds
abbrev pub seen : Entry → Seen
seen e = fresh (parts (bytes_of e.path)) e.kind

-- what the entry in a slot holds; no slot beyond the entries is in use
abbrev pub in_slot : List Entry → ℕ → Seen
in_slot es i = slice_index_or (map seen es) i (fresh [] Nothing)

-- the paths that are held with their kinds, the latest first
abbrev pub held : Recent → List Seen
held s = map (in_slot (list.held s.entries)) (list.held s.order)

-- what is held is what the tree has
abbrev pub Agrees : (Path → Kind) → List Seen → Type 0
Agrees tree [] = Unit {0}
Agrees tree (e ∷ es) = (e.kind ≡ tree e.path) × Agrees tree es

-- a kind question: what is held before and after, and whether the host below is left as it was or was asked
pub record Asked (tree : Path → Kind) (t : Text) (before after : List Seen) (Left Passed : Type 0) : Type 0 where
  pub now_held : after ≡ remember_text tree t before
  pub if_held : holds_text t before ≡ true → Left
  pub if_not : holds_text t before ≡ false → Passed

-- any question: the others leave what is held and go to the host below, and to forget empties it too
abbrev pub Stepped : (Path → Kind) → List Seen → List Seen → Type 0 → Type 0 → Question → Type 0
Stepped tree before after Left Passed (kind_of t) = Asked tree t before after Left Passed
Stepped tree before after Left Passed (manifest_of t) = (after ≡ before) × Passed
Stepped tree before after Left Passed (lookup_of way request directory) = (after ≡ before) × Passed
Stepped tree before after Left Passed forgetting = (after ≡ []) × Passed
