-- What labels and their values ask of the tree. Assumes nothing.
use Rattle.std.specs.Prelude.{◌≡◌, ℕ, ◌+◌, Bool, true, false, List, [], ◌∷◌, drop, Some, None, Option}
use Rattle.texts.specs.Texts.{Text}
use Rattle.paths.specs.Joins.{normalize}
use Rattle.tree.specs.Meanings.{Question, kind_of}
use Rattle.settings.specs.Tables.{Alias, Value, ignore, to}
use Rattle.alias.specs.Answers.{AskedIf, asks}
use Rattle.alias.specs.Forms.{touches}
use Rattle.alias.specs.Left.{value_text}

-- a value asks where a plain label leaves a tail behind it, and an ignored request asks nothing
abbrev pub value_asks : Text → Text → Value → Bool
value_asks l r ignore = false
value_asks l r (to v) = asks l v r

-- the values that are not looked at, where an attempt was found at a place, or none
abbrev pub behind_found : {X : Type 0} → List Value → Option (ℕ × X) → List Value
behind_found vs None = []
behind_found vs (Some (i, x)) = drop (i + 1) vs

module _ {S : Type 0} (steps : S → Question → S → Type 0) (l r : Text) where
  -- one value was looked at: it asks for the kind of its normalized text, once, or nothing
  abbrev pub ValueAsked : Value → S → S → Type 0
  ValueAsked v s t = AskedIf steps (value_asks l r v) (kind_of (normalize (value_text v))) s t

  -- values were looked at in turn, each once, down to those that are left
  pub data ValuesAsked : List Value → List Value → S → S → Type 0 where
    none_yet : {vs : List Value} {s : S} → ValuesAsked vs vs s s
    one_more : {vs ws : List Value} {s t u : S} (v : Value) → ValuesAsked vs (v ∷ ws) s t → ValueAsked v t u → ValuesAsked vs ws s u

  -- the first of some values were looked at, if the label touches; else nothing was asked
  abbrev pub SomeAsked : Bool → List Value → S → S → Type 0
  SomeAsked true vs s t = (ws : List Value) × ValuesAsked vs ws s t
  SomeAsked false vs s t = t ≡ s

module _ {S : Type 0} (steps : S → Question → S → Type 0) (r : Text) where
  -- a label that touches the request has its values looked at from a place on, any other label asks nothing
  abbrev pub LabelAsked : Alias → ℕ → S → S → Type 0
  LabelAsked a n s t = SomeAsked steps a.label r (touches a.label r) (drop n a.values) s t

  -- labels were come to in turn, the first from one of its values on and each later one from its first, down to those that are left
  pub data LabelsAsked : List Alias → ℕ → List Alias → ℕ → S → S → Type 0 where
    not_yet : {rows : List Alias} {n : ℕ} {s : S} → LabelsAsked rows n rows n s s
    next_label : {rows more : List Alias} {n m : ℕ} {s t u : S} (a : Alias) → LabelsAsked rows n (a ∷ more) m s t → LabelAsked a m t u → LabelsAsked rows n more 0 s u

  -- some of the labels were come to, from a value of the first one on
  abbrev pub SomeLabelsAsked : List Alias → ℕ → S → S → Type 0
  SomeLabelsAsked rows n s t = (rest : List Alias) × ((m : ℕ) × LabelsAsked rows n rest m s t)
