-- What a walk through the candidates of a path asks of a host: once whether the path is a directory, and of a directory once its manifest. Assumes nothing.
use Rattle.std.specs.Prelude.{◌≡◌, Bool, true, false}
use Rattle.texts.specs.Texts.{Text}
use Rattle.texts.specs.Parts.{parts}
use Rattle.tree.specs.Meanings.{Meaning, Question, kind_of, manifest_of}
use Rattle.candidates.specs.declared.places.Form.TheVariants as form
use Rattle.candidates.specs.declared.walk.Stage.{Stage}
use Rattle.candidates.specs.declared.walk.Stage.TheVariants as stage
use Rattle.candidates.specs.Candidates.{is_directory}

-- the directory still lies ahead
abbrev pub ahead : Stage → Bool
ahead (stage.Path form.File) = true
ahead (stage.Path form.Index) = false
ahead stage.Directory = true
ahead (stage.Main k f) = false
ahead stage.Done = false

module _ {S : Type 0} (steps : S → Question → S → Type 0) (m : Meaning) (p : Text) where
  -- whether the path is a directory, and of a directory its manifest, each asked once
  pub data DirectoryAsked : S → S → Type 0 where
    no_directory : {s t : S} → is_directory (m.kind (parts p)) ≡ false → steps s (kind_of p) t → DirectoryAsked s t
    directory : {s t u : S} → is_directory (m.kind (parts p)) ≡ true → steps s (kind_of p) t → steps t (manifest_of p) u → DirectoryAsked s u

  -- a walk that goes from one stage to another asks where it comes past the directory, and nowhere else; it never goes back
  pub data AskedBetween : Stage → Stage → S → S → Type 0 where
    before_it : {a b : Stage} {s t : S} → ahead a ≡ true → ahead b ≡ true → t ≡ s → AskedBetween a b s t
    past_it : {a b : Stage} {s t : S} → ahead a ≡ true → ahead b ≡ false → DirectoryAsked s t → AskedBetween a b s t
    behind_it : {a b : Stage} {s t : S} → ahead a ≡ false → ahead b ≡ false → t ≡ s → AskedBetween a b s t
