-- What is left of the candidates when some were formed. Assumes nothing.
use Rattle.std.specs.Prelude.{◌≡◌, ℕ, ◌+◌, ◌-◌, ◌*◌, Bool, true, false, cond, List, [], ◌∷◌, ◌++◌, drop, Some, None, Option}
use Rattle.texts.specs.Texts.{Text}
use Rattle.texts.specs.Parts.{parts}
use Rattle.paths.specs.Joins.{join, joins}
use Rattle.tree.specs.Meanings.{Meaning, mains}
use Rattle.settings.specs.Tables.{Tables}
use Rattle.candidates.specs.declared.places.Form.{Form}
use Rattle.candidates.specs.declared.places.Form.TheVariants as form
use Rattle.candidates.specs.declared.walk.Stage.{Stage}
use Rattle.candidates.specs.declared.walk.Stage.TheVariants as stage
use Rattle.candidates.specs.declared.walk.Walk.{Walk}
use Rattle.candidates.specs.Candidates.{Candidate, directory_candidates, files, indexes, main_candidates, main_text, overlong}

-- the candidates of a path in one of the two forms
abbrev pub form_candidates : Tables → Bool → Form → Text → List Candidate
form_candidates t fully form.File p = files t fully p
form_candidates t fully form.Index p = indexes t fully p

-- the stage behind the candidates of a path in one of the two forms, and behind those of a main text
abbrev pub behind_path : Form → Stage
behind_path form.File = stage.Directory
behind_path form.Index = stage.Done

abbrev pub behind_main : ℕ → Form → Stage
behind_main k form.File = stage.Main k form.Index
behind_main k form.Index = stage.Main (k + 1) form.File

-- all candidates were formed
abbrev pub ended : Stage → Bool
ended (stage.Path f) = false
ended stage.Directory = false
ended (stage.Main k f) = false
ended stage.Done = true

-- how far a stage is from the end
abbrev pub rank : Stage → ℕ
rank (stage.Path form.File) = 600
rank (stage.Path form.Index) = 1
rank stage.Directory = 599
rank (stage.Main k form.File) = 2 * (256 - k) + 3
rank (stage.Main k form.Index) = 2 * (256 - k) + 2
rank stage.Done = 0

module _ (t : Tables) (fully : Bool) (p : Text) where
  -- the candidates of the first of the main texts from a place on, and of the later ones
  abbrev pub main_left : List Text → ℕ → List Candidate
  main_left [] i = indexes t fully p
  main_left (m ∷ ms) i =
      cond (joins p (main_text m)) (drop i (files t fully (join p (main_text m))) ++ (indexes t fully (join p (main_text m)) ++ main_candidates t fully p ms)) (overlong ∷ [])

  abbrev pub main_index_left : List Text → ℕ → List Candidate
  main_index_left [] i = indexes t fully p
  main_index_left (m ∷ ms) i =
      cond (joins p (main_text m)) (drop i (indexes t fully (join p (main_text m))) ++ main_candidates t fully p ms) (overlong ∷ [])

  abbrev pub stage_left : Meaning → Stage → ℕ → List Candidate
  stage_left m (stage.Path form.File) i = drop i (files t fully p) ++ directory_candidates t fully m p
  stage_left m (stage.Path form.Index) i = drop i (indexes t fully p)
  stage_left m stage.Directory i = directory_candidates t fully m p
  stage_left m (stage.Main k form.File) i = main_left (drop k (mains (m.manifest (parts p)))) i
  stage_left m (stage.Main k form.Index) i = main_index_left (drop k (mains (m.manifest (parts p)))) i
  stage_left m stage.Done i = []

  -- the candidates that are left
  abbrev pub left : Meaning → Walk → List Candidate
  left m w = stage_left m w.stage w.place

-- one candidate is taken from the front of a list; none only if the list is empty
abbrev pub Taken : List Candidate → Option Candidate → List Candidate → Type 0
Taken before None after = (before ≡ []) × (after ≡ [])
Taken before (Some c) after = before ≡ c ∷ after

-- a candidate is taken, or a stage is left with as many candidates
abbrev pub Stepped : List Candidate → Option Candidate → List Candidate → Type 0
Stepped before None after = before ≡ after
Stepped before (Some c) after = before ≡ c ∷ after
