-- The candidates of main texts, step by step. Assumes nothing.
use Rattle.std.proofs.Common.{◌≡◌, ℕ, zero, suc, ◌+◌, ◌<◌, Bool, true, false, cond, List, [], ◌∷◌, ◌++◌, length, drop, Some, None, sym, refl, ap, subst, ◌∙◌, arith}
use Rattle.std.specs.List.{AllByRecursion}
use Rattle.std.proofs.lemmas.Bool.{cond-false, cond-true}
use Rattle.stack.specs.Items.{item_at}
use Rattle.texts.specs.Texts.{Text}
use Rattle.paths.specs.Joins.{join, joined, joins}
use Rattle.settings.specs.Tables.{Tables}
use Rattle.texts.specs.Parts.{parts}
use Rattle.tree.specs.Meanings.{Meaning, mains}
use Rattle.candidates.specs.declared.places.Form.{Form}
use Rattle.candidates.specs.declared.places.Form.TheVariants.{File, Index}
use Rattle.candidates.specs.declared.walk.Stage.{Stage}
use Rattle.candidates.specs.declared.walk.Stage.TheVariants.{Path, Main}
use Rattle.candidates.specs.declared.walk.Walk.{Walk}
use Rattle.candidates.specs.Candidates.{Candidate, directory_candidates, files, indexes, main_candidates, main_text, overlong}
use Rattle.candidates.specs.Left.{behind_main, behind_path, form_candidates, left, main_index_left, main_left, rank, stage_left}
use Rattle.candidates.proofs.Placing.{dropped_none, dropped_some}

-- what holds of each item holds of the one at a place
pub each_at : {X : Type 0} (P : X → Type 0) (xs : List X) (i : ℕ) (x : X) → AllByRecursion P xs → Some x ≡ item_at xs i → P x
each_at P [] i x h e = absurd (let f : Some x ≡ None = e in cc)
each_at P (y ∷ ys) zero x h e = let same : y ≡ x = cc in subst P same h.0
each_at P (y ∷ ys) (suc i) x h e = each_at P ys i x h.1 e

pub item_within : {X : Type 0} (xs : List X) (i : ℕ) (x : X) → Some x ≡ item_at xs i → i < length xs
item_within [] i x e = absurd (let f : Some x ≡ None = e in cc)
item_within (y ∷ ys) zero x e = omega arith
item_within (y ∷ ys) (suc i) x e = omega (arith, item_within ys i x e)

-- a text that was joined, or was not
pub joined_so : (a b q : Text) → Some q ≡ joined a b → (joins a b ≡ true) × (q ≡ join a b)
joined_so a b q e = at (joins a b) refl e
  where
    at : (v : Bool) → joins a b ≡ v → Some q ≡ cond v (Some (join a b)) None → (joins a b ≡ true) × (q ≡ join a b)
    at true j f = (j, cc)
    at false j f = absurd (let h : Some q ≡ None = f in cc)

pub joined_not : (a b : Text) → None ≡ joined a b → joins a b ≡ false
joined_not a b e = at (joins a b) refl e
  where
    at : (v : Bool) → joins a b ≡ v → None ≡ cond v (Some (join a b)) None → joins a b ≡ false
    at true j f = absurd (let h : None ≡ Some (join a b) = f in cc)
    at false j f = j

module _ (t : Tables) (fully : Bool) (p : Text) (m : Meaning) where
  -- a path in one of the two forms
  pub path_next : (f : Form) (i : ℕ) (c : Candidate) → Some c ≡ item_at (form_candidates t fully f p) i → stage_left t fully p m (Path f) i ≡ c ∷ stage_left t fully p m (Path f) (i + 1)
  path_next File i c e = ap (λ (xs : List Candidate). xs ++ directory_candidates t fully m p) (dropped_some (files t fully p) i c e)
  path_next Index i c e = dropped_some (indexes t fully p) i c e

  pub path_done : (f : Form) (i : ℕ) → None ≡ item_at (form_candidates t fully f p) i → stage_left t fully p m (Path f) i ≡ stage_left t fully p m (behind_path f) 0
  path_done File i e = ap (λ (xs : List Candidate). xs ++ directory_candidates t fully m p) (dropped_none (files t fully p) i e)
  path_done Index i e = dropped_none (indexes t fully p) i e

  -- a walk at the first place of a stage has all of the stage left
  pub at_first : (w : Walk) (h : Stage) → w ≡ record { stage = h; place = 0 } → stage_left t fully p m h 0 ≡ left t fully p m w
  at_first w h e = sym (ap (λ (v : Walk). left t fully p m v) e)

  abbrev ms : List Text
  ms = mains (m.manifest (parts p))

  -- from its first place on, a main text has all its candidates
  main_first : (xs : List Text) → main_left t fully p xs 0 ≡ main_candidates t fully p xs
  main_first [] = refl
  main_first (x ∷ xs) = refl

  module _ (k : ℕ) where
    pub main_gone : None ≡ item_at ms k → (f : Form) (i : ℕ) → stage_left t fully p m (Main k f) i ≡ indexes t fully p
    main_gone e File i = ap (λ (xs : List Text). main_left t fully p xs i) (dropped_none ms k e)
    main_gone e Index i = ap (λ (xs : List Text). main_index_left t fully p xs i) (dropped_none ms k e)

    module _ (x : Text) (e : Some x ≡ item_at ms k) where
      pub main_long : None ≡ joined p (main_text x) → (f : Form) (i : ℕ) → stage_left t fully p m (Main k f) i ≡ overlong ∷ []
      main_long n File i = ap (λ (xs : List Text). main_left t fully p xs i) (dropped_some ms k x e) ∙ cond-false _ _ _ (joined_not p (main_text x) n)
      main_long n Index i = ap (λ (xs : List Text). main_index_left t fully p xs i) (dropped_some ms k x e) ∙ cond-false _ _ _ (joined_not p (main_text x) n)

      module _ (q : Text) (j : Some q ≡ joined p (main_text x)) where
        abbrev rest : List Candidate
        rest = main_candidates t fully p (drop (k + 1) ms)

        main_here : (i : ℕ) → main_left t fully p (drop k ms) i ≡ drop i (files t fully q) ++ (indexes t fully q ++ rest)
        main_here i =
            let at = joined_so p (main_text x) q j in
            ap (λ (xs : List Text). main_left t fully p xs i) (dropped_some ms k x e)
            ∙ cond-true _ _ _ at.0
            ∙ (λ z. drop i (files t fully (sym at.1 z)) ++ (indexes t fully (sym at.1 z) ++ rest))

        main_index_here : (i : ℕ) → main_index_left t fully p (drop k ms) i ≡ drop i (indexes t fully q) ++ rest
        main_index_here i =
            let at = joined_so p (main_text x) q j in
            ap (λ (xs : List Text). main_index_left t fully p xs i) (dropped_some ms k x e)
            ∙ cond-true _ _ _ at.0
            ∙ (λ z. drop i (indexes t fully (sym at.1 z)) ++ rest)

        pub main_next : (f : Form) (i : ℕ) (c : Candidate) → Some c ≡ item_at (form_candidates t fully f q) i → stage_left t fully p m (Main k f) i ≡ c ∷ stage_left t fully p m (Main k f) (i + 1)
        main_next File i c f =
            main_here i
            ∙ ap (λ (xs : List Candidate). xs ++ (indexes t fully q ++ rest)) (dropped_some (files t fully q) i c f)
            ∙ ap (λ (xs : List Candidate). c ∷ xs) (sym (main_here (i + 1)))
        main_next Index i c f =
            main_index_here i
            ∙ ap (λ (xs : List Candidate). xs ++ rest) (dropped_some (indexes t fully q) i c f)
            ∙ ap (λ (xs : List Candidate). c ∷ xs) (sym (main_index_here (i + 1)))

        pub main_done : (f : Form) (i : ℕ) → None ≡ item_at (form_candidates t fully f q) i → stage_left t fully p m (Main k f) i ≡ stage_left t fully p m (behind_main k f) 0
        main_done File i f =
            main_here i
            ∙ ap (λ (xs : List Candidate). xs ++ (indexes t fully q ++ rest)) (dropped_none (files t fully q) i f)
            ∙ sym (main_index_here 0)
        main_done Index i f =
            main_index_here i
            ∙ ap (λ (xs : List Candidate). xs ++ rest) (dropped_none (indexes t fully q) i f)
            ∙ sym (main_first (drop (k + 1) ms))

-- the stage behind a main text is nearer to the end
pub behind_path_nearer : (f : Form) → rank (behind_path f) < rank (Path f)
behind_path_nearer File = omega arith
behind_path_nearer Index = omega arith

pub main_nearer : (k : ℕ) (f : Form) → k < 255 → (rank (behind_main k f) < rank (Main k f)) × (1 < rank (Main k f))
main_nearer k File h = (omega arith, omega arith)
main_nearer k Index h = (omega arith, omega arith)

pub main_rank : (k : ℕ) (f : Form) → 1 < rank (Main k f)
main_rank k File = omega arith
main_rank k Index = omega arith
