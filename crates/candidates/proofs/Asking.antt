-- What a walk asks, stage after stage. Assumes nothing.
use Rattle.std.proofs.Common.{◌≡◌, ◌⊎◌, Bool, true, false, refl, sym, ap, subst, ◌∙◌, inl, inr}
use Rattle.texts.specs.Texts.{Text}
use Rattle.tree.specs.declared.answers.Kind.{Kind}
use Rattle.tree.specs.declared.answers.Kind.TheVariants.{Nothing, File as AFile}
use Rattle.tree.specs.Meanings.{Meaning, Question}
use Rattle.candidates.specs.declared.places.Form.{Form}
use Rattle.candidates.specs.declared.places.Form.TheVariants.{File, Index}
use Rattle.candidates.specs.declared.walk.Stage.{Stage}
use Rattle.candidates.specs.declared.walk.Stage.TheVariants.{Path}
use Rattle.candidates.specs.Asked.{AskedBetween, DirectoryAsked, ahead, before_it, past_it, behind_it}
use Rattle.candidates.specs.Candidates.{is_directory}
use Rattle.candidates.specs.Left.{behind_path}

not_both : {X : Type 0} (b : Bool) → b ≡ true → b ≡ false → X
not_both b t f = absurd (let e : true ≡ false = sym t ∙ f in cc)

module _ {S : Type 0} (steps : S → Question → S → Type 0) (m : Meaning) (p : Text) where
  -- nothing is asked while a walk stands
  pub standing : (a : Stage) (s : S) → AskedBetween steps m p a a s s
  standing a s = at (ahead a) refl
    where
      at : (b : Bool) → ahead a ≡ b → AskedBetween steps m p a a s s
      at true e = before_it e e refl
      at false e = behind_it e e refl

  -- two ways, one behind the other
  pub onward : {a b c : Stage} {s t u : S} → AskedBetween steps m p a b s t → AskedBetween steps m p b c t u → AskedBetween steps m p a c s u
  onward (before_it x y e) (before_it z w f) = before_it x w (f ∙ e)
  onward {s = s} {u = u} (before_it x y e) (past_it z w d) = past_it x w (subst (λ (v : S). DirectoryAsked steps m p v u) e d)
  onward {b = b} (before_it x y e) (behind_it z w f) = not_both (ahead b) y z
  onward {b = b} (past_it x y d) (before_it z w f) = not_both (ahead b) z y
  onward {b = b} (past_it x y d) (past_it z w f) = not_both (ahead b) z y
  onward {s = s} (past_it x y d) (behind_it z w f) = past_it x w (subst (λ (v : S). DirectoryAsked steps m p s v) (sym f) d)
  onward {b = b} (behind_it x y e) (before_it z w f) = not_both (ahead b) z y
  onward {b = b} (behind_it x y e) (past_it z w d) = not_both (ahead b) z y
  onward (behind_it x y e) (behind_it z w f) = behind_it x w (f ∙ e)

  -- a walk that stays on one side of the directory asks nothing
  pub same_side : (a b : Stage) (s : S) → ahead b ≡ ahead a → AskedBetween steps m p a b s s
  same_side a b s e = at (ahead a) refl
    where
      at : (v : Bool) → ahead a ≡ v → AskedBetween steps m p a b s s
      at true f = before_it f (e ∙ f) refl
      at false f = behind_it f (e ∙ f) refl

pub behind_path_same : (f : Form) → ahead (behind_path f) ≡ ahead (Path f)
behind_path_same File = refl
behind_path_same Index = refl

-- nothing and a file are no directory
pub no_directory_there : (k : Kind) → (k ≡ Nothing) ⊎ (k ≡ AFile) → is_directory k ≡ false
no_directory_there k (inl e) = ap is_directory e
no_directory_there k (inr e) = ap is_directory e
