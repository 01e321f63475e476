use Rattle.std.proofs.Common.{◌≡◌, Bool, true, false, refl, sym, ap, ◌∙◌}
use Rattle.texts.specs.Texts.{Text}
use Rattle.tree.specs.Meanings.{Meaning}
use Rattle.settings.specs.Tables.{Tables}
use Rattle.candidates.specs.declared.places.Form.TheVariants.{File}
use Rattle.candidates.specs.declared.walk.Stage.TheVariants.{Directory, Path}
use Rattle.candidates.specs.declared.walk.Walk.{Walk}
use Rattle.candidates.specs.Candidates.{candidates}
use Rattle.candidates.specs.Left.{left, stage_left}
use Rattle.candidates.proofs.walk.Walk.new.Goals as goal

module _ (t : Tables) (fully : Bool) (path : Text) (m : Meaning) where
  inside_left : stage_left t fully path m Directory 0 ≡ candidates t fully m true path
  unfolding candidates
  inside_left = refl

  all_left : stage_left t fully path m (Path File) 0 ≡ candidates t fully m false path
  unfolding candidates
  all_left = refl

pub returns-then-inside : goal.returns-then-inside
returns-then-inside c = record {
  every_candidate_is_left = λ t fully path m.
      ap (λ (w : Walk). left t fully path m w) c.begin.ensures.first_place_of_the_stage
      ∙ inside_left t fully path m
      ∙ ap (λ (b : Bool). candidates t fully m b path) (sym c.if-inside.true);
}

pub returns-else-inside : goal.returns-else-inside
returns-else-inside c = record {
  every_candidate_is_left = λ t fully path m.
      ap (λ (w : Walk). left t fully path m w) c.begin-else-inside.ensures.first_place_of_the_stage
      ∙ all_left t fully path m
      ∙ ap (λ (b : Bool). candidates t fully m b path) (sym c.if-inside.false);
}
