-- What is told of a question, by its definition. Assumes nothing.
use Rattle.std.proofs.Common.{◌≡◌, ℕ, zero, suc, ◌<◌, length, get_or, arith, Bool, true, false, List, [], ◌∷◌, ◌++◌, map, take, drop, Some, None, Option, Ok, Err, Result, refl, ap, ◌∙◌}
use Rattle.std.specs.List.{flat_map}
use Rattle.lines.specs.Sheets.{LINE_END}
use Rattle.texts.specs.Texts.{Text}
use Rattle.settings.specs.Tables.{Alias}
use Rattle.alias.specs.Attempts.{Attempt}
use Rattle.alias.specs.Left.{label_of}
use Rattle.alias.specs.declared.rewrite.TooLong.{TooLong}
use Rattle.explain.specs.declared.trial.Outcome.{Outcome}
use Rattle.explain.specs.declared.trial.Outcome.TheVariants as outcome
use Rattle.explain.specs.declared.trial.Trial.{Trial}
use Rattle.explain.specs.Labels.{labels_lines, outcome_words, outcomes_words, passed_over, touching_words}
use Rattle.explain.specs.Legible.{phrase}
use Rattle.explain.specs.Telling.{attempt_words, attempts_lines, attempts_words}
use Rattle.explain.specs.Trials.{come, tried}

-- what comes of a label is told as its attempt
outcome_is : (first : Bool) (l r : Text) (x : Result Outcome TooLong) → outcome_words first x ≡ attempt_words first (come l r x)
outcome_is first l r (Ok (outcome.Again t)) = refl
outcome_is first l r (Ok (outcome.Ignored t)) = refl
outcome_is first l r (Ok outcome.Unmatched) = refl
outcome_is first l r (Err e) = refl

module _ (aliases : List Alias) (r : Text) where
  later_is : (ts : List Trial) → flat_map (λ t. outcome_words false t.outcome) ts ≡ flat_map (attempt_words false) (map (tried aliases r) ts)
  later_is [] = refl
  later_is (t ∷ ts) = λ k. outcome_is false (label_of (drop t.label aliases)) r t.outcome k ++ later_is ts k

  outcomes_is : (ts : List Trial) → outcomes_words ts ≡ attempts_words (map (tried aliases r) ts)
  outcomes_is [] = refl
  outcomes_is (t ∷ ts) = λ k. outcome_is true (label_of (drop t.label aliases)) r t.outcome k ++ later_is ts k

  -- the lines on the labels are those of what is tried
  pub labels_is : (d : Option ℕ) (ts : List Trial) (tries : List Attempt) → map (tried aliases r) ts ≡ tries → labels_lines aliases r d ts ≡ attempts_lines aliases r d tries
  labels_is None ts tries e = refl
  labels_is (Some place) ts tries e =
      ap (λ (words : Text). phrase (flat_map (passed_over r) (take place aliases) ∷ touching_words r (label_of (drop place aliases)) ∷ words ∷ (LINE_END ∷ []) ∷ [])) (outcomes_is ts ∙ ap attempts_words e)

-- an item of a list, whatever stands beyond its end
pub same_item : {X : Type 0} (xs : List X) (i : ℕ) (d e : X) → i < length xs → get_or xs i d ≡ get_or xs i e
same_item [] i d e h = absurd (omega (arith, h))
same_item (x ∷ xs) zero d e h = refl
same_item (x ∷ xs) (suc i) d e h = same_item xs i d e (omega (arith, h))
