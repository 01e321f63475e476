-- One part after another joined to a text of at most 255 bytes. Assumes nothing.
use Rattle.std.proofs.Common.{◌≡◌, ℕ, ◌+◌, ◌<◌, ◌≤◌, max, Bool, false, cond, leb, List, [], ◌∷◌, ◌++◌, length, Some, None, sym, ap, ◌∙◌, arith}
use Rattle.std.proofs.lemmas.Bool.{cond-false, cond-true, le-leb, leb-false, lt-leb}
use Rattle.std.proofs.lemmas.Bool.Decides.{nat_tests}
use Rattle.texts.specs.Texts.{Text}
use Rattle.texts.specs.Parts.{Mark, texts_of}
use Rattle.texts.specs.Walks.{first_text, but_first}
use Rattle.paths.specs.Joins.{grown, walked, peak, walked_within}
use Rattle.texts.proofs.PartLoops.{some≢none}

pub peak_low : (a : Text) (ps : List Text) → length a ≤ peak a ps
unfolding peak
peak_low a [] = omega arith
peak_low a (p ∷ ps) = omega arith

module _ (a p : Text) (ps : List Text) (short : length a ≤ 255) where
  pub step_fits : length (grown a p) ≤ 255 → walked_within a (p ∷ ps) ≡ walked_within (grown a p) ps
  unfolding walked peak
  step_fits h = ap (λ (v : Bool). cond v (Some (walked (grown a p) ps)) None) (same (length a) (peak (grown a p) ps) short)
    where
      same : (m n : ℕ) → m ≤ 255 → leb (max m n) 255 ≡ leb n 255
      same m n h = grind (arith, nat_tests)

  pub step_fails : 255 < length (grown a p) → walked_within a (p ∷ ps) ≡ None
  unfolding walked peak
  step_fails h = cond-false _ _ _ (lt-leb (max (length a) (peak (grown a p) ps)) 255 (omega (arith, peak_low (grown a p) ps)))

pub walk_too_long : (a : Text) (ps : List Text) → 255 < length a → walked_within a ps ≡ None
walk_too_long a ps h = cond-false _ _ _ (lt-leb (peak a ps) 255 (omega (arith, peak_low a ps)))

pub walk_done : (a : Text) → length a ≤ 255 → walked_within a [] ≡ Some a
unfolding walked peak
walk_done a h = cond-true _ _ _ (le-leb _ 255 h)

-- the parts that are left, by the first of them
marks_step : (ms : List Mark) (p : Text) → Some p ≡ first_text ms → texts_of ms ≡ p ∷ texts_of (but_first ms)
marks_step [] p e = absurd (some≢none e)
marks_step (m ∷ ms) p e = let same : m.0 ≡ p = cc in ap (λ (q : Text). q ∷ texts_of ms) same

module _ (a : Text) (ms : List Mark) (p : Text) (short : length a ≤ 255) (first : Some p ≡ first_text ms) where
  pub walk_on : length (grown a p) ≤ 255 → walked_within (grown a p) (texts_of (but_first ms)) ≡ walked_within a (texts_of ms)
  walk_on fits = sym (step_fits a p (texts_of (but_first ms)) short fits) ∙ ap (walked_within a) (sym (marks_step ms p first))

  pub walk_stops : 255 < length (grown a p) → None ≡ walked_within a (texts_of ms)
  walk_stops long = sym (ap (walked_within a) (marks_step ms p first) ∙ step_fails a p (texts_of (but_first ms)) short long)

-- a text put behind another that has no byte
abbrev pub pushed : Text → Text → Text
pushed t s = t ++ s

room_is : (t s : Text) → t ≡ [] → leb (length t + length s) 255 ≡ leb (length s) 255
room_is t s e = let same : length t + length s ≡ length s = omega (arith, ap length e) in ap (λ (n : ℕ). leb n 255) same

pub refused_is : (t s : Text) → t ≡ [] → false ≡ leb (length t + length s) 255 → 255 < length s
refused_is t s e room = leb-false (length s) 255 (sym (room ∙ room_is t s e))
