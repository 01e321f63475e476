-- One line more, and where filling stops. Assumes nothing.
use Rattle.std.proofs.Common.{◌≡◌, ℕ, zero, suc, ◌≤◌, Bool, true, false, cond, ◌||◌, length, refl, ◌∙◌, arith}
use Rattle.std.proofs.lemmas.Bool.{cond-false}
use Rattle.texts.specs.Texts.{empty}
use Rattle.lines.specs.Sheets.{behind_line, line_of}
use Rattle.sheets.proofs.LineSteps.{behind_shorter}
use Rattle.explain.specs.Filling.{Front, after_line, asks, filled}

-- nothing is left, or the next line asks
pub stops_here : (n : ℕ) (s : Front) → (empty s.rest || asks (line_of s.rest)) ≡ true → filled n s ≡ s
stops_here zero s h = refl
stops_here (suc n) s h = at (empty s.rest) (asks (line_of s.rest)) _ h
  where
    at : (e a : Bool) (t : Front) → (e || a) ≡ true → cond e s (cond a s t) ≡ s
    at true a t h = refl
    at false true t h = refl
    at false false t h = cc

-- a line is taken or refused
pub takes_a_line : (n : ℕ) (s : Front) → empty s.rest ≡ false → asks (line_of s.rest) ≡ false → length s.rest ≤ n
    → (k : ℕ) × (length (behind_line s.rest) ≤ k) × (filled n s ≡ filled k (after_line s (line_of s.rest)))
takes_a_line zero s more silent fits = absurd (omega (arith, behind_shorter s.rest more))
takes_a_line (suc n) s more silent fits = (n, omega (arith, behind_shorter s.rest more), cond-false _ _ _ more ∙ cond-false _ _ _ silent)
