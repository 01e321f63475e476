-- One line taken off a text. Assumes nothing.
use Rattle.std.proofs.Common.{◌≡◌, ℕ, zero, suc, ◌+◌, ◌-◌, ◌<◌, ◌≤◌, true, false, Some, None, length, drop, nat_lt, refl, ap, sym, ◌∙◌, min, arith}
use Rattle.std.proofs.lemmas.Bool.{cond-false, cond-true}
use Rattle.std.proofs.lemmas.Bool.Decides.{nat_tests}
use Rattle.std.proofs.lemmas.List.{length-drop, length-take, drop-drop}
use Rattle.texts.specs.Texts.{Text, until}
use Rattle.lines.specs.Sheets.{LINE_END, behind_line, line_of}
use Rattle.replay.specs.Lists.{IsEnd, behind_lines}

-- no line end is left
pub no_line_end : (m : ℕ) (t : Text) → 0 < m → length (line_of t) ≡ length t → behind_lines m t ≡ None
unfolding behind_lines
no_line_end zero t some all = absurd (omega arith)
no_line_end (suc n) t some all =
    let short : nat_lt (until LINE_END t) (length t) ≡ false =
    let e : min (until LINE_END t) (length t) ≡ length t = sym (length-take (until LINE_END t) t) ∙ all in grind (arith, nat_tests) in
    cond-false _ _ _ short

-- a line that is not all of a text ends
ends_inside : (t : Text) → (length (line_of t) ≡ length t → ⊥) → until LINE_END t < length t
ends_inside t ends =
    let e : length (line_of t) ≡ min (until LINE_END t) (length t) = length-take (until LINE_END t) t in
    grind arith

-- a line that ends is taken off
pub one_line : (m : ℕ) (t : Text) → 0 < m → (length (line_of t) ≡ length t → ⊥) → behind_lines m t ≡ behind_lines (m - 1) (behind_line t)
unfolding behind_lines
one_line zero t some ends = absurd (omega arith)
one_line (suc n) t some ends =
    let h : until LINE_END t < length t = ends_inside t ends in
    let more : nat_lt (until LINE_END t) (length t) ≡ true = grind (arith, nat_tests) in
    let same : n ≡ suc n - 1 = omega arith in
    cond-true _ _ _ more ∙ ap (λ (k : ℕ). behind_lines k (behind_line t)) same

-- what stands behind the first line of an end is an end
pub end_behind : (left t : Text) → IsEnd left t → (length (line_of left) ≡ length left → ⊥) → IsEnd (behind_line left) t
end_behind left t h ends =
    let u = until LINE_END left + 1 in
    let k = length t - length left in
    let inside : until LINE_END left < length left = ends_inside left ends in
    let size : length (behind_line left) ≡ length left - u = length-drop u left in
    let low : length left ≤ length t = h.no_longer in
    let at : length t - length (behind_line left) ≡ k + u = omega arith in
    record {
      no_longer = omega arith;
      end = ap (λ (n : ℕ). drop n t) at ∙ sym (drop-drop u k t) ∙ ap (drop u) h.end;
    }

-- behind no line stands all
pub none_left : (t : Text) → behind_lines 0 t ≡ Some t
unfolding behind_lines
none_left t = refl
