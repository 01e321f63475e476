-- The first line of a sheet, and the lines behind it. Assumes nothing.
use Rattle.std.proofs.Common.{◌≡◌, ℕ, suc, ◌+◌, ◌-◌, ◌≤◌, ◌<◌, Bool, true, false, cond, eqb, [], ◌∷◌, ◌++◌, length, take, drop, sym, refl, ap, ◌∙◌, append_assoc, arith}
use Rattle.std.proofs.lemmas.List.{drop_at, length-append, length-drop, take-append-drop, take_min, length-take}
use Rattle.texts.specs.Texts.{Text, empty, until}
use Rattle.lines.specs.Sheets.{LINE_END, behind_line, line_of}
use Rattle.sheets.specs.Reading.{State, after_line, after_lines}
use Rattle.sheets.specs.SheetLines.{led_by, lines_of}

-- a line that goes on behind its first byte
led_apart : (b : ℕ) (t : Text) → (empty t ≡ false → lines_of t ≡ line_of t ∷ lines_of (behind_line t)) → led_by b (lines_of t) ≡ take (suc (until LINE_END t)) (b ∷ t) ∷ lines_of (drop (suc (until LINE_END t) + 1) (b ∷ t))
led_apart b [] h = refl
led_apart b (c ∷ t) h =
    let n : ℕ = until LINE_END (c ∷ t) in
    let one : suc n + 1 ≡ suc (n + 1) = omega arith in
    ap (led_by b) (h refl) ∙ ap (λ (k : ℕ). (b ∷ line_of (c ∷ t)) ∷ lines_of (drop k (b ∷ (c ∷ t)))) (sym one)

-- what is left of a sheet begins with a line
pub first_apart : (t : Text) → empty t ≡ false → lines_of t ≡ line_of t ∷ lines_of (behind_line t)
first_apart [] h = cc
first_apart (b ∷ s) h = at (eqb b LINE_END) (led_apart b s (first_apart s))
  where
    at : (v : Bool) → led_by b (lines_of s) ≡ take (suc (until LINE_END s)) (b ∷ s) ∷ lines_of (drop (suc (until LINE_END s) + 1) (b ∷ s))
        → cond v ([] ∷ lines_of s) (led_by b (lines_of s)) ≡ take (cond v 0 (suc (until LINE_END s))) (b ∷ s) ∷ lines_of (drop (cond v 0 (suc (until LINE_END s)) + 1) (b ∷ s))
    at true more = refl
    at false more = more

pub behind_shorter : (t : Text) → empty t ≡ false → length (behind_line t) < length t
behind_shorter [] h = cc
behind_shorter (b ∷ s) h = omega (arith, length-drop (until LINE_END (b ∷ s) + 1) (b ∷ s))

-- where the first line of what is left stands
pub line_there : (front t : Text) → line_of t ≡ take (length (line_of t)) (drop (length front) (front ++ t))
line_there front t =
    let n = until LINE_END t in
    sym (take_min n t) ∙ ap (λ (k : ℕ). take k t) (sym (length-take n t)) ∙ ap (take (length (line_of t))) (sym (drop_at front t (length front) refl))

-- what was read before, once a line more is
pub one_line_more : (front t : Text) → front ++ t ≡ (front ++ take (until LINE_END t + 1) t) ++ behind_line t
one_line_more front t =
    let n = until LINE_END t + 1 in
    ap (λ (x : Text). front ++ x) (sym (take-append-drop n t)) ∙ sym (append_assoc front (take n t) (drop n t))

-- where a line of a sheet begins, and what is left behind it
module _ (sheet front rest line behind : Text) (sheet_is : sheet ≡ front ++ rest) (line_is : line ≡ line_of rest) (behind_is : behind ≡ behind_line rest) where
  pub begins_at : length sheet - length rest ≡ length front
  begins_at = omega (arith, ap length sheet_is, length-append front rest)

  pub stands_there : line ≡ take (length line) (drop (length sheet - length rest) sheet)
  stands_there =
      line_is ∙ line_there front rest
      ∙ (λ i. take (length (line_of rest)) (drop (sym begins_at i) (sym sheet_is i)))
      ∙ ap (λ (l : Text). take (length l) (drop (length sheet - length rest) sheet)) (sym line_is)

  pub within : length sheet - length rest + length line ≤ length sheet
  within =
      let n = until LINE_END rest in
      omega (arith, begins_at, ap length sheet_is, length-append front rest, ap length line_is, length-take n rest)

  pub line_left : sheet ≡ (front ++ take (until LINE_END rest + 1) rest) ++ behind
  line_left = sheet_is ∙ one_line_more front rest ∙ ap (λ (t : Text). (front ++ take (until LINE_END rest + 1) rest) ++ t) (sym behind_is)

  -- the lines that are left are read on from there
  pub reads_on : (s t : State) → empty rest ≡ false → t ≡ after_line s line → after_lines t (lines_of behind) ≡ after_lines s (lines_of rest)
  reads_on s t more then =
      ap (λ (x : State). after_lines x (lines_of behind)) then
      ∙ (λ i. after_lines (after_line s (line_is i)) (lines_of (behind_is i)))
      ∙ ap (after_lines s) (sym (first_apart rest more))
