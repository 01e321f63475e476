-- The rows of two texts side by side, one after the other. Assumes nothing.
use Rattle.std.proofs.Common.{◌≡◌, ℕ, zero, suc, ◌≤◌, Bool, true, false, List, [], ◌∷◌, bytes_eq, length, refl, ap, sym, ◌∙◌, ◌==◌, arith}
use Rattle.std.proofs.lemmas.Bool.{cond-true}
use Rattle.std.proofs.lemmas.Bool.Decides.{nat_tests}
use Rattle.texts.specs.Texts.{Text, empty}
use Rattle.lines.specs.Sheets.{behind_line, line_of}
use Rattle.sheets.proofs.LineSteps.{behind_shorter}
use Rattle.replay.specs.Verdicts.{same_rows}

-- a text is empty if its length is 0
pub empty_by_length : (t : Text) (b : Bool) → b ≡ (length t == 0) → empty t ≡ b
empty_by_length [] b h = sym h
empty_by_length (x ∷ t) b h = let no : (length (x ∷ t) == 0) ≡ false = grind (arith, nat_tests) in sym no ∙ sym h

empty_at_0 : (t : Text) → length t ≤ 0 → empty t ≡ true
empty_at_0 [] h = refl
empty_at_0 (b ∷ t) h = absurd (omega arith)

-- there are no more rows than bytes
as_many : (n k : ℕ) (ours theirs : Text) → length theirs ≤ n → length theirs ≤ k → same_rows n ours theirs ≡ same_rows k ours theirs
unfolding same_rows
as_many zero zero ours theirs h i = refl
as_many zero (suc k) ours theirs h i = sym (cond-true _ _ _ (empty_at_0 theirs h))
as_many (suc n) zero ours theirs h i = cond-true _ _ _ (empty_at_0 theirs i)
as_many (suc n) (suc k) ours [] h i = refl
as_many (suc n) (suc k) ours (b ∷ theirs) h i =
    let less = behind_shorter (b ∷ theirs) refl in
    ap (λ (rows : List Bool). bytes_eq (line_of ours) (line_of (b ∷ theirs)) ∷ rows) (as_many n k (behind_line ours) (behind_line (b ∷ theirs)) (omega arith) (omega arith))

-- no stored row is left
pub no_row_left : (ours theirs : Text) → empty theirs ≡ true → same_rows (length theirs) ours theirs ≡ []
unfolding same_rows
no_row_left ours [] h = refl
no_row_left ours (b ∷ theirs) h = cond-true _ _ _ h

-- the first row of both texts, and then the rows behind it
pub one_row : (ours theirs : Text) → empty theirs ≡ false
    → same_rows (length theirs) ours theirs ≡ bytes_eq (line_of ours) (line_of theirs) ∷ same_rows (length (behind_line theirs)) (behind_line ours) (behind_line theirs)
unfolding same_rows
one_row ours [] h = absurd (let z : ◌≡◌ {A = ℕ} 0 1 = cc in omega arith)
one_row ours (b ∷ theirs) h =
    let less = behind_shorter (b ∷ theirs) refl in
    ap (λ (rows : List Bool). bytes_eq (line_of ours) (line_of (b ∷ theirs)) ∷ rows) (as_many (length theirs) (length (behind_line (b ∷ theirs))) (behind_line ours) (behind_line (b ∷ theirs)) (omega arith) (omega arith))
