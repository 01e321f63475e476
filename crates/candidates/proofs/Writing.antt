-- Pieces of a text, written to a buffer one after the other. Assumes nothing.
use Rattle.std.proofs.Common.{◌≡◌, ℕ, ◌+◌, ◌≤◌, List, ◌++◌, length, take, drop, Some, Option, Bool, true, leb, cond, sym, refl, ap, ◌∙◌, arith}
use Rattle.std.proofs.Math.Seq.{take-append_seam}
use Rattle.std.proofs.lemmas.List.{length-append, length-drop}
use Rattle.std.proofs.lemmas.Slice.{drop-append-drop}
use Rattle.std.proofs.lemmas.Bool.{cond-true, le-leb}
use Rattle.texts.specs.Texts.{Text, appended, buffer_with, fronted, length_in}

-- a text stands at the front of a buffer, with so many bytes; the bytes beyond are as at first
pub record Written (first : List ℕ) (s : Text) (n : ℕ) (out : List ℕ) : Type 0 where
  pub is : out ≡ fronted s first
  pub size : n ≡ length s

module _ (first : List ℕ) where
  pub begun : (s : Text) (n : ℕ) (out : List ℕ) → length s ≤ length first → Some n ≡ length_in (Some s) (length first) → out ≡ buffer_with (Some s) first → Written first s n out
  begun s n out h e w =
      let yes : leb (length s) (length first) ≡ true = le-leb (length s) (length first) h in
      let same : Some n ≡ Some (length s) = e ∙ cond-true _ _ _ yes in
      record { is = w ∙ cond-true _ _ _ yes; size = cc }

  module _ (s : Text) (n : ℕ) (out : List ℕ) (w : Written first s n out) where
    front : take n out ≡ s
    front = (λ k. take (w.size k) (w.is k)) ∙ take-append_seam s (drop (length s) first)

    as_long : length s ≤ length first → length out ≡ length first
    as_long h = ap length w.is ∙ omega (arith, h, length-append s (drop (length s) first), length-drop (length s) first)

    -- what stands there is that text
    pub written_so : out ≡ fronted (take n out) first
    written_so = w.is ∙ ap (λ (t : Text). fronted t first) (sym front)

    -- another piece goes behind it
    pub goes_on : (more : Text) (n₁ : ℕ) (out₁ : List ℕ) → length s + length more ≤ length first → Some n₁ ≡ length_in (appended n out more) (length out) → out₁ ≡ buffer_with (appended n out more) out → Written first (s ++ more) n₁ out₁
    goes_on more n₁ out₁ room e b =
        let long = as_long (omega (arith, room)) in
        let both = length-append s more in
        let size = w.size in
        let fits : leb (length (s ++ more)) (length out) ≡ true = le-leb (length (s ++ more)) (length out) (omega (arith, long, both, room)) in
        let within : leb n (length out) ≡ true = le-leb n (length out) (omega (arith, long, size, room)) in
        let piece : appended n out more ≡ Some (s ++ more) = cond-true _ _ _ within ∙ ap (λ (t : Text). Some (t ++ more)) front in
        let same : Some n₁ ≡ Some (length (s ++ more)) = e ∙ ap (λ (o : Option Text). length_in o (length out)) piece ∙ cond-true _ _ _ fits in
        record {
          is =
              b
              ∙ ap (λ (o : Option Text). buffer_with o out) piece
              ∙ cond-true _ _ _ fits
              ∙ ap (λ (o : List ℕ). (s ++ more) ++ drop (length (s ++ more)) o) w.is
              ∙ ap (λ (o : List ℕ). (s ++ more) ++ o) (drop-append-drop (length s) first s (length (s ++ more)) (omega (arith, both)) refl);
          size = cc;
        }
