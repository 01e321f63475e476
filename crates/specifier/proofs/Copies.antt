-- A text without its escapes, and a copy of it on its way. Assumes nothing.
use Rattle.std.proofs.Common.{◌≡◌, ℕ, suc, ◌+◌, ◌<◌, ◌≤◌, Bool, true, false, cond, List, [], ◌∷◌, ◌++◌, length, take, drop, set, sym, ap, ◌∙◌, subst, append_assoc, arith}
use Rattle.std.proofs.lemmas.List.{take_more_set, length-append, length-take, length-set, drop-set-lt, drop-drop}
use Rattle.specifier.specs.Requests.{escapes, unescaped}
use Rattle.texts.specs.Texts.{Text}

-- it is no longer than the text
pub unescaped_le : (s : Text) → length (unescaped s) ≤ length s
unescaped_le [] = omega arith
unescaped_le (b ∷ s) =
    let more : length (unescaped s) ≤ length s = unescaped_le s in
    elim (escapes (b ∷ s)) as (λ (v : Bool). length (cond v (unescaped s) (b ∷ unescaped s)) ≤ suc (length s)) [ true ↦ omega arith | false ↦ omega arith ]

-- a copy on its way: the first n bytes of out and what is still to come give all, and the rest of out is as it was
pub record Copied (out was : List ℕ) (n : ℕ) (left all : List ℕ) : Type 0 where
  pub room : n ≤ length out
  pub front : take n out ++ left ≡ all
  pub rest : drop n out ≡ drop n was

-- one byte more, at its place
pub copied_more : {out was left next all : List ℕ} {n i m b : ℕ}
    → length all ≤ length out → left ≡ b ∷ next → i ≡ n → m ≡ n + 1 → Copied out was n left all → Copied (set out i b) was m next all
copied_more {out} {was} {left} {next} {all} {n} {i} {m} {b} h one at more c =
    let front : take n out ++ b ∷ next ≡ all = ap (λ (l : List ℕ). take n out ++ l) (sym one) ∙ c.front in
    let within : n < length out = omega (arith, simp (length-append, length-take) at (ap length front)) in
    let next_one : Copied (set out n b) was (n + 1) next all = record {
      room = simp length-set (omega arith);
      front = ap (λ (l : List ℕ). l ++ next) (take_more_set out n b within) ∙ append_assoc (take n out) (b ∷ []) next ∙ front;
      rest = drop-set-lt (n + 1) out n b (omega arith) ∙ sym (drop-drop 1 n out) ∙ ap (drop 1) c.rest ∙ drop-drop 1 n was;
    } in
    subst (λ (k : ℕ). Copied (set out k b) was m next all) (sym at) (subst (λ (k : ℕ). Copied (set out n b) was k next all) (sym more) next_one)
