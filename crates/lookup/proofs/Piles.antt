-- A table of open calls when its top is taken off. Assumes nothing.
use Rattle.std.proofs.Common.{◌≡◌, ℕ, zero, suc, ◌+◌, ◌-◌, ◌<◌, ◌≤◌, List, [], ◌∷◌, ◌++◌, length, take, drop, reverse, Some, None, sym, refl, ap, ◌∙◌, arith}
use Rattle.std.proofs.lemmas.List.{drop_all, reverse-append, take-append-drop}
use Rattle.stack.specs.Items.{item_at}
use Rattle.candidates.proofs.Mains.{item_within}
use Rattle.candidates.proofs.Placing.{dropped_some}

module _ {X : Type 0} (xs : List X) where
  pub top_off : (x : X) (ys : List X) → Some x ≡ item_at xs (length xs - 1) → ys ≡ take (length xs - 1) xs → reverse xs ≡ x ∷ reverse ys
  top_off x ys top rest =
      let n = length xs - 1 in
      let within : n < length xs = item_within xs n x top in
      let last : drop n xs ≡ x ∷ [] = dropped_some xs n x top ∙ ap (λ zs. x ∷ zs) (drop_all (n + 1) xs (omega (arith, within))) in
      ap reverse (sym (take-append-drop n xs) ∙ (λ k. sym rest k ++ last k)) ∙ reverse-append ys (x ∷ [])

-- beyond the last item there is none, and only there
none_beyond : {X : Type 0} (xs : List X) (i : ℕ) → None ≡ item_at xs i → length xs ≤ i
none_beyond [] i h = omega arith
none_beyond (x ∷ xs) zero h = absurd (let f : None ≡ Some x = h in cc)
none_beyond (x ∷ xs) (suc i) h = omega (arith, none_beyond xs i h)

pub none_on_top : {X : Type 0} (xs : List X) → None ≡ item_at xs (length xs - 1) → reverse xs ≡ []
none_on_top [] h = refl
none_on_top (x ∷ xs) h = absurd (omega (arith, none_beyond (x ∷ xs) (length (x ∷ xs) - 1) h))
