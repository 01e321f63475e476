-- The first n slots of an array, each by what it means. Assumes nothing.
use Rattle.std.proofs.Common.{◌≡◌, ℕ, suc, ◌+◌, ◌-◌, ◌<◌, ◌≤◌, List, [], ◌∷◌, ◌++◌, map, length, get_or, take, drop, set, sym, ap, ◌∙◌, add-one, append_assoc, arith, length-take}
use lib.Seq.{take-set-lt}
use Rattle.std.proofs.Math.Seq.{take-append-add}
use Rattle.std.proofs.lemmas.List.{drop-drop, drop-map, drop-take, drop_more, length-append, length-drop, take-take, take_at, get_or-map, get_or-take, length-map, length-take-le, map_push, map-set, take_more_set}
use Rattle.stack.specs.declared.array_vec.ArrayVec.{ArrayVec}
use Rattle.stack.specs.Held.{held}

module _ {X Y : Type 0} (f : X → Y) (xs : List X) (n : ℕ) where
  -- there are n of them
  pub slots_count : n ≤ length xs → length (map f (take n xs)) ≡ n
  slots_count h = length-map (take n xs) f ∙ length-take-le n xs h

  -- one slot more
  pub slot_put : (x : X) → n < length xs → map f (take (n + 1) (set xs n x)) ≡ map f (take n xs) ++ f x ∷ []
  slot_put x h = ap (map f) (take_more_set xs n x h) ∙ map_push f (take n xs) x

  -- one of them changed
  pub slot_changed : (i : ℕ) (x : X) → i < n → map f (take n (set xs i x)) ≡ set (map f (take n xs)) i (f x)
  slot_changed i x h = ap (map f) (take-set-lt n xs i x h) ∙ map-set f (take n xs) i x

  -- the one at i
  pub slot_at : (i : ℕ) (d : X) (e : Y) → i < n → n ≤ length xs → get_or (map f (take n xs)) i e ≡ f (get_or xs i d)
  slot_at i d e h k = get_or-map f (take n xs) i d e (omega (arith, length-take-le n xs k)) ∙ ap f (get_or-take n xs i d h)

-- the item at i of a list, by what it means, and those behind it
pub mapped_from : {X Y : Type 0} (f : X → Y) (xs : List X) (i : ℕ) (x : X) → i < length xs → x ≡ get_or xs i x → drop i (map f xs) ≡ f x ∷ drop (i + 1) (map f xs)
mapped_from f xs i x inside is =
    drop-map f i xs
    ∙ ap (map f) (drop_more xs i x inside)
    ∙ (λ k. f (sym is k) ∷ sym (drop-map f (i + 1) xs) k)

-- the slots up to the one at i turned by one, so that it is the first of n
pub moved_first : {X : Type 0} (xs ys : List X) (x : X) (n i : ℕ) → i < n → n ≤ length xs → x ≡ get_or xs i x → ys ≡ drop (length (take (i + 1 - 0) xs) - 1) (take (i + 1 - 0) xs) ++ take (length (take (i + 1 - 0) xs) - 1) (take (i + 1 - 0) xs) → take n (ys ++ drop (i + 1 - 0) xs) ≡ x ∷ (take i (take n xs) ++ drop (suc i) (take n xs))
moved_first xs ys x n i low high item is =
    let m : ℕ = n - suc i in
    let whole : i + 1 - 0 ≡ i + 1 = omega arith in
    let long : length (take (i + 1 - 0) xs) - 1 ≡ i = omega (arith, length-take-le (i + 1 - 0) xs (omega arith)) in
    let last : drop i (take (i + 1) xs) ≡ x ∷ [] = drop-take i 1 xs ∙ ap (take 1) (drop_more xs i x (omega arith)) ∙ (λ k. sym item k ∷ []) in
    let turned : ys ≡ x ∷ take i xs =
    is ∙ (λ k. drop (long k) (take (whole k) xs) ++ take (long k) (take (whole k) xs)) ∙ (λ k. last k ++ take-take i (i + 1) xs (omega arith) k) in
    let count : n ≡ suc (length (take i xs) + m) = omega (arith, length-take-le i xs (omega arith)) in
    let split : suc i + m ≡ n = omega arith in
    let behind : take m (drop (i + 1) xs) ≡ drop (suc i) (take n xs) = ap (λ (k : ℕ). take m (drop k xs)) (add-one i) ∙ sym (drop-take (suc i) m xs) ∙ ap (λ (k : ℕ). drop (suc i) (take k xs)) split in
    (λ k. take n (turned k ++ drop (whole k) xs))
    ∙ ap (λ (k : ℕ). take k (x ∷ (take i xs ++ drop (i + 1) xs))) count
    ∙ ap (λ (zs : List _). x ∷ zs) (take-append-add (take i xs) (drop (i + 1) xs) m)
    ∙ (λ k. x ∷ (sym (take-take i n xs (omega arith)) k ++ behind k))

-- a list has at most as many items as it has slots
pub held_within : {T : Type 0} {N : ℕ} (v : ArrayVec T N) → length (held v) ≤ N
held_within v = omega (arith, length-take v.len v.slots, v.within)
