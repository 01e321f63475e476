-- The items of a stack, by the slots that hold them. Assumes nothing.
use Rattle.std.proofs.Common.{◌≡◌, ℕ, zero, suc, ◌+◌, ◌<◌, ◌≤◌, List, [], ◌∷◌, ◌++◌, length, get_or, take, set, Some, None, sym, refl, ap, ◌∙◌, arith}
use Rattle.std.proofs.lemmas.List.{length-take-le, take-take, get_or-take, take_more_set, take_all}
use Rattle.stack.specs.declared.lifo.Stack.{Stack}
use Rattle.stack.specs.Items.{items, capacity, item_at}

pub length_items : {T : Type 0} (s : Stack T) → length (items s) ≡ s.len
length_items s = length-take-le _ _ s.sound

-- the item at a place, as a list tells it
pub item_at_is : {X : Type 0} (xs : List X) (i : ℕ) (d : X) → i < length xs → item_at xs i ≡ Some (get_or xs i d)
item_at_is [] i d h = absurd (omega arith)
item_at_is (x ∷ xs) zero d h = refl
item_at_is (x ∷ xs) (suc i) d h = item_at_is xs i d (omega arith)

pub item_at_beyond : {X : Type 0} (xs : List X) (i : ℕ) → length xs ≤ i → item_at xs i ≡ None
item_at_beyond [] i h = refl
item_at_beyond (x ∷ xs) zero h = absurd (omega arith)
item_at_beyond (x ∷ xs) (suc i) h = item_at_beyond xs i (omega arith)

module _ {T : Type 0} (s : Stack T) where
  -- a slot below the top holds the item at its place
  pub slot_is : (d : T) (i n : ℕ) → i < s.len → n ≡ i → Some (get_or s.slots.now i d) ≡ item_at (items s) n
  slot_is d i n h same =
      ap Some (sym (get_or-take s.len s.slots.now i d h))
      ∙ sym (item_at_is (items s) i d (omega (arith, length_items s)))
      ∙ ap (item_at (items s)) (sym same)

  -- fewer items, in the same slots
  pub fewer : (n m : ℕ) → m ≤ s.len → n ≡ m → take m s.slots.now ≡ take n (items s)
  fewer n m h e = sym (take-take m s.len s.slots.now h) ∙ ap (λ k. take k (items s)) (sym e)

  pub no_fewer : (n : ℕ) → s.len ≤ n → items s ≡ take n (items s)
  no_fewer n h = sym (take_all n (items s) (omega (arith, length_items s)))

  pub one_more : (x : T) → s.len < capacity s → take (s.len + 1) (set s.slots.now s.len x) ≡ items s ++ x ∷ []
  one_more x h = take_more_set s.slots.now s.len x h
