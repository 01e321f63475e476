-- The order of the slots: how often a slot stands in it, before and after another is taken to the front. Assumes nothing.
use Rattle.std.proofs.Common.{◌≡◌, ◌≢◌, ℕ, zero, suc, ◌+◌, ◌<◌, ◌≤◌, Bool, true, false, cond, eqb, ltb, List, [], ◌∷◌, map, length, get_or, Some, None, Option, MatchOption, sym, refl, ap, ◌∙◌, subst, arith}
use Rattle.std.specs.List.{count_by, remove}
use Rattle.std.specs.Option.{IsSome}
use Rattle.std.proofs.lemmas.Bool.{eq-eqb}
use Rattle.std.proofs.lemmas.Bool.Decides.{nat_tests}
use Rattle.std.proofs.lemmas.List.Sums.{sum_by-cons}
use Rattle.stack.specs.Items.{item_at}
use Rattle.stack.proofs.Laws.{item_at_is}

abbrev pub times : ℕ → List ℕ → ℕ
times j is = count_by (λ i. eqb i j) is

at_most_one : (b : Bool) → cond b 1 0 ≤ 1
at_most_one true = omega arith
at_most_one false = omega arith

one_more : (j i : ℕ) (is : List ℕ) → times j (i ∷ is) ≡ cond (eqb i j) 1 0 + times j is
one_more j i is = sum_by-cons (λ x. cond (eqb x j) 1 0) i is

-- the first slot stands there
pub first_stands : (i : ℕ) (is : List ℕ) → times i (i ∷ is) ≡ suc (times i is)
first_stands i is =
    let is_one : Bool → Type 0 = λ b. 1 ≤ cond b 1 0 in
    let here : 1 ≤ cond (eqb i i) 1 0 = subst is_one (sym (eq-eqb i i refl)) (omega arith) in
    omega (arith, one_more i i is, here, at_most_one (eqb i i))

-- slots that mean the same two times
module _ {Y : Type 0} (f g : ℕ → Y) where
  pub same_each : (is : List ℕ) → ((j : ℕ) → 0 < times j is → f j ≡ g j) → map f is ≡ map g is
  same_each [] h = refl
  same_each (i ∷ is) h =
      let first : f i ≡ g i = h i (omega (arith, first_stands i is)) in
      (λ k. first k ∷ same_each is (λ j low. h j (omega (arith, one_more j i is, low))) k)

-- a slot that is taken to the front stands there as often as before
pub taken_first : (is : List ℕ) (k x j : ℕ) → Some x ≡ item_at is k → times j (x ∷ remove is k) ≡ times j is
taken_first [] k x j h = cc
taken_first (i ∷ is) zero x j h = let e : x ≡ i = cc in ap (λ y. times j (y ∷ is)) e
taken_first (i ∷ is) (suc k) x j h =
    omega (arith, taken_first is k x j h, one_more j x (remove is k), one_more j i (remove is k), one_more j x (i ∷ remove is k), one_more j i is)

pub as_long : (is : List ℕ) (k x : ℕ) → Some x ≡ item_at is k → length (x ∷ remove is k) ≡ length is
as_long [] k x h = cc
as_long (i ∷ is) zero x h = refl
as_long (i ∷ is) (suc k) x h = ap suc (as_long is k x h)

-- what is at a place is there, and after it was taken to the front each slot stands as often as before
pub is_there : (is : List ℕ) (k : ℕ) → k < length is → IsSome (item_at is k)
is_there [] k h = absurd (omega arith)
is_there (i ∷ is) zero h = refl
is_there (i ∷ is) (suc k) h = is_there is k (omega arith)

module _ (is js : List ℕ) (k : ℕ) (r : Option ℕ) (at : r ≡ item_at is k) (after : MatchOption r (js ≡ is) (λ x. js ≡ x ∷ remove is k)) where
  pub moved : (x : ℕ) → r ≡ Some x → (Some x ≡ item_at is k) × (js ≡ x ∷ remove is k)
  moved x some = (sym some ∙ at, subst (λ (o : Option ℕ). MatchOption o (js ≡ is) (λ y. js ≡ y ∷ remove is k)) some after)

  pub times_kept : (j : ℕ) → times j js ≡ times j is
  times_kept j = by_case r at after
    where
      by_case : (o : Option ℕ) → o ≡ item_at is k → MatchOption o (js ≡ is) (λ x. js ≡ x ∷ remove is k) → times j js ≡ times j is
      by_case None h then = ap (times j) then
      by_case (Some x) h then = ap (times j) then ∙ taken_first is k x j h

  pub length_kept : length js ≡ length is
  length_kept = by_case r at after
    where
      by_case : (o : Option ℕ) → o ≡ item_at is k → MatchOption o (js ≡ is) (λ x. js ≡ x ∷ remove is k) → length js ≡ length is
      by_case None h then = ap length then
      by_case (Some x) h then = ap length then ∙ as_long is k x h

-- where each of n slots stands once and no other does
module _ (n : ℕ) (is : List ℕ) (once : (i : ℕ) → times i is ≡ cond (ltb i n) 1 0) where
  -- one that stands there is one of them
  pub is_below : (j : ℕ) → 0 < times j is → j < n
  is_below j low = let h : times j is ≡ cond (ltb j n) 1 0 = once j in grind (arith, nat_tests)

  pub item_below : (k x : ℕ) → Some x ≡ item_at is k → x < n
  item_below k x there = is_below x (omega (arith, taken_first is k x x there, first_stands x (remove is k)))

  pub place_below : (k x : ℕ) → k < length is → x ≡ get_or is k x → x < n
  place_below k x low there = item_below k x (ap Some there ∙ sym (item_at_is is k x low))

  -- and stands nowhere else
  pub no_more : (k x j : ℕ) → Some x ≡ item_at is k → 0 < times j (remove is k) → j ≢ x
  no_more k x j there low same =
      let few : times x is ≤ 1 = omega (arith, once x, at_most_one (ltb x n)) in
      let again : 0 < times x (remove is k) = subst (λ i. 0 < times i (remove is k)) same low in
      absurd (omega (arith, taken_first is k x x there, first_stands x (remove is k)))

  -- one slot more
  pub once_more : (m : ℕ) → m ≡ n + 1 → (i : ℕ) → times i (n ∷ is) ≡ cond (ltb i m) 1 0
  once_more m one i = let h : times i is ≡ cond (ltb i n) 1 0 = once i in let m = one_more i n is in grind (arith, nat_tests)
