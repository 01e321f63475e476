-- Candidates by their places. Assumes nothing.
use Rattle.std.proofs.Common.{◌≡◌, ℕ, zero, suc, ◌+◌, ◌<◌, ◌≤◌, List, [], ◌∷◌, ◌++◌, length, drop, Some, None, sym, refl, ap, ◌∙◌, arith}
use Rattle.stack.specs.Items.{item_at}
use Rattle.stack.proofs.Laws.{item_at_beyond}
use Rattle.texts.specs.Texts.{Text, SLASH}
use Rattle.candidates.specs.Candidates.{extended, formed, indexed}

-- the item at a place of two lists, one behind the other
pub item_in_front : {X : Type 0} (xs ys : List X) (i : ℕ) → i < length xs → item_at (xs ++ ys) i ≡ item_at xs i
item_in_front [] ys i h = absurd (omega arith)
item_in_front (x ∷ xs) ys zero h = refl
item_in_front (x ∷ xs) ys (suc i) h = item_in_front xs ys i (omega arith)

pub item_behind : {X : Type 0} (xs ys : List X) (i n : ℕ) → i ≡ length xs + n → item_at (xs ++ ys) i ≡ item_at ys n
item_behind [] ys i n e = let same : i ≡ n = omega arith in ap (item_at ys) same
item_behind (x ∷ xs) ys zero n e = absurd (omega arith)
item_behind (x ∷ xs) ys (suc i) n e = item_behind xs ys i n (omega arith)

-- as many as extensions
pub length_extended : (p : Text) (es : List Text) → length (extended p es) ≡ length es
length_extended p [] = refl
length_extended p (e ∷ es) = ap suc (length_extended p es)

pub extended_at : (p : Text) (es more : List Text) (i : ℕ) (e : Text) → drop i es ≡ e ∷ more → item_at (extended p es) i ≡ Some (formed (p ++ e))
extended_at p [] more zero e h = absurd (let f : [] ≡ e ∷ more = h in cc)
extended_at p [] more (suc i) e h = absurd (let f : [] ≡ e ∷ more = h in cc)
extended_at p (x ∷ es) more zero e h = let same : x ≡ e = cc in ap (λ (t : Text). Some (formed (p ++ t))) same
extended_at p (x ∷ es) more (suc i) e h = extended_at p es more i e h

pub extended_beyond : (p : Text) (es : List Text) (i : ℕ) → length es ≤ i → item_at (extended p es) i ≡ None
extended_beyond p es i h = item_at_beyond (extended p es) i (omega (arith, length_extended p es))

-- main files, one after the other
module _ (p : Text) (es ms more : List Text) (m : Text) (step : ms ≡ m ∷ more) where
  pub indexed_here : (i : ℕ) → i < length es → item_at (indexed p es ms) i ≡ item_at (extended (p ++ (SLASH ∷ m)) es) i
  indexed_here i h =
      ap (λ (ns : List Text). item_at (indexed p es ns) i) step
      ∙ item_in_front (extended (p ++ (SLASH ∷ m)) es) (indexed p es more) i (omega (arith, length_extended (p ++ (SLASH ∷ m)) es))

  pub indexed_later : (i n : ℕ) → i ≡ length es + n → item_at (indexed p es ms) i ≡ item_at (indexed p es more) n
  indexed_later i n h =
      ap (λ (ns : List Text). item_at (indexed p es ns) i) step
      ∙ item_behind (extended (p ++ (SLASH ∷ m)) es) (indexed p es more) i n (omega (arith, length_extended (p ++ (SLASH ∷ m)) es))

-- what is left of a list from a place on, by the item there
pub dropped_some : {X : Type 0} (xs : List X) (i : ℕ) (x : X) → Some x ≡ item_at xs i → drop i xs ≡ x ∷ drop (i + 1) xs
dropped_some [] i x e = absurd (let h : Some x ≡ None = e in cc)
dropped_some (y ∷ ys) zero x e = let same : x ≡ y = cc in ap (λ z. z ∷ ys) (sym same)
dropped_some (y ∷ ys) (suc i) x e =
    let later : suc (i + 1) ≡ suc i + 1 = omega arith in
    dropped_some ys i x e ∙ ap (λ (n : ℕ). x ∷ drop n (y ∷ ys)) later

pub dropped_none : {X : Type 0} (xs : List X) (i : ℕ) → None ≡ item_at xs i → drop i xs ≡ []
dropped_none [] zero e = refl
dropped_none [] (suc i) e = refl
dropped_none (y ∷ ys) zero e = absurd (let h : None ≡ Some y = e in cc)
dropped_none (y ∷ ys) (suc i) e = dropped_none ys i e
