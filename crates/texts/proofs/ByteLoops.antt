-- What a loop over the bytes of a text keeps. Assumes nothing.
use Rattle.std.proofs.Common.{◌≡◌, ℕ, zero, suc, ◌+◌, ◌-◌, ◌<◌, ◌≤◌, min, Bool, true, false, cond, not, ◌&&◌, eqb, ltb, List, [], ◌∷◌, ◌++◌, length, get_or, take, drop, is_some, Some, None, Option, sym, refl, ap, ◌∙◌, arith, rules}
use Rattle.std.proofs.lemmas.List.{places, same_lists, take_more}
use Rattle.std.proofs.lemmas.Bool.{and_left, cond-false, ne_eqb, le-ltb, lt-ltb, ltb-false, not-false, not-true}
use Rattle.std.proofs.lemmas.Bool.Decides.{nat_tests}
use Rattle.std.proofs.lemmas.List.Recursion.{is_position_or_len}
use Rattle.std.proofs.lemmas.Iterator.Adapters.{position_from-zero}
use Rattle.std.specs.List.{list_all, position_from, position_or_len}
use Rattle.std.specs.Option.{unwrap_or}
use Rattle.texts.specs.Texts.{Text, SLASH, empty, ends, has, unslashed, until}

-- a place that is found is below the length, and the length stands for none
pub found_or_all : (n len : ℕ) (r : Option ℕ) → n ≤ len → r ≡ cond (ltb n len) (Some n) None → unwrap_or r len ≡ n
found_or_all n len r low is = ap (λ (o : Option ℕ). unwrap_or o len) is ∙ at (ltb n len) refl
  where
    at : (v : Bool) → ltb n len ≡ v → unwrap_or (cond v (Some n) None) len ≡ n
    at true e = refl
    at false e = omega (arith, ltb-false n len e)

-- every byte passes, if none is found that fails
same_not : (v w : Bool) → not v ≡ not w → v ≡ w
same_not v true e = not-false v e
same_not v false e = not-true v e

module _ (fails passes : ℕ → Bool) (apart : (b : ℕ) → fails b ≡ not (passes b)) where
  some_from : (n : ℕ) (t : Text) → is_some (position_from fails n t) ≡ not (list_all passes t)
  some_from n [] = refl
  some_from n (b ∷ t) = at (passes b) (apart b) (some_from (n + 1) t)
    where
      at : (v : Bool) → fails b ≡ not v → is_some (position_from fails (n + 1) t) ≡ not (list_all passes t) → is_some (cond (fails b) (Some n) (position_from fails (n + 1) t)) ≡ not (v && list_all passes t)
      at true e ih = ap (λ (w : Bool). is_some (cond w (Some n) (position_from fails (n + 1) t))) e ∙ ih
      at false e ih = ap (λ (w : Bool). is_some (cond w (Some n) (position_from fails (n + 1) t))) e

  pub none_found : (t : Text) (r : Option ℕ) (none : Bool) → r ≡ cond (ltb (position_or_len fails t) (length t)) (Some (position_or_len fails t)) None → is_some r ≡ not none → none ≡ list_all passes t
  none_found t r none is e = same_not none (list_all passes t) (sym e ∙ ap is_some (is ∙ position_from-zero fails t) ∙ some_from 0 t)

until_step : (b c : ℕ) (t : Text) → until b (c ∷ t) ≡ cond (eqb c b) 0 (1 + until b t)
until_step b c t = ap (λ (n : ℕ). cond (eqb c b) 0 n) (omega arith)

pub until_le : (b : ℕ) (t : Text) → until b t ≤ length t
until_le b [] = omega arith
until_le b (c ∷ t) = let h = until_le b t in grind (arith, nat_tests)

pub until_is : (b : ℕ) (t : Text) → until b t ≡ position_or_len (λ c. eqb c b) t
until_is b t = is_position_or_len (until b) (λ c. eqb c b) refl (until_step b) t

-- a byte is there if fewer bytes stand before it than there are
pub has_until : (b : ℕ) (t : Text) → has b t ≡ ltb (until b t) (length t)
has_until b [] = sym (le-ltb 0 0 (omega arith))
has_until b (c ∷ t) = at (eqb c b) (has_until b t)
  where
    at : (v : Bool) → has b t ≡ ltb (until b t) (length t) → cond v true (has b t) ≡ ltb (cond v 0 (suc (until b t))) (suc (length t))
    at true e = sym (lt-ltb 0 (suc (length t)) (omega arith))
    at false e = e ∙ grind (arith, nat_tests)

-- what stands at a place that is clipped to the text
pub clipped : (t : List ℕ) (start len s n : ℕ) → s ≡ min start (length t) → n ≡ min len (length t - s) → take (s + n - s) (drop s t) ≡ take len (drop start t)
clipped t start len s n es en = same_lists _ _ (search (rules, places)) (λ k d h. grind (arith, places))

-- final slashes
unslashed_slash : (s : Text) → unslashed (s ++ SLASH ∷ []) ≡ unslashed s
unslashed_slash [] = refl
unslashed_slash (b ∷ s) = ap (λ (r : Text). cond (empty r && eqb b SLASH) [] (b ∷ r)) (unslashed_slash s)

unslashed_other : (s : Text) (c : ℕ) → (c ≡ SLASH → ⊥) → unslashed (s ++ c ∷ []) ≡ s ++ c ∷ []
unslashed_other [] c other = cond-false _ _ _ (ne_eqb c SLASH other)
unslashed_other (b ∷ s) c other =
    ap (λ (r : Text). cond (empty r && eqb b SLASH) [] (b ∷ r)) (unslashed_other s c other)
    ∙ cond-false _ _ _ (and_left _ _ (pushed_some s c))
  where
    pushed_some : (s : Text) (c : ℕ) → empty (s ++ c ∷ []) ≡ false
    pushed_some [] c = refl
    pushed_some (b ∷ s) c = refl

module _ (t : Text) (n : ℕ) (some : 0 < n) (within : n ≤ length t) where
  front_more : take n t ≡ take (n - 1) t ++ get_or t (n - 1) 0 ∷ []
  front_more = let step : n - 1 + 1 ≡ n = omega arith in ap (λ (k : ℕ). take k t) (sym step) ∙ take_more t (n - 1) 0 (omega arith)

  pub slash_off : get_or t (n - 1) 0 ≡ SLASH → unslashed (take n t) ≡ unslashed (take (n - 1) t)
  slash_off e = ap unslashed (front_more ∙ ap (λ (b : ℕ). take (n - 1) t ++ b ∷ []) e) ∙ unslashed_slash (take (n - 1) t)

  pub other_stays : (get_or t (n - 1) 0 ≡ SLASH → ⊥) → unslashed (take n t) ≡ take n t
  other_stays e = ap unslashed front_more ∙ unslashed_other (take (n - 1) t) (get_or t (n - 1) 0) e ∙ sym front_more

pub none_stays : (t : Text) (n : ℕ) → n ≤ 0 → unslashed (take n t) ≡ take n t
none_stays t zero h = refl
none_stays t (suc n) h = absurd (omega arith)

-- the last byte decides how a text ends
pub ends_at : (b : ℕ) (s : Text) → 0 < length s → ends b s ≡ eqb (get_or s (length s - 1) 0) b
ends_at b [] h = absurd (omega arith)
ends_at b (c ∷ []) h = refl
ends_at b (c ∷ d ∷ s) h =
    let at : suc (length s) ≡ suc (suc (length s)) - 1 = omega arith in
    let down : suc (length s) - 1 ≡ length s = omega arith in
    ends_at b (d ∷ s) (omega arith)
    ∙ ap (λ (n : ℕ). eqb (get_or (d ∷ s) n 0) b) down
    ∙ ap (λ (n : ℕ). eqb (get_or (c ∷ d ∷ s) n 0) b) at
