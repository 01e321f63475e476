use Rattle.std.proofs.Common.{◌≡◌, ℕ, ◌+◌, Bool, true, false, cond, eqb, ltb, length, take, drop, MatchOption, Some, None, Option, sym, refl, ap, ◌∙◌, rules}
use Rattle.std.specs.List.{position_or_len}
use Rattle.std.proofs.lemmas.Iterator.{YieldsList-from_slice}
use Rattle.std.proofs.lemmas.Iterator.Search.{position_from_yields_List}
use Rattle.std.proofs.lemmas.List.{take_rest}
use Rattle.texts.specs.Texts.{Text, has, until}
use Rattle.texts.proofs.ByteLoops.{has_until, until_is}
use Rattle.alias.specs.Forms.{STAR}
use Rattle.alias.proofs.label.split_star.Goals as goal

-- the first place of a `*`
first_star : (t : Text) (r : Option ℕ) → r ≡ cond (ltb (position_or_len (λ b. eqb b STAR) t) (length t)) (Some (position_or_len (λ b. eqb b STAR) t)) None → MatchOption r (has STAR t ≡ false) (λ p. (has STAR t ≡ true) × (p ≡ until STAR t))
first_star t r e =
    at (has STAR t) refl r (e ∙ (λ i. cond (ltb (sym (until_is STAR t) i) (length t)) (Some (sym (until_is STAR t) i)) None) ∙ ap (λ (b : Bool). cond b (Some (until STAR t)) None) (sym (has_until STAR t)))
  where
    at : (b : Bool) → has STAR t ≡ b → (r : Option ℕ) → r ≡ cond b (Some (until STAR t)) None → MatchOption r (has STAR t ≡ false) (λ p. (has STAR t ≡ true) × (p ≡ until STAR t))
    at true h None f = absurd (let g : None ≡ Some (until STAR t) = f in cc)
    at true h (Some p) f = (h, cc)
    at false h None f = h
    at false h (Some p) f = absurd (let g : Some p ≡ None = f in cc)

pub returns-in_err-star : goal.returns-in_err-star
returns-in_err-star c =
    let t = c.args.text.now in
    let found = position_from_yields_List (λ b. eqb b STAR) _ _ _ c.position.ensures.ran (YieldsList-from_slice t cc) (λ x b q k. search rules) in
    let none : has STAR t ≡ false = first_star t None (sym c.in_err-star.was ∙ found) in
    search rules

pub returns : goal.returns
returns c =
    let t = c.args.text.now in
    let found = position_from_yields_List (λ b. eqb b STAR) _ _ _ c.position.ensures.ran (YieldsList-from_slice t cc) (λ x b q k. search rules) in
    let some = first_star t (Some c.in_ok-star.star) (sym c.in_ok-star.was ∙ found) in
    record { around_the_first_star = (some.0, ap (λ (n : ℕ). take n t) some.1, take_rest t (c.in_ok-star.star + 1) ∙ ap (λ (n : ℕ). drop (n + 1) t) some.1) }
