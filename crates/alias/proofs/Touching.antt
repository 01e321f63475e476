-- What a label touches, by its form. Assumes nothing.
use Rattle.std.proofs.Common.{◌≡◌, ◌↔◌, ℕ, suc, ◌-◌, Bool, true, false, not, ◌&&◌, ◌||◌, ◌==◌, [], ◌∷◌, ◌++◌, length, take, drop, arith, Some, sym, refl, ap, ◌∙◌, inl, inr, ⊎_elim}
use Rattle.std.specs.Cmp.Lexicographic.{pointwise}
use Rattle.std.specs.List.{starts_with}
use Rattle.std.specs.Prelude.{nat_eq}
use Rattle.std.specs.Str.{bytes_eq}
use Rattle.std.proofs.Math.Seq.{drop-append_seam}
use Rattle.std.proofs.lemmas.List.{append-nil}
use Rattle.std.proofs.lemmas.Bool.{and_parts, cases_Bool, cond-true, cond-false, eqb-false, false≢true, ne_eqb, not-true, or_right}
use Rattle.std.proofs.lemmas.Bool.Decides.{Decides-eqb}
use Rattle.std.proofs.lemmas.Slice.Eq.{bytes_eq-Decides, starts_is}
use Rattle.texts.specs.Texts.{Text, begins, empty, ends, has}
use Rattle.alias.specs.Forms.{DOLLAR, STAR, Form, before_star, begins_otherwise, behind, behind_star, ends_or_goes_on, exact, first_byte_fits, form, form_touches, goes_on, key, plain, touches, wildcard}
use Rattle.alias.specs.Laws.{Continues, is_plain}

module _ (l : Text) where
  pub exact_form : ends DOLLAR l ≡ true → form l ≡ exact (key l)
  unfolding form
  exact_form e = cond-true _ _ _ e

  pub unstarred_form : ends DOLLAR l ≡ false → has STAR l ≡ false → form l ≡ plain l
  unfolding form
  unstarred_form e s = cond-false _ _ _ e ∙ cond-false _ _ _ s

  pub starred_form : ends DOLLAR l ≡ false → has STAR l ≡ true → form l ≡ wildcard (before_star l) (behind_star l)
  unfolding form
  starred_form e s = cond-false _ _ _ e ∙ cond-true _ _ _ s

  pub plain_form : is_plain l ≡ true → form l ≡ plain l
  plain_form h =
      let p = and_parts (not (ends DOLLAR l)) (not (has STAR l)) h in
      unstarred_form (not-true _ p.0) (not-true _ p.1)

-- a text that begins with another is that one and what is left behind it
module _ (l r : Text) where
  begins_so : starts_with nat_eq r l ≡ true → r ≡ l ++ drop (length l) r
  begins_so = (starts_is Decides-eqb r l (starts_with nat_eq r l) refl).0

  pub behind_there : (tail : Text) → r ≡ l ++ tail → behind l r ≡ Some tail
  behind_there tail e =
      cond-true _ _ _ ((starts_is Decides-eqb r l (starts_with nat_eq r l) refl).1 tail e)
      ∙ ap Some (ap (drop (length l)) e ∙ drop-append_seam l tail)

empty_nil : (t : Text) → empty t ≡ true → t ≡ []
empty_nil [] h = refl
empty_nil (b ∷ t) h = absurd (false≢true h)

module _ (l r : Text) (h : is_plain l ≡ true) where
  touched : touches l r ≡ ends_or_goes_on (behind l r)
  unfolding touches
  touched = ap (λ (f : Form). form_touches f r) (plain_form l h)

  continues : touches l r ≡ true → Continues l r
  continues t = ⊎_elim
      (λ (b : starts_with nat_eq r l ≡ true).
      let tail = drop (length l) r in
      let is : r ≡ l ++ tail = begins_so l r b in
      ⊎_elim
      (λ (e : empty tail ≡ true). inl (is ∙ ap (λ (s : Text). l ++ s) (empty_nil tail e) ∙ append-nil l))
      (λ (e : empty tail ≡ false). inr (tail, (is, sym (ap (λ (v : Bool). v || goes_on tail) e) ∙ some b)))
      (cases_Bool (empty tail)))
      (λ (b : starts_with nat_eq r l ≡ false). absurd (false≢true (sym (touched ∙ ap ends_or_goes_on (cond-false _ _ _ b)) ∙ t)))
      (cases_Bool (starts_with nat_eq r l))
    where
      some : starts_with nat_eq r l ≡ true → (empty (drop (length l) r) || goes_on (drop (length l) r)) ≡ true
      some b = sym (touched ∙ ap ends_or_goes_on (cond-true _ _ _ b)) ∙ t

  continued : Continues l r → touches l r ≡ true
  continued (inl e) = touched ∙ ap ends_or_goes_on (behind_there l r [] (e ∙ sym (append-nil l)))
  continued (inr t) = touched ∙ ap ends_or_goes_on (behind_there l r t.0 t.1.0) ∙ or_right (empty t.0) (goes_on t.0) t.1.1

  pub plain_touches : (touches l r ≡ true) ↔ Continues l r
  plain_touches = (continues, continued)

pub exact_touches : (l r : Text) → ends DOLLAR l ≡ true → (touches l r ≡ true) ↔ (r ≡ key l)
unfolding touches
exact_touches l r h =
    let is : touches l r ≡ bytes_eq (key l) r = ap (λ (f : Form). form_touches f r) (exact_form l h) in
    (λ (t : touches l r ≡ true). sym ((bytes_eq-Decides (key l) r).0 (sym is ∙ t)), λ (e : r ≡ key l). is ∙ (bytes_eq-Decides (key l) r).1 (sym e))

-- a label that does not begin with `*` or `$`, and a request that begins otherwise
module _ (b : ℕ) (l r : Text) (star : (b == STAR) ≡ false) (dollar : (b == DOLLAR) ≡ false) (other : begins b r ≡ false) where
  other_bytes : (r : Text) → begins b r ≡ false → (k : Text) → bytes_eq (b ∷ k) r ≡ false
  other_bytes [] h k = refl
  other_bytes (a ∷ s) h k = ap (λ (v : Bool). v && bytes_eq k s) (ne_eqb b a (λ (e : b ≡ a). eqb-false a b h (sym e)))

  key_begins : (l : Text) → ends DOLLAR (b ∷ l) ≡ true → (k : Text) × (key (b ∷ l) ≡ b ∷ k)
  key_begins [] e = absurd (false≢true (sym dollar ∙ e))
  key_begins (c ∷ m) e =
      let count : length (b ∷ c ∷ m) - 1 ≡ suc (length m) = omega arith in
      (take (length m) (c ∷ m), cond-true _ _ _ e ∙ ap (λ (n : ℕ). take n (b ∷ c ∷ m)) count)

  begins_so_too : before_star (b ∷ l) ≡ b ∷ before_star l
  begins_so_too = ap (λ (n : ℕ). take n (b ∷ l)) (cond-false _ _ _ star)

  other_start : (r : Text) → begins b r ≡ false → starts_with nat_eq r (b ∷ l) ≡ false
  other_start [] h = refl
  other_start (a ∷ s) h = ap (λ (v : Bool). v && pointwise nat_eq l (take (length l) s)) (ne_eqb b a (λ (e : b ≡ a). eqb-false a b h (sym e)))

  untouched : touches (b ∷ l) r ≡ false
  unfolding touches
  untouched = ⊎_elim
      (λ (e : ends DOLLAR (b ∷ l) ≡ true).
      let k = key_begins l e in
      ap (λ (f : Form). form_touches f r) (exact_form (b ∷ l) e) ∙ ap (λ (t : Text). bytes_eq t r) k.1 ∙ other_bytes r other k.0)
      (λ (e : ends DOLLAR (b ∷ l) ≡ false). ⊎_elim
      (λ (s : has STAR (b ∷ l) ≡ true). ap (λ (f : Form). form_touches f r) (starred_form (b ∷ l) e s) ∙ ap (λ (t : Text). first_byte_fits t r) begins_so_too ∙ other)
      (λ (s : has STAR (b ∷ l) ≡ false). ap (λ (f : Form). form_touches f r) (unstarred_form (b ∷ l) e s) ∙ ap ends_or_goes_on (cond-false _ _ _ (other_start r other)))
      (cases_Bool (has STAR (b ∷ l))))
      (cases_Bool (ends DOLLAR (b ∷ l)))

pub told_apart : (l r : Text) → begins_otherwise l r ≡ true → touches l r ≡ false
told_apart [] r h = absurd (false≢true h)
told_apart (b ∷ l) r h =
    let p = and_parts (not (b == STAR)) (not (b == DOLLAR) && not (begins b r)) h in
    let q = and_parts (not (b == DOLLAR)) (not (begins b r)) p.1 in
    untouched b l r (not-true _ p.0) (not-true _ q.0) (not-true _ q.1)

-- what was found of a label as it is written
pub touched_so : (l was r : Text) (found is : Bool) → was ≡ l → found ≡ touches was r → found ≡ is → touches l r ≡ is
touched_so l was r found is e f g = ap (λ (t : Text). touches t r) (sym e) ∙ sym f ∙ g
