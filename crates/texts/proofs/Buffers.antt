-- Texts at the front of a buffer. Assumes nothing.
use Rattle.std.proofs.Common.{◌≡◌, ℕ, ◌+◌, ◌-◌, ◌<◌, ◌≤◌, Bool, true, false, cond, leb, List, ◌++◌, length, take, drop, MatchOption, Some, None, Option, sym, refl, ap, ◌∙◌, append_assoc, arith}
use borrow.Rule.Slice.PartMut.{put_mid}
use Rattle.std.proofs.lemmas.List.{drop-drop, length-append, length-take-le, take_at}
use Rattle.std.proofs.lemmas.Bool.{cond-false, cond-true, le-leb, leb-false, leb-true, lt-leb}
use Rattle.std.specs.Option.{option_map}
use Rattle.stack.proofs.Slots.{held_within}
use Rattle.texts.specs.Held.{bytes_of}
use Rattle.texts.specs.declared.text.Text.{Text as Held}
use Rattle.texts.specs.Texts.{Text, appended, fronted, length_in, buffer_with}
use Rattle.texts.proofs.PartLoops.{some≢none}

-- a text written behind the first `a` bytes of a buffer
pub append_is : (xs ys more : List ℕ) (a : ℕ) → ys ≡ more → a + length more ≤ length xs → put_mid a (a + length more - a) xs ys ≡ fronted (take a xs ++ more) xs
append_is xs ys more a e h =
    let long : length (take a xs ++ more) ≡ a + (a + length more - a) = omega (arith, length-append (take a xs) more, length-take-le a xs (omega arith)) in
    ap (put_mid a (a + length more - a) xs) e
    ∙ sym (append_assoc (take a xs) more _)
    ∙ ap (λ l. (take a xs ++ more) ++ l) (drop-drop (a + length more - a) a xs ∙ ap (λ n. drop n xs) (sym long))

-- a text that went to the front of a buffer, and one that did not
pub goes_in : (xs out : List ℕ) (n : ℕ) (out₁ : List ℕ) → n ≡ length xs → out₁ ≡ fronted xs out → length xs ≤ length out → (Some n ≡ length_in (Some xs) (length out)) × (out₁ ≡ buffer_with (Some xs) out)
goes_in xs out n out₁ size bytes h =
    let yes : leb (length xs) (length out) ≡ true = le-leb _ _ h in
    (ap Some size ∙ sym (cond-true _ _ _ yes), bytes ∙ sym (cond-true _ _ _ yes))

pub stays_out : (xs out : List ℕ) → length out < length xs → (None ≡ length_in (Some xs) (length out)) × (out ≡ buffer_with (Some xs) out)
stays_out xs out h =
    let less : leb (length xs) (length out) ≡ false = lt-leb _ _ h in
    (sym (cond-false _ _ _ less), sym (cond-false _ _ _ less))

-- which way a test went, by the answer
cond_some : (b : Bool) (m n : ℕ) → Some n ≡ cond b (Some m) None → (b ≡ true) × (n ≡ m)
cond_some true m n e = (refl, cc)
cond_some false m n e = absurd (some≢none e)

cond_none : (b : Bool) (m : ℕ) → None ≡ cond b (Some m) None → b ≡ false
cond_none true m e = absurd (some≢none (sym e))
cond_none false m e = refl

-- a text that went into a buffer
pub went_in : (xs out out₁ : List ℕ) (n : ℕ) → Some n ≡ length_in (Some xs) (length out) → out₁ ≡ buffer_with (Some xs) out → (take n out₁ ≡ xs) × (n ≡ length xs) × (length xs ≤ length out)
went_in xs out out₁ n e w =
    let way = cond_some (leb (length xs) (length out)) (length xs) n e in
    (ap (take n) (w ∙ cond-true _ _ _ way.0) ∙ take_at xs _ n (sym way.1), way.1, leb-true _ _ way.0)

pub went_out : (xs : List ℕ) (n : ℕ) → None ≡ length_in (Some xs) n → n < length xs
went_out xs n e = leb-false _ _ (cond_none (leb (length xs) n) (length xs) e)

-- a text written behind the first n bytes, or refused
module _ (n : ℕ) (out more : List ℕ) where
  appended_is : n ≤ length out → appended n out more ≡ Some (take n out ++ more)
  appended_is h = cond-true _ _ _ (le-leb n (length out) h)

  pub appended_in : (ys : List ℕ) → n + length more ≤ length out → ys ≡ more
      → (Some (n + length more) ≡ length_in (appended n out more) (length out)) × (put_mid n (n + length more - n) out ys ≡ buffer_with (appended n out more) out)
  appended_in ys h e =
      let is = appended_is (omega arith) in
      let size : n + length more ≡ length (take n out ++ more) = omega (arith, length-append (take n out) more, length-take-le n out (omega arith)) in
      let g = goes_in (take n out ++ more) out (n + length more) (put_mid n (n + length more - n) out ys) size (append_is out ys more n e h) (omega arith) in
      (g.0 ∙ ap (λ (o : Option Text). length_in o (length out)) (sym is), g.1 ∙ ap (λ (o : Option Text). buffer_with o out) (sym is))

  pub appended_out : n ≤ length out → length out < n + length more → (None ≡ length_in (appended n out more) (length out)) × (out ≡ buffer_with (appended n out more) out)
  appended_out h k =
      let is = appended_is h in
      let g = stays_out (take n out ++ more) out (omega (arith, length-append (take n out) more, length-take-le n out h)) in
      (g.0 ∙ ap (λ (o : Option Text). length_in o (length out)) (sym is), g.1 ∙ ap (λ (o : Option Text). buffer_with o out) (sym is))

-- a text that is held by value has no more bytes than it has room for
pub text_within : {N : ℕ} (t : Held N) → length (bytes_of t) ≤ N
text_within t = held_within t.bytes

-- what making such a text answers: the text, or none where it is too long
pub new_is : {N : ℕ} (o : Option (Held N)) (s : Text) → MatchOption o (N < length s) (λ t. bytes_of t ≡ s) → option_map bytes_of o ≡ cond (leb (length s) N) (Some s) None
new_is {N} None s h = sym (cond-false _ _ _ (lt-leb (length s) N h))
new_is {N} (Some t) s h = ap Some h ∙ sym (cond-true _ _ _ (le-leb (length s) N (omega (arith, ap length h, text_within t))))
