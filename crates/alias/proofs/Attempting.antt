-- What is left of the attempts, step by step. Assumes nothing.
use Rattle.std.proofs.Common.{◌≡◌, ℕ, ◌+◌, ◌-◌, ◌<◌, Bool, true, false, cond, eqb, List, [], ◌∷◌, ◌++◌, drop, Some, Option, Ok, Err, Result, sym, refl, ap, ◌∙◌, arith}
use Rattle.std.specs.Result.{IsErr}
use Rattle.std.proofs.lemmas.Bool.{cond-false, eqb-true, false≢true}
use Rattle.texts.specs.Texts.{Text}
use Rattle.tree.specs.Meanings.{Meaning}
use Rattle.settings.specs.Tables.{Alias, Value}
use Rattle.alias.specs.declared.attempts.Attempt.{Attempt}
use Rattle.alias.specs.declared.attempts.Attempt.TheVariants as answer
use Rattle.alias.specs.declared.attempts.Progress.{Progress}
use Rattle.alias.specs.declared.rewrite.TooLong.{TooLong}
use Rattle.alias.specs.Attempts.{Attempt as Tried, attempts, last, onward, overlong, value_attempt, value_attempts}
use Rattle.alias.specs.Left.{ends_search, first_value, gone_to, label_of, label_tried, left, left_of, row_left, row_said, said, said_by, value_text, value_tried, values_of}
use Rattle.alias.specs.Forms.{touches}

-- an attempt ends the search by its kind
pub said_ends : (v l r : Text) (work : List ℕ) (x : Result Attempt TooLong) → last (said_by v l r work x) ≡ ends_search x
said_ends v l r work (Ok (answer.Again new)) = refl
said_ends v l r work (Ok (answer.Ignored n)) = refl
said_ends v l r work (Ok answer.Unmatched) = refl
said_ends v l r work (Err e) = refl

-- a text that would pass 255 bytes
pub said_overlong : (v l r : Text) (work : List ℕ) (x : Result Attempt TooLong) → IsErr x → said_by v l r work x ≡ overlong
said_overlong v l r work (Ok a) h = absurd (false≢true h)
said_overlong v l r work (Err e) h = refl

-- a value that gives an attempt
pub value_met : (m : Meaning) (dir r l : Text) (work : List ℕ) (vs more : List Value) (v : Value) (x : Result Attempt TooLong) → vs ≡ v ∷ more
    → Some (said_by (value_text v) l r work x) ≡ value_attempt m dir r l v → (tried : Bool) (later : List Tried)
    → value_attempts m dir r l vs tried later ≡ said_by (first_value vs) l r work x ∷ cond (ends_search x) [] (value_attempts m dir r l more true later)
value_met m dir r l work vs more v x e h tried later =
    ap (λ (us : List Value). value_attempts m dir r l us tried later) e
    ∙ ap (λ (a : Option Tried). onward a (value_attempts m dir r l more tried later) (value_attempts m dir r l more true later)) (sym h)
    ∙ ap (λ (b : Bool). said_by (value_text v) l r work x ∷ cond b [] (value_attempts m dir r l more true later)) (said_ends (value_text v) l r work x)
    ∙ ap (λ (t : Text). said_by t l r work x ∷ cond (ends_search x) [] (value_attempts m dir r l more true later)) (sym (ap first_value e))

module _ (m : Meaning) (dir r : Text) where
  -- a label that does not touch may be left out
  pub untouched : (before behind : List Alias) (a : Alias) → touches a.label r ≡ false → attempts m dir r (before ++ a ∷ behind) ≡ attempts m dir r (before ++ behind)
  unfolding attempts
  untouched [] behind a h = cond-false _ _ _ h
  untouched (b ∷ before) behind a h =
      ap (λ (later : List Tried). cond (touches b.label r) (value_attempts m dir r b.label b.values false later) later) (untouched before behind a h)

  -- at the first value of a label everything is left from that label on
  pub left_first : (ls : List Alias) (n : ℕ) (d : Bool) → left_of m dir r ls (record { label = n; value = 0; done = d }) ≡ attempts m dir r ls
  unfolding attempts
  left_first [] n d = refl
  left_first (a ∷ ls) n d = refl

  -- behind the label that was come to, all is left
  pub left_later : (ls : List Alias) (n : ℕ) (p : Progress) → p.label < n → left_of m dir r ls (gone_to n p) ≡ attempts m dir r ls
  left_later ls n p h = at (eqb n p.label) refl
    where
      at : (b : Bool) → eqb n p.label ≡ b → left_of m dir r ls (cond b p (record { label = n; value = 0; done = p.done })) ≡ attempts m dir r ls
      at true e = absurd (omega (arith, eqb-true n p.label e))
      at false e = left_first ls n p.done

-- the label that is gone to
pub gone_label : (n : ℕ) (p : Progress) → (gone_to n p).label ≡ n
gone_label n p = at (eqb n p.label) refl
  where
    at : (b : Bool) → eqb n p.label ≡ b → (cond b p (record { label = n; value = 0; done = p.done })).label ≡ n
    at true e = sym (eqb-true n p.label e)
    at false e = refl

-- going to a label ends nothing
pub gone_done : (n : ℕ) (p new : Progress) → new ≡ gone_to n p → p.done ≡ false → new.done ≡ false
gone_done n p new e h = at (eqb n p.label) (ap (λ (q : Progress). q.done) e)
  where
    at : (b : Bool) → new.done ≡ (cond b p (record { label = n; value = 0; done = p.done })).done → new.done ≡ false
    at true g = g ∙ h
    at false g = g ∙ h

module _ (m : Meaning) (dir r : Text) (ls : List Alias) (i : ℕ) (a : Alias) (step : drop i ls ≡ a ∷ drop (i + 1) ls) where
  abbrev later : List Tried
  later = attempts m dir r (drop (i + 1) ls)

  row_there : (p : Progress) → left_of m dir r (drop i ls) p ≡ row_left m dir r a p later
  row_there p = ap (λ (xs : List Alias). left_of m dir r xs p) step

  -- an attempt of the label that was come to is the next of all
  pub next_taken : (p new : Progress) (work : List ℕ) (x : Result Attempt TooLong) → new.label ≡ i
      → row_left m dir r a p later ≡ row_said a new r work x ∷ cond new.done [] (row_left m dir r a new later)
      → left_of m dir r (drop i ls) p ≡ said ls new r work x ∷ left m dir r ls new
  next_taken p new work x at h =
      let here : drop new.label ls ≡ a ∷ drop (i + 1) ls = ap (λ (n : ℕ). drop n ls) at ∙ step in
      row_there p
      ∙ h
      ∙ (λ k. said_by (first_value (drop (new.value - 1) (values_of (sym here k)))) (label_of (sym here k)) r work x ∷ cond new.done [] (left_of m dir r (sym here k) new))

  -- a label that gives nothing leaves what the later labels give
  pub next_later : (p new : Progress) → new.label ≡ i → row_left m dir r a p later ≡ later → left_of m dir r (drop (i + 1) ls) (gone_to (i + 1) new) ≡ left_of m dir r (drop i ls) p
  next_later p new at h = left_later m dir r (drop (i + 1) ls) (i + 1) new (omega arith) ∙ sym (row_there p ∙ h)
