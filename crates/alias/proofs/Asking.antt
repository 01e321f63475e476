-- What labels ask, one after the other. Assumes nothing.
use Rattle.std.proofs.Common.{◌≡◌, ℕ, ◌+◌, ◌<◌, Bool, true, false, cond, eqb, List, ◌∷◌, drop, sym, refl, ap, subst, arith}
use Rattle.std.proofs.lemmas.Bool.{eq-eqb, eqb-true}
use Rattle.texts.specs.Texts.{Text}
use Rattle.tree.specs.Meanings.{Question}
use Rattle.settings.specs.Tables.{Alias}
use Rattle.alias.specs.declared.attempts.Progress.{Progress}
use Rattle.alias.specs.Asked.{LabelAsked, LabelsAsked, SomeAsked, next_label}
use Rattle.alias.specs.Forms.{touches}
use Rattle.alias.specs.Left.{gone_to}

-- a label that is gone to begins with its first value, unless it is the one that was come to
gone_value : (n : ℕ) (p : Progress) → p.label < n → (gone_to n p).value ≡ 0
gone_value n p h = at (eqb n p.label) refl
  where
    at : (b : Bool) → eqb n p.label ≡ b → (cond b p (record { label = n; value = 0; done = p.done })).value ≡ 0
    at true e = absurd (omega (arith, eqb-true n p.label e))
    at false e = refl

pub gone_here : (p : Progress) → gone_to p.label p ≡ p
gone_here p = ap (λ (b : Bool). cond b p (record { label = p.label; value = 0; done = p.done })) (eq-eqb p.label p.label refl)

module _ {S : Type 0} (steps : S → Question → S → Type 0) (r : Text) where
  -- the label at a place was come to, behind those before it
  pub come_to : {s t u : S} (ls first : List Alias) (n i : ℕ) (a : Alias) (was now : Progress) → drop i ls ≡ a ∷ drop (i + 1) ls → now ≡ gone_to i was
      → LabelsAsked steps r first n (drop i ls) (gone_to i was).value s t → LabelAsked steps r a now.value t u → LabelsAsked steps r first n (drop (i + 1) ls) 0 s u
  come_to {s = s} {t = t} {u = u} ls first n i a was now step gone before asked =
      next_label a (subst (λ (xs : List Alias). LabelsAsked steps r first n xs (gone_to i was).value s t) step before) (subst (λ (p : Progress). LabelAsked steps r a p.value t u) gone asked)

  -- behind it, the next label begins with its first value
  pub goes_on : {s u : S} (rest first : List Alias) (n i : ℕ) (new : Progress) → new.label ≡ i → LabelsAsked steps r first n rest 0 s u → LabelsAsked steps r first n rest (gone_to (i + 1) new).value s u
  goes_on {s = s} {u = u} rest first n i new at asked = subst (λ (k : ℕ). LabelsAsked steps r first n rest k s u) (sym (gone_value (i + 1) new (omega (arith, at)))) asked

  -- a label that touches has its values looked at, any other asks nothing
  pub asked_if_it_touches : {t u : S} (a : Alias) (n : ℕ) → touches a.label r ≡ true → SomeAsked steps a.label r true (drop n a.values) t u → LabelAsked steps r a n t u
  asked_if_it_touches {t = t} {u = u} a n h asked = subst (λ (b : Bool). SomeAsked steps a.label r b (drop n a.values) t u) (sym h) asked

  pub asks_nothing : (t : S) (a : Alias) (n : ℕ) → touches a.label r ≡ false → LabelAsked steps r a n t t
  asks_nothing t a n h = subst (λ (b : Bool). SomeAsked steps a.label r b (drop n a.values) t t) (sym h) refl
