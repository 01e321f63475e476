-- What a cache holds goes on agreeing with the tree, and what a kind question does.
use Rattle.std.proofs.Common.{◌≡◌, ℕ, zero, suc, Bool, true, false, cond, ◌&&◌, List, [], ◌∷◌, take, is_some, Some, None, Option, sym, refl, ap, ◌∙◌}
use Rattle.std.proofs.lemmas.Bool.{false≢true}
use Rattle.tree.specs.declared.answers.Kind.{Kind}
use Rattle.cache.specs.Held.{Agrees, Asked}
use Rattle.cache.specs.Seen.{Placed, Seen, fresh, holds, holds_text, recalled, remember, remember_text, renewed, renewed_as, room, without}
use Rattle.texts.specs.Parts.{parts, same_parts}
use Rattle.texts.specs.Texts.{Text, fits}
use Rattle.tree.specs.Meanings.{Path}
use Rattle.texts.proofs.SamePaths.{same_means_equal}

module _ (p : Path) where
  holds_step : (b : Bool) (k : Kind) (h : Bool) (r : Option Kind) → h ≡ is_some r → cond b true h ≡ is_some (cond b (Some k) r)
  holds_step true k h r e = refl
  holds_step false k h r e = e

  pub holds_is : (es : List Seen) → holds p es ≡ is_some (recalled p es)
  holds_is [] = refl
  holds_is (e ∷ es) = holds_step (same_parts e.path p) e.kind (holds p es) (recalled p es) (holds_is es)

  -- what the place says of it
  pub holds_placed : (es : List Seen) (o : Option ℕ) → Placed p es o → is_some o ≡ holds p es
  holds_placed es None at = sym (holds_is es ∙ ap is_some at)
  holds_placed es (Some i) at = sym (holds_is es ∙ ap is_some at.1.1)

  pub renewed_some : (es : List Seen) (k : Kind) → recalled p es ≡ Some k → renewed p es ≡ remember p k es
  renewed_some es k e = ap (renewed_as p es) e

  pub renewed_none : (es : List Seen) → recalled p es ≡ None → renewed p es ≡ es
  renewed_none es e = ap (renewed_as p es) e

  module _ (tree : Path → Kind) where
    agrees_step : (b : Bool) (e : Seen) (k : Kind) (r : Option Kind) → (b ≡ true → e.path ≡ p) → e.kind ≡ tree e.path → (r ≡ Some k → k ≡ tree p) → cond b (Some e.kind) r ≡ Some k → k ≡ tree p
    agrees_step true e k r at is rest h = let f : e.kind ≡ k = cc in sym f ∙ is ∙ ap tree (at refl)
    agrees_step false e k r at is rest h = rest h

    pub agrees_recalled : (es : List Seen) (k : Kind) → Agrees tree es → recalled p es ≡ Some k → k ≡ tree p
    agrees_recalled [] k a h = cc
    agrees_recalled (e ∷ es) k a h = agrees_step (same_parts e.path p) e k (recalled p es) (same_means_equal e.path p) a.0 (agrees_recalled es k a.1) h

    without_step : (b : Bool) (e : Seen) (es ws : List Seen) → e.kind ≡ tree e.path → Agrees tree es → Agrees tree ws → Agrees tree (cond b es (e ∷ ws))
    without_step true e es ws is a w = a
    without_step false e es ws is a w = (is, w)

    agrees_without : (es : List Seen) → Agrees tree es → Agrees tree (without p es)
    agrees_without [] a = a
    agrees_without (e ∷ es) a = without_step (same_parts e.path p) e es (without p es) a.0 a.1 (agrees_without es a.1)

    agrees_take : (n : ℕ) (es : List Seen) → Agrees tree es → Agrees tree (take n es)
    agrees_take zero es a = tt
    agrees_take (suc n) [] a = tt
    agrees_take (suc n) (e ∷ es) a = (a.0, agrees_take n es a.1)

    pub agrees_remember : (es : List Seen) (k : Kind) → k ≡ tree p → Agrees tree es → Agrees tree (remember p k es)
    agrees_remember es k is a = agrees_take room (fresh p k ∷ without p es) (is, agrees_without es a)

-- a kind question by a text that is short enough: the two ways that it can go
module _ (tree : Path → Kind) (t : Text) (es after : List Seen) (short : fits t ≡ true) where
  now_is : (k : Kind) → k ≡ tree (parts t) → after ≡ remember (parts t) k es → after ≡ remember_text tree t es
  now_is k is new = new ∙ ap (λ (l : Kind). remember (parts t) l es) is ∙ ap (λ (b : Bool). cond b (remember (parts t) (tree (parts t)) es) es) (sym short)

  held_is : (o : Option Kind) → recalled (parts t) es ≡ o → holds_text t es ≡ is_some o
  held_is o e = ap (λ (b : Bool). b && holds (parts t) es) short ∙ holds_is (parts t) es ∙ ap is_some e

  -- the path was held
  pub asked_held : {Left Passed : Type 0} (k : Kind) → k ≡ tree (parts t) → after ≡ remember (parts t) k es → recalled (parts t) es ≡ Some k → Left → Asked tree t es after Left Passed
  asked_held k is new known left = record {
    now_held = now_is k is new;
    if_held = λ _. left;
    if_not = λ h. absurd (false≢true (sym h ∙ held_is (Some k) known));
  }

  -- it was not, and the host below was asked
  pub asked_not_held : {Left Passed : Type 0} (k : Kind) → k ≡ tree (parts t) → after ≡ remember (parts t) k es → recalled (parts t) es ≡ None → Passed → Asked tree t es after Left Passed
  asked_not_held k is new none passed = record {
    now_held = now_is k is new;
    if_held = λ h. absurd (false≢true (sym (held_is None none) ∙ h));
    if_not = λ _. passed;
  }
