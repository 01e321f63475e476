use Rattle.std.proofs.Common.{◌≡◌, ℕ, Bool, true, false, cond, eqb, [], ◌∷◌, ◌||◌, refl, ◌∙◌, rules}
use Rattle.std.specs.List.{list_any}
use Rattle.std.proofs.lemmas.Iterator.{YieldsList-from_slice}
use Rattle.std.proofs.lemmas.Iterator.Search.{any_from_yields_List}
use Rattle.texts.specs.Texts.{Text, has}
use Rattle.explain.proofs.quiet.has_byte.Goals as goal

any_has : (b : ℕ) (t : Text) → list_any (λ x. eqb x b) t ≡ has b t
any_has b [] = refl
any_has b (x ∷ t) = at (eqb x b) (any_has b t)
  where
    at : (v : Bool) → list_any (λ x. eqb x b) t ≡ has b t → (v || list_any (λ x. eqb x b) t) ≡ cond v true (has b t)
    at true ih = refl
    at false ih = ih

pub returns : goal.returns
returns c =
    let t = c.args.text.now in
    let b = c.args.byte in
    record { some_byte_is_it = any_from_yields_List (λ x. eqb x b) _ _ _ c.any.ensures.ran (YieldsList-from_slice t cc) (λ x v q k. search rules) ∙ any_has b t }
