-- One case taken off a list, and where a list ends. Assumes nothing.
use Rattle.std.proofs.Common.{◌≡◌, ℕ, zero, suc, ◌<◌, ◌≤◌, true, false, List, [], ◌∷◌, ◌++◌, Some, None, Option, length, option_map, option_and_then, refl, ap, ◌∙◌, arith, append_assoc}
use Rattle.std.proofs.lemmas.Bool.{cond-false, cond-true}
use Rattle.texts.specs.Texts.{Text, empty}
use Rattle.replay.specs.Lists.{Front, Stored, cases_of, front_case}

-- nothing is left of a list
pub no_case_left : (n : ℕ) (t : Text) → empty t ≡ true → cases_of n t ≡ Some []
unfolding cases_of
no_case_left zero t h = cond-true _ _ _ h
no_case_left (suc n) t h = cond-true _ _ _ h

-- what is left does not begin with a case
pub no_case : (n : ℕ) (t : Text) → empty t ≡ false → front_case t ≡ None → cases_of n t ≡ None
unfolding cases_of
no_case zero t h none = cond-false _ _ _ h
no_case (suc n) t h none = cond-false _ _ _ h ∙ ap (option_and_then (λ (f : Front). option_map (λ cs. f.case ∷ cs) (cases_of n f.rest))) none

-- what is left begins with a case
pub one_case : (n : ℕ) (t : Text) (f : Front) → empty t ≡ false → length t ≤ n → length f.rest < length t → front_case t ≡ Some f
    → (k : ℕ) × (length f.rest ≤ k) × (cases_of n t ≡ option_map (λ cs. f.case ∷ cs) (cases_of k f.rest))
unfolding cases_of
one_case zero t f h fits shorter some = absurd (omega arith)
one_case (suc n) t f h fits shorter some = (n, omega arith, cond-false _ _ _ h ∙ ap (option_and_then (λ (f : Front). option_map (λ cs. f.case ∷ cs) (cases_of n f.rest))) some)

-- a case behind those that were read is in front of those to come
pub one_behind : (xs : List Stored) (x : Stored) (o : Option (List Stored))
    → option_map (λ cs. (xs ++ x ∷ []) ++ cs) o ≡ option_map (λ cs. xs ++ cs) (option_map (λ cs. x ∷ cs) o)
one_behind xs x None = refl
one_behind xs x (Some cs) = ap Some (append_assoc xs (x ∷ []) cs)
