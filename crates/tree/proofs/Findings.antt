-- What an answered lookup tells of the finding. Assumes nothing.
use Rattle.std.proofs.Common.{◌≡◌, ℕ, ◌-◌, Bool, true, false, cond, leb, length, take, Some, None, Option, Ok, Result, sym, refl, ap, ◌∙◌, arith}
use Rattle.std.proofs.lemmas.Bool.{cond-true, le-leb}
use Rattle.texts.specs.Texts.{Text, buffer_with}
use Rattle.texts.proofs.Buffers.{went_in}
use Rattle.tree.specs.declared.answers.Broken.{Broken}
use Rattle.tree.specs.Meanings.{Finding, FoundWell, answered, faulty, found, missing, path_found}

-- which way a test went, by the answer
there : (v : Bool) (n k : ℕ) → ◌≡◌ {A = Result (Option ℕ) Broken} (Ok (Some k)) (Ok (cond v (Some n) None)) → (v ≡ true) × (k ≡ n)
there true n k e = (refl, cc)
there false n k e = cc

-- what a host wrote to a buffer of 255 bytes
pub found_there : (m : Finding) (path path₁ : Text) (len : ℕ) → length path ≡ 255 → Ok (Some len) ≡ answered m 255 → path₁ ≡ buffer_with (path_found m) path → m ≡ found (take (len - 0) path₁)
found_there (found p) path path₁ len size e w =
    let fit = there (leb (length p) 255) (length p) len e in
    let i = went_in p path path₁ len (ap Some fit.1 ∙ sym (cond-true _ _ _ (ap (λ (n : ℕ). leb (length p) n) size ∙ fit.0))) w in
    let from : len - 0 ≡ len = omega arith in
    ap found (sym i.0 ∙ ap (λ (n : ℕ). take n path₁) (sym from))
found_there missing path path₁ len size e w = cc
found_there faulty path path₁ len size e w = cc

-- a buffer of 255 bytes holds every path that is found
pub lost_there : (m : Finding) → FoundWell m → Ok None ≡ answered m 255 → m ≡ missing
lost_there (found p) w e = let fits = le-leb (length p) 255 w.1 in let z : ◌≡◌ {A = Result (Option ℕ) Broken} (Ok None) (Ok (Some (length p))) = e ∙ ap (λ (v : Bool). Ok (cond v (Some (length p)) None)) fits in cc
lost_there missing w e = refl
lost_there faulty w e = cc
