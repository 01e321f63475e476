-- How much of a text its pieces and parts take. Assumes nothing.
use Rattle.std.proofs.Common.{◌≡◌, ℕ, suc, ◌+◌, ◌*◌, ◌≤◌, Bool, true, false, cond, eqb, List, [], ◌∷◌, length, refl, arith}
use Rattle.std.proofs.lemmas.Bool.{false≢true}
use Rattle.texts.specs.Texts.{Text, SLASH}
use Rattle.texts.specs.Parts.{pieces, before, solid, placed, inner, headed, marks, texts_of, parts}

-- the bytes of texts, with a slash each
abbrev pub weight : List Text → ℕ
weight [] = 0
weight (p ∷ ps) = length p + 1 + weight ps

before_weight : (b : ℕ) (ps : List Text) → 1 ≤ weight ps → weight (before b ps) ≡ weight ps + 1
before_weight b [] h = absurd (omega arith)
before_weight b (p ∷ ps) h = omega arith

-- the pieces take the whole text
pub pieces_weight : (s : Text) → weight (pieces s) ≡ length s + 1
unfolding pieces
pieces_weight [] = refl
pieces_weight (b ∷ s) = at (eqb b SLASH) (pieces_weight s)
  where
    at : (v : Bool) → weight (pieces s) ≡ length s + 1 → weight (cond v ([] ∷ pieces s) (before b (pieces s))) ≡ suc (length s) + 1
    at true ih = omega arith
    at false ih = omega (arith, before_weight b (pieces s) (omega arith))

solid_length : (p : Text) → solid p ≡ true → 1 ≤ length p
solid_length [] h = absurd (false≢true h)
solid_length (b ∷ p) h = omega arith

-- the parts among pieces take no more than these, and two bytes each at least
pub inner_weight : (n : ℕ) (ps : List Text) → (weight (texts_of (inner (placed n ps))) ≤ weight ps) × (2 * length (inner (placed n ps)) ≤ weight ps)
inner_weight n [] = (omega arith, omega arith)
inner_weight n (p ∷ ps) = at (solid p) refl (inner_weight (n + length p + 1) ps)
  where
    at : (v : Bool) → solid p ≡ v → (weight (texts_of (inner (placed (n + length p + 1) ps))) ≤ weight ps) × (2 * length (inner (placed (n + length p + 1) ps)) ≤ weight ps)
        → (weight (texts_of (cond v ((p, n + length p) ∷ inner (placed (n + length p + 1) ps)) (inner (placed (n + length p + 1) ps)))) ≤ weight (p ∷ ps))
        × (2 * length (cond v ((p, n + length p) ∷ inner (placed (n + length p + 1) ps)) (inner (placed (n + length p + 1) ps))) ≤ weight (p ∷ ps))
    at true e ih = (omega arith, omega (arith, solid_length p e))
    at false e ih = (omega arith, omega arith)

headed_weight : (p : Text) (ps : List Text) → (weight (texts_of (headed (placed 0 (p ∷ ps)))) ≤ weight (p ∷ ps) + 1) × (2 * length (headed (placed 0 (p ∷ ps))) ≤ weight (p ∷ ps) + 1)
headed_weight [] [] = (omega arith, omega arith)
headed_weight (b ∷ p) [] = (omega arith, omega arith)
headed_weight [] (q ∷ ps) = let h = inner_weight 1 (q ∷ ps) in (omega arith, omega arith)
headed_weight (b ∷ p) (q ∷ ps) = let h = inner_weight (0 + length (b ∷ p) + 1) (q ∷ ps) in (omega arith, omega arith)

-- parts take at most two bytes more than their text, and there are at most half as many as it has bytes, and one
pub parts_weight : (s : Text) → (weight (parts s) ≤ length s + 2) × (2 * length (marks s) ≤ length s + 2)
unfolding parts marks
parts_weight s = at (pieces s) (pieces_weight s)
  where
    at : (ps : List Text) → weight ps ≡ length s + 1 → (weight (texts_of (headed (placed 0 ps))) ≤ length s + 2) × (2 * length (headed (placed 0 ps)) ≤ length s + 2)
    at [] e = (omega arith, omega arith)
    at (p ∷ ps) e = let h = headed_weight p ps in (omega arith, omega arith)
