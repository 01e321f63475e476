-- How the scans go on byte by byte, and what they find. Assumes nothing.
use Rattle.std.proofs.Common.{◌≡◌, ℕ, zero, suc, ◌<◌, ◌≤◌, true, false, cond, not, ◌&&◌, eqb, [], ◌∷◌, length, take, drop, sym, refl, ap, ◌∙◌, arith}
use Rattle.std.proofs.lemmas.Bool.{cond-false, and_left, and_parts}
use Rattle.std.proofs.lemmas.Bool.Decides.{nat_tests}
use Rattle.specifier.specs.Requests.{until_hash}
use Rattle.texts.specs.Texts.{Text, NUL, HASH, begins, has, until}

pub until_hash_le : (p : ℕ) (s : Text) → until_hash p s ≤ length s
until_hash_le p [] = omega arith
until_hash_le p (b ∷ s) = let h = until_hash_le b s in grind (arith, nat_tests)

-- a text without a byte: neither its first byte nor the others
pub hasnt_head : (b c : ℕ) (s : Text) → has b (c ∷ s) ≡ false → eqb c b ≡ false
hasnt_head b c s h = elim (eqb c b) as (λ t. cond t true (has b s) ≡ false → t ≡ false) [ true ↦ λ e. e | false ↦ λ _. refl ] h

pub hasnt_tail : (b c : ℕ) (s : Text) → has b (c ∷ s) ≡ false → has b s ≡ false
hasnt_tail b c s h = sym (cond-false _ _ _ (hasnt_head b c s h)) ∙ h

-- what a scan stops at is what it looks for
pub until_finds : (b : ℕ) (s : Text) → until b s < length s → begins b (drop (until b s) s) ≡ true
until_finds b [] h = absurd (omega arith)
until_finds b (c ∷ s) h =
    elim (eqb c b) as (λ t. eqb c b ≡ t → cond t 0 (suc (until b s)) < suc (length s) → begins b (drop (cond t 0 (suc (until b s))) (c ∷ s)) ≡ true) [
      | true ↦ λ e _. e
      | false ↦ λ _ k. until_finds b s (omega arith)
    ] refl h

pub until_hash_finds : (p : ℕ) (s : Text) → until_hash p s < length s → begins HASH (drop (until_hash p s) s) ≡ true
until_hash_finds p [] h = absurd (omega arith)
until_hash_finds p (b ∷ s) h =
    elim (eqb b HASH && not (eqb p NUL)) as (λ t. (eqb b HASH && not (eqb p NUL)) ≡ t → cond t 0 (suc (until_hash b s)) < suc (length s) → begins HASH (drop (cond t 0 (suc (until_hash b s))) (b ∷ s)) ≡ true) [
      | true ↦ λ e _. (and_parts _ _ e).0
      | false ↦ λ _ k. until_hash_finds b s (omega arith)
    ] refl h

-- and it passes over nothing of that kind
pub has_before : (b : ℕ) (s : Text) → has b (take (until b s) s) ≡ false
has_before b [] = refl
has_before b (c ∷ s) =
    elim (eqb c b) as (λ t. eqb c b ≡ t → has b (take (cond t 0 (suc (until b s))) (c ∷ s)) ≡ false) [
      | true ↦ λ _. refl
      | false ↦ λ e. cond-false _ _ _ e ∙ has_before b s
    ] refl

pub has_drop : (b k : ℕ) (s : Text) → has b s ≡ false → has b (drop k s) ≡ false
has_drop b zero s h = h
has_drop b (suc k) [] h = refl
has_drop b (suc k) (c ∷ s) h = has_drop b k s (hasnt_tail b c s h)

pub until_all : (b : ℕ) (s : Text) → has b s ≡ false → until b s ≡ length s
until_all b [] h = refl
until_all b (c ∷ s) h = cond-false _ _ _ (hasnt_head b c s h) ∙ ap suc (until_all b s (hasnt_tail b c s h))

pub until_hash_all : (p : ℕ) (s : Text) → has HASH s ≡ false → until_hash p s ≡ length s
until_hash_all p [] h = refl
until_hash_all p (b ∷ s) h = cond-false _ _ _ (and_left _ _ (hasnt_head HASH b s h)) ∙ ap suc (until_hash_all b s (hasnt_tail HASH b s h))
