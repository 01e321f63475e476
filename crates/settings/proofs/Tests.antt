-- Tests of all bytes and of all texts, as the library says them. Assumes nothing.
use Rattle.std.proofs.Common.{◌≡◌, ℕ, true, false, cond, ◌||◌, eqb, List, [], ◌∷◌, map, length, refl, arith}
use Rattle.std.proofs.lemmas.Bool.{eq-eqb, ne_eqb}
use Rattle.std.specs.List.{list_any}
use Rattle.texts.specs.Held.{bytes_of}
use Rattle.texts.specs.Texts.{Text, empty, has}
use Rattle.texts.specs.declared.text.Text as room
use Rattle.settings.specs.Tables.{some_empty}

pub has_any : (b : ℕ) (t : Text) → list_any (λ (c : ℕ). eqb c b) t ≡ has b t
has_any b [] = refl
has_any b (c ∷ t) = elim (eqb c b) as (λ v. (v || list_any (λ (d : ℕ). eqb d b) t) ≡ cond v true (has b t)) [ true ↦ refl | false ↦ has_any b t ]

-- a text without bytes is empty
sized_empty : (t : Text) → eqb (length t) 0 ≡ empty t
sized_empty [] = eq-eqb 0 0 refl
sized_empty (b ∷ t) = ne_eqb (length (b ∷ t)) 0 (λ e. omega arith)

pub any_empty : {N : ℕ} (ts : List (room.Text N)) → list_any (λ (t : room.Text N). eqb (length (bytes_of t)) 0) ts ≡ some_empty (map bytes_of ts)
any_empty [] = refl
any_empty {N} (t ∷ ts) = (λ i. sized_empty (bytes_of t) i || any_empty ts i)
