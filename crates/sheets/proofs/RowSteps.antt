-- The columns of a row have room for its numbers. Assumes nothing.
use Rattle.std.proofs.Common.{◌≡◌, ℕ, ◌≤◌, Bool, true, [], ◌∷◌, Some, refl, ap}
use Rattle.std.specs.Bool.{then_some}
use Rattle.std.proofs.lemmas.Bool.{and_from, le-leb}
use Rattle.lines.specs.Columns.{columns, have_room, written}

five_fit : (a b c d e : ℕ) → a ≤ 999 → b ≤ 999 → c ≤ 999 → d ≤ 999 → e ≤ 999 → have_room (a ∷ b ∷ c ∷ d ∷ e ∷ []) ≡ true
unfolding have_room
five_fit a b c d e ha hb hc hd he =
    and_from _ _ (le-leb a 999 ha) (and_from _ _ (le-leb b 999 hb) (and_from _ _ (le-leb c 999 hc) (and_from _ _ (le-leb d 999 hd) (and_from _ _ (le-leb e 999 he) refl))))

-- so they are written
pub five_written : (a b c d e : ℕ) → a ≤ 999 → b ≤ 999 → c ≤ 999 → d ≤ 999 → e ≤ 999 → written (a ∷ b ∷ c ∷ d ∷ e ∷ []) ≡ Some (columns (a ∷ b ∷ c ∷ d ∷ e ∷ []))
unfolding written
five_written a b c d e ha hb hc hd he = ap (λ (v : Bool). then_some v (columns (a ∷ b ∷ c ∷ d ∷ e ∷ []))) (five_fit a b c d e ha hb hc hd he)
