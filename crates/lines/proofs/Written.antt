-- Numbers that are written one after the other, each with a blank behind it.
use Rattle.std.proofs.Common.{◌≡◌, ℕ, ◌+◌, ◌*◌, ◌<◌, ◌≤◌, Bool, true, false, ◌&&◌, List, [], ◌∷◌, ◌++◌, length, get_or, take, drop, Some, None, ap, ◌∙◌, sym, append_assoc, refl, arith}
use Rattle.std.specs.Bool.{then_some}
use Rattle.std.proofs.lemmas.Bool.{and_left}
use Rattle.std.proofs.lemmas.List.{append-nil, at_drop_more, drop_all, take_all}
use Rattle.lines.specs.Columns.{blank, column, columns, has_room, have_room, written}

-- something is there exactly where the test holds
not_there : (b : Bool) (x : List ℕ) → None ≡ then_some b x → b ≡ false
not_there true x h = cc
not_there false x h = refl

there : (b : Bool) (x y : List ℕ) → Some y ≡ then_some b x → (b ≡ true) × (y ≡ x)
there true x y h = let e : y ≡ x = cc in (refl, e)
there false x y h = cc

-- at the number at i, whose column the code asked for
module _ (ns : List ℕ) (i : ℕ) (within : i < length ns) where
  abbrev n : ℕ
  n = get_or ns i 0

  -- a number without room leaves none for all
  pub none_written : have_room (drop i ns) ≡ have_room ns → None ≡ then_some (has_room n) (column n) → None ≡ written ns
  unfolding have_room written
  none_written same h =
      let all : have_room ns ≡ false = sym same ∙ at_drop_more have_room ns i 0 within ∙ and_left _ _ (not_there _ _ h) in
      simp all

  -- one number more
  pub room_more : (cell : List ℕ) → Some cell ≡ then_some (has_room n) (column n) → have_room (drop i ns) ≡ have_room ns → have_room (drop (i + 1) ns) ≡ have_room ns
  unfolding have_room
  room_more cell h same =
      let yes : has_room n ≡ true = (there _ _ _ h).0 in
      let here : have_room (drop i ns) ≡ (has_room n && have_room (drop (i + 1) ns)) = at_drop_more have_room ns i 0 within in
      sym (here ∙ ap (λ (b : Bool). b && have_room (drop (i + 1) ns)) yes) ∙ same

  abbrev with_blank : List ℕ → List ℕ
  with_blank cell = get_or cell 0 0 ∷ get_or cell 1 0 ∷ get_or cell 2 0 ∷ blank ∷ []

  pub columns_more : (cells next bytes cell : List ℕ)
      → cells ++ columns (drop i ns) ≡ columns ns → Some cell ≡ then_some (has_room n) (column n) → next ≡ cells ++ bytes → bytes ≡ with_blank cell
      → next ++ columns (drop (i + 1) ns) ≡ columns ns
  unfolding columns column
  columns_more cells next bytes cell so h is e =
      let four : bytes ≡ column n ++ blank ∷ [] = e ∙ ap with_blank (there _ _ _ h).1 in
      let rest : List ℕ = columns (drop (i + 1) ns) in
      ap (λ (xs : List ℕ). xs ++ rest) (is ∙ ap (λ (xs : List ℕ). cells ++ xs) four)
      ∙ append_assoc cells (column n ++ blank ∷ []) rest
      ∙ ap (λ (xs : List ℕ). cells ++ xs) (sym (at_drop_more columns ns i 0 within))
      ∙ so

-- behind the last number
module _ (ns cells : List ℕ) (i len : ℕ) (size : length cells ≡ len) (four : len ≡ 4 * length ns) (end : length ns ≤ i) where
  pub all_written : have_room (drop i ns) ≡ have_room ns → take (4 * i) cells ++ columns (drop i ns) ≡ columns ns → Some cells ≡ written ns
  unfolding have_room columns written
  all_written room so =
      let yes : have_room ns ≡ true = sym room ∙ ap have_room (drop_all i ns end) in
      let all : cells ≡ columns ns =
      sym (append-nil cells)
      ∙ ap (λ (xs : List ℕ). xs ++ []) (sym (take_all (4 * i) cells (omega arith)))
      ∙ ap (λ (xs : List ℕ). take (4 * i) cells ++ columns xs) (sym (drop_all i ns end))
      ∙ so in
      simp (yes, all)
