-- Numbers that are written in columns are read back.
use Rattle.std.proofs.Common.{◌≡◌, ℕ, ◌≤◌, Bool, true, false, List, Some, Option, MatchOption, sym, refl, subst, arith}
use Rattle.std.specs.Bool.{then_some}
use Rattle.std.proofs.lemmas.Bool.Decides.{nat_tests}
use Rattle.lines.specs.Columns.{column, columns, have_room, number_at, written}
use Rattle.lines.specs.Sheets.{has_blanks, head_numbers, head_of, row_numbers, Shows}
use Rattle.lines.specs.declared.Head.{Head}
use Rattle.lines.specs.declared.Row.{Row}

-- one number
pub column_back : (n : ℕ) → n ≤ 999 → number_at (column n) 0 ≡ Some n
unfolding column number_at
column_back n h = grind (arith, nat_tests)

-- the blanks of a head
blanks_there : (h : Head) → has_blanks (columns (head_numbers h)) ≡ true
unfolding has_blanks column columns
blanks_there h = refl

-- the numbers of a head
pub head_back : (h : Head) → have_room (head_numbers h) ≡ true → head_of (columns (head_numbers h)) ≡ Some h
unfolding head_of number_at column columns have_room
head_back h room =
    let kind : number_at (columns (head_numbers h)) 0 ≡ Some h.kind = column_back h.kind (grind (arith, nat_tests)) in
    let first : number_at (columns (head_numbers h)) 4 ≡ Some h.first = column_back h.first (grind (arith, nat_tests)) in
    let second : number_at (columns (head_numbers h)) 8 ≡ Some h.second = column_back h.second (grind (arith, nat_tests)) in
    simp (blanks_there h, kind, first, second)

-- the numbers of a row
pub row_back : (r : Row) → have_room (row_numbers r) ≡ true → Shows (columns (row_numbers r)) r
unfolding number_at column columns have_room
row_back r room =
    record {
      number = column_back r.number (grind (arith, nat_tests));
      rounds = column_back r.rounds (grind (arith, nat_tests));
      first = column_back r.first (grind (arith, nat_tests));
      second = column_back r.second (grind (arith, nat_tests));
      third = column_back r.third (grind (arith, nat_tests));
    }

-- what was written, if there was room
pub told : (ns : List ℕ) (P : List ℕ → Type 0) → (have_room ns ≡ true → P (columns ns)) → (r : Option (List ℕ)) → r ≡ written ns → MatchOption r (have_room ns ≡ false) P
unfolding written
told ns P h r is =
    subst (λ (o : Option (List ℕ)). MatchOption o (have_room ns ≡ false) P) (sym is)
    (elim (have_room ns) as (λ (b : Bool). have_room ns ≡ b → MatchOption (then_some b (columns ns)) (have_room ns ≡ false) P) [ true ↦ h | false ↦ λ e. e ] refl)
