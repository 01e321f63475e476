use Rattle.std.proofs.Common.{◌≡◌, ℕ, ◌+◌, ◌/◌, cond, ltb, List, [], ◌∷◌, ap, ◌∙◌, arith}
use Rattle.std.proofs.lemmas.Bool.{le-leb}
use Rattle.std.proofs.lemmas.Bool.Decides.{nat_tests}
use Rattle.lines.specs.Columns.{blank, column, last_digit, number_at}
use Rattle.lines.proofs.Back.{column_back}
use Rattle.lines.proofs.columns.write_column.Goals as goal
use Rattle.lines.proofs.columns.write_column.Goals.{then-n-lt100, else-n-lt100, then-n-lt10, else-n-lt10}

first_byte : (c : goal.Joined-n-lt10) → c.if-n-lt100.first ≡ cond (ltb c.args.n 100) blank (last_digit (c.args.n / 100))
first_byte c =
    elim c.if-n-lt100.branch [ then-n-lt100 w ↦ grind (arith, nat_tests) | else-n-lt100 w ↦ grind (arith, nat_tests) ]

second_byte : (c : goal.Joined-n-lt10) → c.if-n-lt10.second ≡ cond (ltb c.args.n 10) blank (last_digit (c.args.n / 10))
second_byte c =
    elim c.if-n-lt10.branch [ then-n-lt10 w ↦ grind (arith, nat_tests) | else-n-lt10 w ↦ grind (arith, nat_tests) ]

third_byte : (c : goal.Joined-n-lt10) → 48 + c.take_off-tens.result.1 ≡ last_digit c.args.n
third_byte c = omega arith

all_bytes : (c : goal.Joined-n-lt10) → c.if-n-lt100.first ∷ c.if-n-lt10.second ∷ (48 + c.take_off-tens.result.1) ∷ [] ≡ column c.args.n
unfolding column
all_bytes c = simp (first_byte c, second_byte c, third_byte c)

pub returns : goal.returns
returns c =
    record {
      writes_the_column = simp (le-leb c.args.n 999 (omega arith), all_bytes c);
      reads_back = ap (λ (l : List ℕ). number_at l 0) (all_bytes c) ∙ column_back c.args.n (omega arith);
    }
