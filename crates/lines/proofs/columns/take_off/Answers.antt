use Rattle.std.proofs.Common.{ℕ, ◌%◌, sym, ap, ◌∙◌, arith}
use lib.Arith.{digits_mod}
use Rattle.lines.proofs.columns.take_off.Goals as goal

pub returns-clause-remainder_by_the_unit : goal.returns-clause-remainder_by_the_unit
returns-clause-remainder_by_the_unit c = sym (ap (λ (m : ℕ). m % c.args.unit) (sym c.loop-left.invariant) ∙ digits_mod c.loop-left.times (omega arith))
