use Rattle.std.proofs.Common.{arith}
use lib.Seq.{take-set-lt}
use Rattle.stack.proofs.array_vec.ArrayVec.set.Goals as goal

pub returns-then-i-self : goal.returns-then-i-self
returns-then-i-self g c =
    let v = c.args.self.now in
    record { only_that_item_changes = take-set-lt v.len v.slots c.args.i c.args.item (omega arith) }
