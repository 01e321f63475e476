use Rattle.std.proofs.Common.{refl, arith}
use Rattle.stack.proofs.Laws.{fewer, no_fewer}
use Rattle.stack.proofs.lifo.Stack.truncate.Goals as goal

pub returns-then-n-self : goal.returns-then-n-self
returns-then-n-self g c = record { items_after = fewer c.args.self.now _ _ (omega arith) refl; same_capacity = refl }

pub returns-else-n-self : goal.returns-else-n-self
returns-else-n-self g c = record { items_after = no_fewer c.args.self.now _ (omega arith); same_capacity = refl }
