use Rattle.std.proofs.Common.{refl, arith}
use Rattle.stack.proofs.Laws.{fewer, length_items, slot_is}
use Rattle.stack.proofs.lifo.Stack.pop.Goals as goal

pub returns : goal.returns
returns g c =
    let s = c.args.self.now in
    record {
      top_item = slot_is s _ _ _ (omega arith) (omega (arith, length_items s));
      items_after = fewer s _ _ (omega arith) (omega (arith, length_items s));
      same_capacity = refl;
    }
