use Rattle.std.proofs.Common.{◌<◌, length, sym, arith}
use Rattle.std.proofs.lemmas.List.{length-set}
use Rattle.std.proofs.lemmas.Bool.{lt-ltb}
use Rattle.stack.proofs.Laws.{length_items, one_more}
use Rattle.stack.proofs.lifo.Stack.push.Goals as goal

pub returns : goal.returns
returns g c =
    let s = c.args.self.now in
    let room : s.len < length s.slots.now = omega arith in
    record {
      refused_only_when_full = sym (lt-ltb _ _ (omega (arith, length_items s)));
      items_after = one_more s c.args.item room;
      same_capacity = length-set _ _ _;
    }
