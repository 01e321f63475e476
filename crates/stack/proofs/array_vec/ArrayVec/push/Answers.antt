use Rattle.std.proofs.Common.{sym, arith}
use Rattle.std.proofs.lemmas.List.{length-take-le, take_more_set}
use Rattle.std.proofs.lemmas.Bool.{lt-ltb}
use Rattle.stack.proofs.array_vec.ArrayVec.push.Goals as goal

pub returns : goal.returns
returns g c =
    let v = c.args.self.now in
    record {
      refused_only_when_full = sym (lt-ltb _ g.row.N (omega (arith, length-take-le v.len v.slots (omega arith))));
      items_after = take_more_set v.slots v.len c.args.item (omega arith);
    }
