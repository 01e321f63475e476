use Rattle.std.proofs.Common.{suc, ◌∷◌, ◌++◌, take, drop, ap, ◌∙◌, arith}
use Rattle.stack.proofs.Slots.{moved_first}
use Rattle.stack.proofs.array_vec.ArrayVec.move_to_front.Goals as goal

pub returns-clause-item_then_the_others : goal.returns-clause-item_then_the_others
returns-clause-item_then_the_others g c =
    let v = c.args.self.now in
    moved_first v.slots c.rotate_right.new.self c.index-self-i.result v.len c.args.i (omega arith) (omega arith) c.index-self-i.is c.rotate_right.ensures.after
    ∙ ap (λ (x : _). x ∷ (take c.args.i (take v.len v.slots) ++ drop (suc c.args.i) (take v.len v.slots))) c.index-self-i.is
