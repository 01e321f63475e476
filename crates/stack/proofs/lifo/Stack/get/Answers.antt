use Rattle.std.proofs.Common.{Some, sym, refl, ap, ◌∙◌, arith}
use Rattle.stack.specs.Items.{items}
use Rattle.stack.proofs.Laws.{item_at_beyond, length_items, slot_is}
use Rattle.stack.proofs.lifo.Stack.get.Goals as goal

pub returns-then-i-self : goal.returns-then-i-self
returns-then-i-self g c =
    let s = c.args.self.now in
    record { item_at_the_place = sym (item_at_beyond (items s) c.args.i (omega (arith, length_items s))) }

pub returns : goal.returns
returns g c = record { item_at_the_place = ap Some c.slot.ensures.item_in_the_slot ∙ slot_is c.args.self.now _ _ _ (omega arith) refl }
