use Rattle.std.proofs.Common.{◌≡◌, ◌+◌, ℕ, cond, ltb, [], ◌∷◌, is_ok, is_some, length, map, sym, ap, ◌∙◌, arith}
use Rattle.std.proofs.lemmas.List.{length-append, length-set}
use Rattle.stack.proofs.Slots.{held_within}
use Rattle.stack.specs.Held as list
use Rattle.texts.specs.Parts.{parts}
use Rattle.cache.specs.Held.{in_slot}
use Rattle.cache.proofs.Moves.{both_put, remembered_behind, remembered_over}
use Rattle.cache.proofs.Order.{is_there, length_kept, moved, once_more, times, times_kept}
use Rattle.cache.proofs.recent.Recent.remember.Goals as goal

pub invariant_of-self : goal.invariant_of-self
invariant_of-self c =
    let s = c.args.self.now in
    let es = list.held s.entries in
    let is = list.held s.order in
    let x = c.new-entry.result in
    let as_slice = ap length c.as_slice-count.ensures.items_in_their_order in
    let now = both_put x es (list.held c.push.new.self) (is_ok c.push.result) is (list.held c.push_front.new.self) (length c.as_slice-count.result.now) (is_ok c.push_front.result) s.as_many as_slice (omega arith) c.push.ensures.refused_only_when_full c.push.ensures.items_after c.push_front.ensures.refused_only_when_full c.push_front.ensures.items_after in
    let one_more : length (list.held c.push.new.self) ≡ length es + 1 = ap length now.0 ∙ length-append es (x ∷ []) in
    record {
      each_slot_once = λ j. ap (times j) now.1 ∙ once_more (length es) is s.each_slot_once (length (list.held c.push.new.self)) one_more j;
      as_many = omega (arith, ap length now.1, s.as_many, one_more);
    }

pub unwrap-oldest-requires : goal.unwrap-oldest-requires
unwrap-oldest-requires c =
    let s = c.args.self.now in
    ap is_some c.move_to_front.ensures.item_at_the_place ∙ is_there (list.held s.order) 63 (omega (arith, ap length c.as_slice-count.ensures.items_in_their_order))

pub invariant_of-self-else-count-lt-ROOM : goal.invariant_of-self-else-count-lt-ROOM
invariant_of-self-else-count-lt-ROOM c =
    let s = c.args.self.now in
    let to = c.move_to_front in
    let as_many : length (list.held c.set.new.self) ≡ length (list.held s.entries) = ap length c.set.ensures.only_that_item_changes ∙ length-set _ _ _ in
    record {
      each_slot_once = λ j. times_kept (list.held s.order) (list.held to.new.self) 63 to.result to.ensures.item_at_the_place to.ensures.item_then_the_others j ∙ s.each_slot_once j ∙ ap (λ (n : ℕ). cond (ltb j n) 1 0) (sym as_many);
      as_many = length_kept (list.held s.order) (list.held to.new.self) 63 to.result to.ensures.item_at_the_place to.ensures.item_then_the_others ∙ s.as_many ∙ sym as_many;
    }

pub returns-then-count-lt-ROOM : goal.returns-then-count-lt-ROOM
returns-then-count-lt-ROOM c =
    let s = c.args.self.now in
    let es = list.held s.entries in
    let is = list.held s.order in
    let x = c.new-entry.result in
    let as_slice = ap length c.as_slice-count.ensures.items_in_their_order in
    let now = both_put x es (list.held c.push.new.self) (is_ok c.push.result) is (list.held c.push_front.new.self) (length c.as_slice-count.result.now) (is_ok c.push_front.result) s.as_many as_slice (omega arith) c.push.ensures.refused_only_when_full c.push.ensures.items_after c.push_front.ensures.refused_only_when_full c.push_front.ensures.items_after in
    record {
      becomes_the_latest =
          (λ k. map (in_slot (now.0 k)) (now.1 k))
          ∙ remembered_behind (parts c.args.path.now) c.args.kind es is x c.new-entry.ensures.path_with_its_kind s.each_slot_once c.requires.not_held_yet (omega arith);
    }

pub returns-else-count-lt-ROOM : goal.returns-else-count-lt-ROOM
returns-else-count-lt-ROOM c =
    let s = c.args.self.now in
    let es = list.held s.entries in
    let is = list.held s.order in
    let to = c.move_to_front in
    let now = moved is (list.held to.new.self) 63 to.result to.ensures.item_at_the_place to.ensures.item_then_the_others c.unwrap-oldest.result c.unwrap-oldest.ensures in
    record {
      becomes_the_latest =
          (λ k. map (in_slot (c.set.ensures.only_that_item_changes k)) (now.1 k))
          ∙ remembered_over (parts c.args.path.now) c.args.kind es is c.new-entry.result c.new-entry.ensures.path_with_its_kind s.each_slot_once c.requires.not_held_yet c.unwrap-oldest.result now.0 (held_within s.order);
    }
