use Rattle.std.proofs.Common.{◌≡◌, Some, is_some, length, map, sym, ap, ◌∙◌, arith}
use Rattle.std.proofs.lemmas.List.{length-map}
use Rattle.stack.proofs.Slots.{held_within}
use Rattle.stack.specs.Held as list
use Rattle.stack.specs.Items.{item_at}
use Rattle.texts.specs.Parts.{parts}
use Rattle.cache.specs.Held.{in_slot}
use Rattle.cache.specs.Seen.{Seen}
use Rattle.cache.proofs.Moves.{kind_is, renewed_is}
use Rattle.cache.proofs.Order.{is_there, item_below, length_kept, moved, times_kept}
use Rattle.cache.proofs.recent.Recent.recall.Goals as goal

pub invariant_of-self : goal.invariant_of-self
invariant_of-self c =
    let s = c.args.self.now in
    let to = c.move_to_front in
    record {
      each_slot_once = λ j. times_kept (list.held s.order) (list.held to.new.self) c.in_ok-i.i to.result to.ensures.item_at_the_place to.ensures.item_then_the_others j ∙ s.each_slot_once j;
      as_many = length_kept (list.held s.order) (list.held to.new.self) c.in_ok-i.i to.result to.ensures.item_at_the_place to.ensures.item_then_the_others ∙ s.as_many;
    }

pub unwrap-slot-requires : goal.unwrap-slot-requires
unwrap-slot-requires c =
    let s = c.args.self.now in
    let inside = c.in_ok-i.ensures.place_if_held.0 in
    ap is_some c.move_to_front.ensures.item_at_the_place ∙ is_there (list.held s.order) c.in_ok-i.i (omega (arith, length-map (list.held s.order) (in_slot (list.held s.entries))))

pub entry-entry-requires : goal.entry-entry-requires
entry-entry-requires c =
    let s = c.args.self.now in
    let there : Some c.unwrap-slot.result ≡ item_at (list.held s.order) c.in_ok-i.i = sym c.unwrap-slot.ensures ∙ c.move_to_front.ensures.item_at_the_place in
    record { in_use = item_below (length (list.held s.entries)) (list.held s.order) s.each_slot_once c.in_ok-i.i c.unwrap-slot.result there }

pub returns-clause-kind_if_held : goal.returns-clause-kind_if_held
returns-clause-kind_if_held c =
    let s = c.args.self.now in
    let there : Some c.unwrap-slot.result ≡ item_at (list.held s.order) c.in_ok-i.i = sym c.unwrap-slot.ensures ∙ c.move_to_front.ensures.item_at_the_place in
    ap (λ (e : Seen). Some e.kind) c.entry-entry.ensures.entry_of_the_slot
    ∙ kind_is (parts c.args.path.now) (in_slot (list.held s.entries)) (list.held s.order) c.in_ok-i.i c.unwrap-slot.result c.in_ok-i.ensures.place_if_held there

pub returns-clause-becomes_the_latest : goal.returns-clause-becomes_the_latest
returns-clause-becomes_the_latest c =
    let s = c.args.self.now in
    let to = c.move_to_front in
    let f = in_slot (list.held s.entries) in
    let now = moved (list.held s.order) (list.held to.new.self) c.in_ok-i.i to.result to.ensures.item_at_the_place to.ensures.item_then_the_others c.unwrap-slot.result c.unwrap-slot.ensures in
    ap (map f) now.1
    ∙ renewed_is (parts c.args.path.now) f (list.held s.order) c.in_ok-i.i c.unwrap-slot.result c.in_ok-i.ensures.place_if_held now.0 (held_within s.order)
