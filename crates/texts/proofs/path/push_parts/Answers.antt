use Rattle.std.proofs.Common.{◌≡◌, ◌≤◌, false, map, length, take, is_ok, sym, ap, ◌∙◌, arith}
use Rattle.std.proofs.lemmas.List.{length-map}
use Rattle.std.proofs.lemmas.Bool.{cond-false, le-leb, lt-leb, ltb-false}
use Rattle.stack.specs.Items.{items, capacity}
use Rattle.stack.proofs.Laws.{length_items}
use Rattle.texts.specs.Parts.{Mark, marks, parts, place_of, places}
use Rattle.texts.specs.Walks.{left}
use Rattle.texts.proofs.PartLoops.{none_left, one_less, push_counts, push_undone}
use Rattle.texts.proofs.path.push_parts.Goals as goal

pub returns-then-is_err-clause-room_for_all : goal.returns-then-is_err-clause-room_for_all
unfolding parts
returns-then-is_err-clause-room_for_all c =
    let was = items c.args.found.now in
    let held = items c.loop-place.found in
    let ms = left c.loop-place.place-iterator in
    let refused : is_ok c.push.result ≡ false = c.if-is_err.ensures.negation in
    let full : capacity c.loop-place.found ≤ length held = ltb-false _ _ (sym c.push.ensures.refused_only_when_full ∙ refused) in
    let count = push_counts was held (map place_of ms) (places c.args.text.now) c.loop-place.invariant.0 c.loop-place.invariant.1 in
    let one = ap length (one_less ms c.in-Some.place c.in-Some.ensures.steps.place_of_the_next_part) in
    sym (lt-leb _ _ (omega (arith, full, count, one, c.loop-place.invariant.2, length-map (marks c.args.text.now) place_of, length-map (marks c.args.text.now) (λ (m : Mark). m.0))))

pub returns-then-is_err-clause-places_on_top : goal.returns-then-is_err-clause-places_on_top
returns-then-is_err-clause-places_on_top c =
    let was = items c.args.found.now in
    let held = items c.loop-place.found in
    let ms = left c.loop-place.place-iterator in
    let refused : is_ok c.push.result ≡ false = c.if-is_err.ensures.negation in
    c.truncate.ensures.items_after
    ∙ (λ i. take (c.len-had.ensures.counts_the_items i) ((c.push.ensures.items_after ∙ cond-false _ _ _ refused) i))
    ∙ push_undone was held (map place_of ms) (places c.args.text.now) c.loop-place.invariant.0 c.loop-place.invariant.1

pub returns-clause-room_for_all : goal.returns-clause-room_for_all
unfolding parts
returns-clause-room_for_all c =
    let was = items c.args.found.now in
    let held = items c.loop-place.found in
    let ms = left c.loop-place.place-iterator in
    let none = ap (map place_of) (none_left ms c.in-None.ensures.steps.place_of_the_next_part) in
    let count = push_counts was held (map place_of ms) (places c.args.text.now) c.loop-place.invariant.0 c.loop-place.invariant.1 in
    sym (le-leb _ _ (omega (arith, count, ap length none, c.loop-place.invariant.2, length_items c.loop-place.found, c.loop-place.found.sound, length-map (marks c.args.text.now) place_of, length-map (marks c.args.text.now) (λ (m : Mark). m.0))))
