use Rattle.std.proofs.Common.{◌≡◌, ◌<◌, sym, ◌∙◌, subst, rules, length}
use borrow.Author.Tests.{tests}
use Rattle.std.specs.List.{position_from}
use Rattle.std.proofs.lemmas.Iterator.{YieldsList-from_slice}
use Rattle.std.proofs.lemmas.Iterator.Adapters.{position_from-zero, serves_from_places}
use Rattle.std.proofs.lemmas.Iterator.Search.{position_from_yields_List}
use Rattle.stack.specs.Held as list
use Rattle.texts.specs.Parts.{parts, same_parts}
use Rattle.cache.specs.Held.{held, in_slot}
use Rattle.cache.specs.Seen.{Placed}
use Rattle.cache.proofs.Moves.{placed, position_is}
use Rattle.cache.proofs.Order.{place_below}
use Rattle.cache.proofs.recent.Recent.place.Goals as goal

pub position-requires-clause-callable : goal.position-requires-clause-callable
position-requires-clause-callable c =
    let s = c.args.self.now in
    let below = place_below (length (list.held s.entries)) (list.held s.order) s.each_slot_once in
    serves_from_places (YieldsList-from_slice (list.held s.order) cc) (λ x q r. search (rules, tests)) (λ x k low there. let in_use : x.now < length (list.held s.entries) = below k x.now low there in search (rules, tests))

pub returns : goal.returns
returns c =
    let s = c.args.self.now in
    let p = parts c.args.path.now in
    let f = in_slot (list.held s.entries) in
    let is = list.held s.order in
    let found : c.position.result ≡ position_from (λ e. same_parts e.path p) 0 (held s) =
    position_from_yields_List (λ i. same_parts (f i).path p) _ _ _ c.position.ensures.ran (YieldsList-from_slice is cc) (λ x b q k. search (rules, tests))
    ∙ position_from-zero (λ i. same_parts (f i).path p) is
    ∙ position_is p f 0 is in
    record { place_if_held = subst (Placed p (held s)) (sym found) (placed p (held s)) }
