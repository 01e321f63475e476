use Rattle.std.proofs.Common.{◌+◌, map, drop, sym, ap, ◌∙◌, arith}
use Rattle.std.proofs.lemmas.List.{length-map, at_drop_all}
use Rattle.stack.proofs.Slots.{mapped_from}
use Rattle.explain.specs.Offers.{shown}
use Rattle.explain.specs.Quiet.{first_acceptable}
use Rattle.explain.proofs.QuietSteps.{passed_by, stays_first}
use Rattle.explain.proofs.quiet.first_acceptable.Goals as goal

pub returns-in-Some : goal.returns-in-Some
returns-in-Some c =
    let offers = c.args.offers.now in
    let i = c.loop-offer.offer-index in
    let offer = c.offer-item.result in
    record {
      first_that_may_be_handed_out = λ path. sym (
          c.loop-offer.invariant path
          ∙ ap first_acceptable (mapped_from (shown path) offers i offer (omega arith) c.offer-item.is)
          ∙ stays_first (shown path offer) (drop (i + 1) (map (shown path) offers)) _ (sym (c.in-Some.ensures.alone_if_it_may path)));
    }

pub loop-offer-preserved : goal.loop-offer-preserved
loop-offer-preserved c path =
    let offers = c.args.offers.now in
    let i = c.loop-offer.offer-index in
    let offer = c.offer-item.result in
    c.loop-offer.invariant path
    ∙ ap first_acceptable (mapped_from (shown path) offers i offer (omega arith) c.offer-item.is)
    ∙ passed_by (shown path offer) (drop (i + 1) (map (shown path) offers)) (sym (c.in_default.ensures.alone_if_it_may path))

pub returns : goal.returns
returns c =
    let offers = c.args.offers.now in
    let i = c.loop-offer.offer-index in
    record {
      first_that_may_be_handed_out = λ path. sym (
          c.loop-offer.invariant path
          ∙ at_drop_all first_acceptable (map (shown path) offers) i (omega (arith, length-map offers (shown path))));
    }
