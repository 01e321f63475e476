use Rattle.std.proofs.Common.{◌+◌, ◌++◌, map, drop, Bool, sym, ap, ◌∙◌, arith, refl}
use Rattle.std.proofs.lemmas.List.{length-map, at_drop_all}
use Rattle.stack.proofs.Slots.{mapped_from}
use Rattle.explain.specs.Offers.{candidate_line, candidate_lines, shown}
use Rattle.explain.proofs.Writing.{all_written, goes_on}
use Rattle.explain.proofs.sentence.offered.OfferedDisplay.fmt.Goals as goal

pub loop-offer-preserved : goal.loop-offer-preserved
loop-offer-preserved g c plain =
    let path = c.args.self.now.path.now in
    let offers = c.args.self.now.offers.now in
    let i = c.loop-offer.offer-index in
    let first = c.loop-offer.first in
    let go = c.loop-offer.invariant plain in
    let rest = drop (i + 1) (map (shown path) offers) in
    goes_on g.W.Write.write_str_gives c.args.f.now _ c.loop-offer.f c.write.new.self _ (candidate_line first (shown path c.offer-item.result)) (candidate_lines c.stays_open-first.result rest)
    (ap (candidate_lines first) (mapped_from (shown path) offers i c.offer-item.result (omega arith) c.offer-item.is)
    ∙ ap (λ (b : Bool). candidate_line first (shown path c.offer-item.result) ++ candidate_lines b rest) (sym (c.stays_open-first.ensures.until_an_acceptable_one path)))
    (c.in_ok-write.ensures.writes go.0 refl) go

pub returns-clause-writes : goal.returns-clause-writes
returns-clause-writes g c plain ok =
    let path = c.args.self.now.path.now in
    let offers = c.args.self.now.offers.now in
    let i = c.loop-offer.offer-index in
    all_written g.W.Write.write_str_gives c.args.f.now _ c.loop-offer.f _
    (at_drop_all (candidate_lines c.loop-offer.first) (map (shown path) offers) i (omega (arith, length-map offers (shown path))))
    (c.loop-offer.invariant plain)
