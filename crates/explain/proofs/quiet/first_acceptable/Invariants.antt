use Rattle.std.proofs.Common.{◌≡◌, drop, map}
use Rattle.texts.specs.Texts.{Text}
use Rattle.explain.specs.Offers.{shown}
use Rattle.explain.specs.Quiet.{first_acceptable}
use Rattle.explain.proofs.quiet.first_acceptable.Given as goal

-- The first acceptable one is among those that are left.
abbrev pub invariant-loop-offer : goal.invariant-loop-offer
invariant-loop-offer l =
    (path : Text) → first_acceptable (map (shown path) l.offers) ≡ first_acceptable (drop l.offer-index (map (shown path) l.offers))
