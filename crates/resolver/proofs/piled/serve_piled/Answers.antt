use Rattle.resolver.proofs.EveryPile.{laws_over_every_pile}
use Rattle.resolver.proofs.piled.serve_piled.Goals as goal

pub returns-in_err-host-clause-laws_hold_over_every_pile : goal.returns-in_err-host-clause-laws_hold_over_every_pile
returns-in_err-host-clause-laws_hold_over_every_pile g c = laws_over_every_pile

pub returns-clause-laws_hold_over_every_pile : goal.returns-clause-laws_hold_over_every_pile
returns-clause-laws_hold_over_every_pile g c = laws_over_every_pile
