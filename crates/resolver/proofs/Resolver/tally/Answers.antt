use Rattle.std.proofs.Common.{arith}
use Rattle.settings.specs.Meant.{tables}
use Rattle.resolver.specs.Runs.{tallied, tallied_right}
use Rattle.resolver.proofs.Runs.{reached_then}
use Rattle.resolver.proofs.Resolver.tally.Goals as goal

pub returns-clause-run_goes_on_as_defined : goal.returns-clause-run_goes_on_as_defined
returns-clause-run_goes_on_as_defined g c =
    let s = c.args.self.now in
    λ past h.
    reached_then (g.H.FileTree.meaning s.host) (g.P.Policy.allowed s.policy) (tables s.settings) past (tallied s.handed_out) s.handed_out s.handed_out h (tallied_right s.handed_out h.counted) (omega (arith, s.counts_up_to_its_ceiling))
