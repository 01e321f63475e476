use Rattle.std.proofs.Common.{◌∷◌, [], ◌++◌, sym, subst, arith}
use Rattle.tree.specs.Meanings.{Meaning}
use Rattle.settings.specs.Meant.{tables}
use Rattle.resolver.specs.Runs.{Reached, forgot, forgot_right}
use Rattle.resolver.proofs.Runs.{reached_then}
use Rattle.resolver.proofs.Resolver.forget.Goals as goal

pub returns-clause-run_goes_on_as_defined : goal.returns-clause-run_goes_on_as_defined
returns-clause-run_goes_on_as_defined g c =
    let s = c.args.self.now in
    let m = g.H.FileTree.meaning s.host in
    let allowed = g.P.Policy.allowed s.policy in
    let t = tables s.settings in
    λ past h.
    subst (λ (n : Meaning). Reached n allowed t (past ++ forgot ∷ []) s.handed_out) (sym c.forget.ensures.same_meaning)
    (reached_then m allowed t past forgot s.handed_out s.handed_out h forgot_right (omega (arith, s.counts_up_to_its_ceiling)))
