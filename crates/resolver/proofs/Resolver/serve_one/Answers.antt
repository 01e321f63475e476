use Rattle.std.proofs.Common.{sym}
use Rattle.std.proofs.Math.Path.{transport}
use Rattle.resolver.specs.Served.{Moves, left_alone, may_ask, told_to_forget}
use Rattle.resolver.proofs.Resolver.serve_one.Goals.{in-Forget, in-Resolve, in-Tally}
use Rattle.resolver.proofs.Resolver.serve_one.Goals as goal

pub returns-clause-host_is_told : goal.returns-clause-host_is_told
returns-clause-host_is_told g c =
    let before = c.args.self.now.host in
    elim c.match-call.branch [
      | in-Resolve w ↦ transport (λ i. Moves g.H.FileTree.steps (sym w.in-Resolve.is i) before c.match-call.self.host) (may_ask w.in-Resolve.directory w.in-Resolve.request)
      | in-Forget w ↦ transport (λ i. Moves g.H.FileTree.steps (sym w.in-Forget.is i) before (sym w.self-is i).host) (told_to_forget w.forget.ensures.told_to_the_host)
      | in-Tally w ↦ transport (λ i. Moves g.H.FileTree.steps (sym w.in-Tally.is i) before (sym w.self-is i).host) left_alone
    ]
