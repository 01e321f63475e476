use Rattle.std.proofs.Common.{◌≡◌, ◌++◌, map, drop}
use Rattle.settings.specs.Meant.{tables}
use Rattle.sheets.specs.Rows.{rows_of}
use Rattle.sheets.specs.Tasks.{task_in}
use Rattle.sheets.specs.Waiting.{rows_then}
use Rattle.sheets.proofs.answering.answer.Given as goal

-- The host, the policy and the settings stay, and what is left to do is still to be written.
abbrev pub invariant-loop-task : goal.invariant-loop-task
invariant-loop-task g l =
    let m = g.H.FileTree.meaning l.initial.resolver.host in
    let allowed = g.P.Policy.allowed l.initial.resolver.policy in
    let t = tables l.initial.resolver.settings in
    g.H.FileTree.sound l.resolver.host
    × (g.H.FileTree.meaning l.resolver.host ≡ m)
    × (l.resolver.settings ≡ l.initial.resolver.settings)
    × (l.resolver.policy ≡ l.initial.resolver.policy)
    × (rows_then m allowed t l.sheet l.work ++ rows_of m allowed t (map (task_in l.sheet) (drop l.task-index l.tasks)) ≡ rows_of m allowed t (map (task_in l.sheet) l.tasks))
