use Rattle.std.proofs.Common.{◌≡◌, map, drop}
use Rattle.settings.specs.Rows.{alias_of}
use Rattle.explain.specs.Trials.{deciding}
use Rattle.explain.proofs.DecidingSteps.{moved}
use Rattle.explain.proofs.trial.deciding.Given as goal

-- The labels that are left decide.
abbrev pub invariant-loop-i : goal.invariant-loop-i
invariant-loop-i g l = record {
  sound : g.T.FileTree.sound l.tree;
  same_meaning : g.T.FileTree.meaning l.tree ≡ g.T.FileTree.meaning l.initial.tree;
  left_decide : moved l.i (deciding (g.T.FileTree.meaning l.initial.tree) l.question.directory.now l.question.request.now (drop l.i (map alias_of l.aliases))) ≡ deciding (g.T.FileTree.meaning l.initial.tree) l.question.directory.now l.question.request.now (map alias_of l.aliases);
}
