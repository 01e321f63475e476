use Rattle.std.proofs.Common.{◌≡◌, ◌++◌, length, map}
use Rattle.settings.specs.Rows.{alias_of}
use Rattle.alias.specs.Attempts.{attempts}
use Rattle.alias.specs.Left.{left}
use Rattle.explain.specs.Trials.{tried}
use Rattle.explain.proofs.trial.trials.Given as goal

-- What was found and what is left are all the attempts.
abbrev pub invariant-loop-attempt : goal.invariant-loop-attempt
invariant-loop-attempt g l = record {
  sound : g.T.FileTree.sound l.tree;
  same_meaning : g.T.FileTree.meaning l.tree ≡ g.T.FileTree.meaning l.initial.tree;
  room : length l.work ≡ 255;
  found_and_left : map (tried (map alias_of l.aliases) l.question.request.now) l.found.items ++ left (g.T.FileTree.meaning l.initial.tree) l.question.directory.now l.question.request.now (map alias_of l.aliases) l.progress ≡ attempts (g.T.FileTree.meaning l.initial.tree) l.question.directory.now l.question.request.now (map alias_of l.aliases);
}

abbrev pub decreases-loop-attempt : goal.decreases-loop-attempt
decreases-loop-attempt g l = length (left (g.T.FileTree.meaning l.tree) l.question.directory.now l.question.request.now (map alias_of l.aliases) l.progress)
