use Rattle.std.proofs.Common.{◌≡◌, ◌≤◌, false, drop, map}
use Rattle.settings.specs.Rows.{alias_of}
use Rattle.alias.specs.Asked.{LabelsAsked}
use Rattle.alias.specs.Left.{gone_to, left_of}
use Rattle.alias.proofs.attempts.Progress.next.Given as goal

-- The labels in front gave nothing; nothing was written.
abbrev pub invariant-loop-i : goal.invariant-loop-i
invariant-loop-i g l = record {
  sound : g.T.FileTree.sound l.tree;
  same_meaning : g.T.FileTree.meaning l.tree ≡ g.T.FileTree.meaning l.initial.tree;
  nothing_written : l.work ≡ l.initial.work;
  not_done : l.self.done ≡ false;
  not_beyond : l.self.label ≤ l.i;
  asked_label_by_label : LabelsAsked g.T.FileTree.steps l.request (drop l.initial.self.label (map alias_of l.aliases)) l.initial.self.value (drop l.i (map alias_of l.aliases)) (gone_to l.i l.self).value l.initial.tree l.tree;
  left_from_there : left_of (g.T.FileTree.meaning l.initial.tree) l.directory l.request (drop l.i (map alias_of l.aliases)) (gone_to l.i l.self) ≡ left_of (g.T.FileTree.meaning l.initial.tree) l.directory l.request (drop l.initial.self.label (map alias_of l.aliases)) l.initial.self;
}
