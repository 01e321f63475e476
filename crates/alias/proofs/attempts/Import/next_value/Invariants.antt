use Rattle.std.proofs.Common.{◌≡◌, Bool, List, drop, map}
use Rattle.settings.specs.Rows.{value_of}
use Rattle.alias.specs.Asked.{ValuesAsked}
use Rattle.alias.specs.Attempts.{Attempt as Tried, value_attempts}
use Rattle.alias.proofs.attempts.Import.next_value.Given as goal

-- The values in front were passed over; nothing was written.
abbrev pub invariant-loop-i : goal.invariant-loop-i
invariant-loop-i g l = record {
  sound : g.T.FileTree.sound l.tree;
  nothing_written : l.work ≡ l.initial.work;
  same_meaning : g.T.FileTree.meaning l.tree ≡ g.T.FileTree.meaning l.initial.tree;
  asked_value_by_value : ValuesAsked g.T.FileTree.steps l.label l.self.request.now (drop l.from (map value_of l.values)) (drop l.i (map value_of l.values)) l.initial.tree l.tree;
  passed_over : (tried : Bool) (later : List Tried) → value_attempts (g.T.FileTree.meaning l.initial.tree) l.self.directory.now l.self.request.now l.label (drop l.i (map value_of l.values)) tried later ≡ value_attempts (g.T.FileTree.meaning l.initial.tree) l.self.directory.now l.self.request.now l.label (drop l.from (map value_of l.values)) tried later;
}
