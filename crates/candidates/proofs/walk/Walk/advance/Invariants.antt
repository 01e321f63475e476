use Rattle.std.proofs.Common.{◌≡◌}
use Rattle.settings.specs.Meant.{tables}
use Rattle.candidates.specs.Asked.{AskedBetween}
use Rattle.candidates.specs.Left.{left, rank}
use Rattle.candidates.proofs.walk.Walk.advance.Given as goal

-- As much is left as at first; nothing was written.
abbrev pub invariant-loop-host : goal.invariant-loop-host
invariant-loop-host g l = record {
  sound : g.H.FileTree.sound l.host;
  same_meaning : g.H.FileTree.meaning l.host ≡ g.H.FileTree.meaning l.initial.host;
  nothing_written : l.out ≡ l.initial.out;
  as_much_left : left (tables l.sought.settings.now) l.sought.fully_specified l.sought.path.now (g.H.FileTree.meaning l.initial.host) l.self ≡ left (tables l.sought.settings.now) l.sought.fully_specified l.sought.path.now (g.H.FileTree.meaning l.initial.host) l.initial.self;
  asked_only_at_the_directory : AskedBetween g.H.FileTree.steps (g.H.FileTree.meaning l.initial.host) l.sought.path.now l.initial.self.stage l.self.stage l.initial.host l.host;
}

abbrev pub decreases-loop-host : goal.decreases-loop-host
decreases-loop-host g l = rank l.self.stage
