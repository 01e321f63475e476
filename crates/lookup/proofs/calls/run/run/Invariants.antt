use Rattle.std.proofs.Common.{◌≡◌, ◌+◌, ◌-◌, length, map}
use Rattle.stack.specs.Items.{capacity}
use Rattle.settings.specs.Meant.{tables}
use Rattle.lookup.specs.Calls.{plugged}
use Rattle.lookup.specs.Moves.{rounds_left, weights}
use Rattle.lookup.specs.Opened.{Short, ended, shown}
use Rattle.lookup.specs.Towers.{Tower, piled}
use Rattle.lookup.specs.Turns.{Sound}
use Rattle.lookup.proofs.calls.run.run.Given as goal

-- What the table ends in stays.
abbrev pub invariant-loop-row : goal.invariant-loop-row
invariant-loop-row g l = record {
  sound : g.H.FileTree.sound l.host;
  same_meaning : g.H.FileTree.meaning l.host ≡ g.H.FileTree.meaning l.initial.host;
  same_area : length l.work ≡ length l.initial.work;
  same_rows : capacity l.table ≡ capacity l.initial.table;
  sound_context : Sound l.limit l.context;
  short_back : Short l.back;
  tower : Tower l.context.rounds (piled l.table);
  same_end : plugged (g.H.FileTree.meaning l.initial.host) (g.P.Policy.allowed l.policy) (tables l.settings) l.limit (map (shown (g.H.FileTree.meaning l.initial.host) (tables l.settings) l.work) (piled l.table)) (ended l.work (tables l.settings).aliases l.back l.context) ≡ plugged (g.H.FileTree.meaning l.initial.host) (g.P.Policy.allowed l.policy) (tables l.settings) l.limit (map (shown (g.H.FileTree.meaning l.initial.host) (tables l.settings) l.initial.work) (piled l.initial.table)) (ended l.initial.work (tables l.settings).aliases l.initial.back l.initial.context);
}

abbrev pub decreases-loop-row : goal.decreases-loop-row
decreases-loop-row g l = weights (tables l.settings) (map (shown (g.H.FileTree.meaning l.host) (tables l.settings) l.work) (piled l.table)) + rounds_left (tables l.settings) (l.limit - l.context.rounds)
