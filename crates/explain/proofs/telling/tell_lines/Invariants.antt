use Rattle.std.proofs.Common.{◌≡◌}
use Rattle.settings.specs.Meant.{tables}
use Rattle.explain.specs.SheetLines.{left_of, lines_before}
use Rattle.explain.specs.Telling.{TellsLines, Written}
use Rattle.explain.proofs.telling.tell_lines.Given as goal

-- The lines in front are told.
abbrev pub invariant-loop-number : goal.invariant-loop-number
invariant-loop-number g l = record {
  sound : g.H.FileTree.sound l.host;
  sound_resolver : g.G.FileTree.sound l.resolver.host;
  same_meaning : g.H.FileTree.meaning l.host ≡ g.H.FileTree.meaning l.initial.host;
  same_meaning_of_the_resolver : g.G.FileTree.meaning l.resolver.host ≡ g.G.FileTree.meaning l.initial.resolver.host;
  same_settings : l.resolver.settings ≡ l.initial.resolver.settings;
  same_policy : l.resolver.policy ≡ l.initial.resolver.policy;
  told_so_far :
      Written (g.W.Write.contents l.initial.out) (g.W.Write.contents l.out)
      (TellsLines (g.H.FileTree.meaning l.initial.host) (g.G.FileTree.meaning l.initial.resolver.host) (g.P.Policy.allowed l.policy) (g.P.Policy.allowed l.initial.resolver.policy) (tables l.settings) (tables l.initial.resolver.settings)
      (lines_before l.initial.number-iterator) (left_of l.initial.number-iterator) l.initial.resolver.handed_out (lines_before l.number-iterator) (left_of l.number-iterator) l.resolver.handed_out);
}
