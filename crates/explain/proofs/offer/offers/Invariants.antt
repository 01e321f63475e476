use Rattle.std.proofs.Common.{◌≡◌, ◌++◌, length, map}
use Rattle.settings.specs.Meant.{tables}
use Rattle.candidates.specs.Candidates.{candidates}
use Rattle.candidates.specs.Left.{left}
use Rattle.explain.specs.Offers.{judged, shown}
use Rattle.explain.proofs.offer.offers.Given as goal

-- What was found and what is left are all the candidates.
abbrev pub invariant-loop-candidate : goal.invariant-loop-candidate
invariant-loop-candidate g l = record {
  sound : g.H.FileTree.sound l.host;
  same_meaning : g.H.FileTree.meaning l.host ≡ g.H.FileTree.meaning l.initial.host;
  room : length l.out ≡ 255;
  found_and_left : map (shown l.path) l.found.items ++ map (judged (g.H.FileTree.meaning l.initial.host) (g.P.Policy.allowed l.policy) (tables l.settings).restrictions) (left (tables l.settings) l.fully l.path (g.H.FileTree.meaning l.initial.host) l.walk) ≡ map (judged (g.H.FileTree.meaning l.initial.host) (g.P.Policy.allowed l.policy) (tables l.settings).restrictions) (candidates (tables l.settings) l.fully (g.H.FileTree.meaning l.initial.host) l.inside l.path);
}

abbrev pub decreases-loop-candidate : goal.decreases-loop-candidate
decreases-loop-candidate g l = length (left (tables l.settings) l.fully l.path (g.H.FileTree.meaning l.host) l.walk)
