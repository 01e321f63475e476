use Rattle.std.proofs.Common.{map, take}
use Rattle.std.specs.Io.KnownBytes.{Appends}
use Rattle.std.specs.List.{flat_map}
use Rattle.explain.specs.Filling.{noted}
use Rattle.explain.specs.Telling.{refused_line}
use Rattle.explain.proofs.whole.refusals.Given as goal

-- The refusals in front are told.
abbrev pub invariant-loop-refusal : goal.invariant-loop-refusal
invariant-loop-refusal g l = Appends (g.W.Write.contents l.initial.out) (g.W.Write.contents l.out) (flat_map refused_line (map noted (take l.refusal-index l.refused)))
