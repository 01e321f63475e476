use Rattle.std.proofs.Common.{take}
use Rattle.std.specs.Fmt.{HasWritten, IsPlainFormatter}
use Rattle.std.specs.List.{flat_map}
use Rattle.explain.specs.Legible.{legible_byte}
use Rattle.explain.proofs.shown.ShownDisplay.fmt.Given as goal

-- The bytes so far are shown.
abbrev pub invariant-loop-b : goal.invariant-loop-b
invariant-loop-b g l =
    IsPlainFormatter l.initial.f → HasWritten g.W.Write.write_str_gives l.initial.f (flat_map legible_byte (take l.b-index l.b-items)) l.f
