use Rattle.std.proofs.Common.{map, take}
use Rattle.std.specs.Fmt.{HasWritten, IsPlainFormatter}
use Rattle.std.specs.List.{flat_map}
use Rattle.settings.specs.Rows.{alias_of}
use Rattle.explain.specs.Labels.{passed_over}
use Rattle.explain.proofs.sentence.labels.PassedOverDisplay.fmt.Given as goal

-- The lines so far are written.
abbrev pub invariant-loop-row : goal.invariant-loop-row
invariant-loop-row g l =
    IsPlainFormatter l.initial.f → HasWritten g.W.Write.write_str_gives l.initial.f (flat_map (passed_over l.request) (map alias_of (take l.row-index l.row-items))) l.f
