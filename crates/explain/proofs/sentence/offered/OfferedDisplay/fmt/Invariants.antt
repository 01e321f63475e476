use Rattle.std.proofs.Common.{true, map, drop}
use Rattle.std.specs.Fmt.{IsPlainFormatter}
use Rattle.explain.specs.Offers.{candidate_lines, shown}
use Rattle.explain.proofs.Writing.{GoesOn}
use Rattle.explain.proofs.sentence.offered.OfferedDisplay.fmt.Given as goal

-- Behind the lines of what is left the whole is written.
abbrev pub invariant-loop-offer : goal.invariant-loop-offer
invariant-loop-offer g l =
    IsPlainFormatter l.initial.f → GoesOn g.W.Write.write_str_gives l.initial.f (candidate_lines true (map (shown l.path) l.offer-items)) l.f (candidate_lines l.first (drop l.offer-index (map (shown l.path) l.offer-items)))
