use Rattle.specifier.specs.Requests.{unescaped}
use Rattle.specifier.proofs.Copies.{Copied}
use Rattle.specifier.proofs.escape.write_unescaped.Given as goal

abbrev pub invariant-loop-i : goal.invariant-loop-i
invariant-loop-i l = Copied l.out l.initial.out l.i-iterator.count (unescaped l.i-iterator.iter.0.now) (unescaped l.text)
