use Rattle.std.proofs.lemmas.List.{length-replicate}
use Rattle.stack.proofs.array_vec.ArrayVec.new.Goals as goal

pub invariant_of-result-clause-whole : goal.invariant_of-result-clause-whole
invariant_of-result-clause-whole g c = length-replicate g.row.N c.args.blank
