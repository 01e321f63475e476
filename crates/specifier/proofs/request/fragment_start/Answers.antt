use Rattle.std.proofs.Common.{arith}
use Rattle.specifier.proofs.Readings.{fragment_start, fragment_le}
use Rattle.specifier.proofs.request.fragment_start.Goals as goal

pub overflow_add-result : goal.overflow_add-result
overflow_add-result c =
    omega (arith, fragment_start _ _ _ c.requires.passes_over c.until_hash.ensures.counts_to_the_hash, fragment_le c.args.request.now)

pub returns : goal.returns
returns c =
    let start = fragment_start _ _ _ c.requires.passes_over c.until_hash.ensures.counts_to_the_hash in
    record { start_of_the_fragment = start; within_the_request = (omega arith, omega (arith, fragment_le c.args.request.now)) }
