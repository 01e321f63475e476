use Rattle.std.proofs.Common.{arith}
use Rattle.std.proofs.lemmas.Grind.{common_steps}
use Rattle.candidates.proofs.places.Sought.file_candidate.Goals as goal

pub returns-clause-file_at_the_place : goal.returns-clause-file_at_the_place
returns-clause-file_at_the_place c = λ of. grind (arith, common_steps, c.extended_candidate.ensures.extension_at_the_place of)
