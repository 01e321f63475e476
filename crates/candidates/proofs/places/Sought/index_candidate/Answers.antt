use Rattle.std.proofs.Common.{arith}
use Rattle.std.proofs.lemmas.Grind.{common_steps}
use Rattle.candidates.proofs.places.Sought.index_candidate.Goals as goal

pub returns-clause-index_at_the_place : goal.returns-clause-index_at_the_place
returns-clause-index_at_the_place c = λ of. grind (arith, common_steps, c.named_candidate.ensures.main_file_at_the_place of)
