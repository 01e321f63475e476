use Rattle.explain.proofs.sentence.refused.RefusedDisplay.fmt.Goals as goal

pub returns-clause-writes : goal.returns-clause-writes
returns-clause-writes g c = rw (← c.number-number.ensures.number_in_the_list) c.write.ensures.writes
