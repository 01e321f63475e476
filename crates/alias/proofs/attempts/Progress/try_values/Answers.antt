use Rattle.alias.proofs.attempts.Progress.try_values.Goals as goal

pub returns-in-Some-clause-asked_value_by_value : goal.returns-in-Some-clause-asked_value_by_value
returns-in-Some-clause-asked_value_by_value g c = (_, c.next_value.ensures.asked_value_by_value)

pub returns-then-self-eq0-clause-asked_value_by_value : goal.returns-then-self-eq0-clause-asked_value_by_value
returns-then-self-eq0-clause-asked_value_by_value g c = (_, c.next_value.ensures.asked_value_by_value)

pub returns-clause-asked_value_by_value : goal.returns-clause-asked_value_by_value
returns-clause-asked_value_by_value g c = (_, c.next_value.ensures.asked_value_by_value)
