use Rattle.std.proofs.Common.{sym, ◌∙◌}
use Rattle.sheets.proofs.Entering.{closed_if_full, closed_if_taken, told_if_not_full}
use Rattle.sheets.proofs.entry.refuse.Goals as goal

pub returns-in-Ok : goal.returns-in-Ok
returns-in-Ok c = record { refused_as_closed_tables_refuse = closed_if_taken _ c.in-Ok.ensures.taken_or_refused }

pub returns-then-number-eq-FULL : goal.returns-then-number-eq-FULL
returns-then-number-eq-FULL c = record { refused_as_closed_tables_refuse = closed_if_full _ _ c.in-Err.ensures.taken_or_refused (sym c.number.ensures.number_of_the_refusal ∙ c.if-number-eq-FULL.true) }

pub returns-else-number-eq-FULL : goal.returns-else-number-eq-FULL
returns-else-number-eq-FULL c =
    record { refused_as_closed_tables_refuse = told_if_not_full _ _ c.in-Err.ensures.taken_or_refused (λ e. c.if-number-eq-FULL.false (c.number.ensures.number_of_the_refusal ∙ e)) }
