use Rattle.settings.specs.Entries.{tables_after}
use Rattle.settings.proofs.Offers.{left_alone}
use Rattle.settings.proofs.settings.Settings.add.Goals as goal

pub returns-in_err-check-clause-tables_then : goal.returns-in_err-check-clause-tables_then
unfolding tables_after
returns-in_err-check-clause-tables_then c = left_alone _ _ _ _ c.in_err-check.ensures.first_check_that_fails
