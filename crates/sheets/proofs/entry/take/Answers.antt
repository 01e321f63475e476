use Rattle.std.proofs.Common.{◌≡◌, Err, sym, ◌∙◌, rules}
use Rattle.sheets.specs.declared.refusal.Refusal.TheVariants.{Line, Listing, Setting}
use Rattle.sheets.proofs.Entering.{setting_refused}
use Rattle.sheets.proofs.entry.take.Goals as goal

pub returns-in_err-load-clause-taken_or_refused : goal.returns-in_err-load-clause-taken_or_refused
returns-in_err-load-clause-taken_or_refused c =
    let told : c.from_residual.result ≡ Err (Setting c.in_err-load.field-0.0) = search rules in
    told ∙ setting_refused Line Listing Setting _ _ _ _ (sym c.is_setting.ensures.setting_or_flag_by_its_head ∙ c.if-not-is_setting.false) (sym c.load.ensures.taken_or_refused ∙ c.in_err-load.was)
