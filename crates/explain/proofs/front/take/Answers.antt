use Rattle.std.proofs.Common.{◌≡◌, true, Err, sym, ◌∙◌, rules}
use Rattle.lines.specs.Sheets.{head_of}
use Rattle.sheets.specs.Entries.{sets}
use Rattle.sheets.proofs.Entering.{setting_refused}
use Rattle.explain.specs.declared.cause.Cause.TheVariants as cause
use Rattle.explain.specs.declared.refusal.Refusal.TheVariants.{Line}
use Rattle.explain.proofs.front.take.Goals as goal

pub returns-in_err-load-clause-taken_or_refused : goal.returns-in_err-load-clause-taken_or_refused
returns-in_err-load-clause-taken_or_refused c =
    let told : c.from_residual.result ≡ Err (cause.Setting c.in_err-load.field-0.0) = search rules in
    let setting : sets (head_of c.args.line.now) ≡ true = cc in
    told ∙ setting_refused (cause.Question Line) cause.Listing cause.Setting _ _ _ _ setting (sym c.load.ensures.taken_or_refused ∙ c.in_err-load.was)
