use Rattle.std.proofs.Common.{Some, Option, sym, ap, ◌∙◌}
use Rattle.texts.specs.Taken.{taken_unless}
use Rattle.settings.specs.declared.entry.Entry.{Entry}
use Rattle.settings.specs.Loading.{Offer, line_refusal, offer_of, offered}
use Rattle.settings.specs.Meant.{tables}
use Rattle.settings.proofs.Offers.{offer_read}
use Rattle.settings.proofs.settings.Settings.check_line.Goals as goal

pub returns-in-Texts : goal.returns-in-Texts
returns-in-Texts c =
    let is = ap (λ (e : Entry). Some (offered e)) (sym c.in-Texts.is) ∙ sym (offer_read (offer_of c.args.line.now) _ c.in_ok-kind.ensures.entry_in_the_line) in
    record { taken_or_refused = c.check.ensures.first_check_that_fails ∙ ap (λ (o : Option Offer). taken_unless (line_refusal (tables c.args.self.now) o)) is }
