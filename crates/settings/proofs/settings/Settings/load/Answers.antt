use Rattle.std.proofs.Common.{Some, Option, sym, ap, ◌∙◌}
use Rattle.texts.specs.Taken.{taken_unless}
use Rattle.settings.specs.declared.entry.Entry.{Entry}
use Rattle.settings.specs.Loading.{Offer, line_refusal, offer_of, offered}
use Rattle.settings.specs.Meant.{tables}
use Rattle.settings.proofs.Offers.{offer_read}
use Rattle.settings.proofs.settings.Settings.load.Goals as goal

pub returns-in-Texts-clause-taken_or_refused : goal.returns-in-Texts-clause-taken_or_refused
returns-in-Texts-clause-taken_or_refused c =
    let is = ap (λ (e : Entry). Some (offered e)) (sym c.in-Texts.is) ∙ sym (offer_read (offer_of c.args.line.now) _ c.in_ok-kind.ensures.entry_in_the_line) in
    c.add.ensures.taken_or_refused ∙ ap (λ (o : Option Offer). taken_unless (line_refusal (tables c.args.self.now) o)) is
