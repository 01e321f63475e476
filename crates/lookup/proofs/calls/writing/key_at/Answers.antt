use Rattle.std.proofs.Common.{List, drop, sym, ap, ◌∙◌}
use Rattle.std.proofs.lemmas.Bool.{ltb-true}
use Rattle.stack.proofs.Slots.{mapped_from}
use Rattle.settings.specs.Rows.{alias_of}
use Rattle.settings.specs.Tables.{Alias}
use Rattle.alias.specs.Forms.{key as key_of}
use Rattle.alias.specs.Left.{label_of}
use Rattle.lookup.proofs.calls.writing.key_at.Goals as goal

pub returns-in-Some-clause-key_of_the_label : goal.returns-in-Some-clause-key_of_the_label
returns-in-Some-clause-key_of_the_label c =
    let i = c.args.label in
    let row = c.in-Some.row.now in
    let there = mapped_from alias_of c.aliases.result.now i row (ltb-true _ _ (sym c.in-Some.ensures.lookup.0)) c.in-Some.ensures.lookup.1 in
    c.key.ensures.label_without_its_dollar
    ∙ ap key_of (c.label.ensures.label_as_written ∙ sym (ap label_of there) ∙ ap (λ (ls : List Alias). label_of (drop i ls)) c.aliases.ensures.labels_in_the_order_written)
