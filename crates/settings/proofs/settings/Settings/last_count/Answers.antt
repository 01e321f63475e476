use Rattle.std.proofs.Common.{Some, None, List, length, ap, sym, ◌∙◌, refl}
use Rattle.std.proofs.lemmas.List.{length-map}
use Rattle.settings.specs.Entries.{last_values}
use Rattle.settings.specs.Rows.{value_of}
use Rattle.settings.specs.Tables.{Alias}
use Rattle.settings.proofs.Labels.{counted}
use Rattle.settings.proofs.settings.Settings.last_count.Goals as goal

pub returns-in-Some : goal.returns-in-Some
returns-in-Some c =
    let count = sym (length-map c.values.result.now value_of) ∙ ap length c.values.ensures.values_in_the_order_written in
    record { values_of_the_last_label = counted c.aliases.result.now (Some c.in-Some.row.now) _ c.in-Some.ensures.value count ∙ ap (λ (l : List Alias). length (last_values l)) c.aliases.ensures.labels_in_the_order_written }

pub returns-in-None : goal.returns-in-None
returns-in-None c =
    record { values_of_the_last_label = counted c.aliases.result.now None 0 c.in-None.ensures.value refl ∙ ap (λ (l : List Alias). length (last_values l)) c.aliases.ensures.labels_in_the_order_written }
