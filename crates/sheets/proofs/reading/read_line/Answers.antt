use Rattle.std.proofs.Common.{Option, ap, ◌∙◌}
use Rattle.listing.specs.Entries.{rows}
use Rattle.settings.specs.Meant.{tables}
use Rattle.sheets.specs.Reading.{State, after_asked}
use Rattle.sheets.specs.Tasks.{Todo}
use Rattle.sheets.proofs.reading.read_line.Goals as goal

pub returns-in_default : goal.returns-in_default
returns-in_default c =
    record {
      after_the_line = λ sheet done h.
          let s : State = record { rows = rows c.args.listing.now; tables = tables c.args.settings.now; closed = c.args.is_closed.now; todo = done } in
          c.enter.ensures.taken_or_refused sheet done ∙ ap (λ (o : Option Todo). after_asked o s c.args.line.now) (c.in_default.ensures.asked_by_the_line sheet h);
    }
