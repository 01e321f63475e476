use Rattle.std.proofs.Common.{Some, None}
use Rattle.sheets.specs.Tasks.{tell}
use Rattle.sheets.proofs.Entering.{open_entry, tells_nothing, tells_refusal}
use Rattle.sheets.proofs.reading.enter.Goals as goal

pub returns-in-Ok : goal.returns-in-Ok
returns-in-Ok c =
    record {
      taken_or_refused = λ sheet done. open_entry _ _ _ _ _ done _ None c.if-is_closed.false c.take.ensures.rows_then c.take.ensures.tables_then (tells_nothing _ c.in-Ok.ensures.taken_or_refused);
    }

pub returns-in-Err : goal.returns-in-Err
returns-in-Err c =
    record {
      taken_or_refused = λ sheet done. open_entry _ _ _ _ _ done _ (Some (tell c.in-Err.refusal)) c.if-is_closed.false c.take.ensures.rows_then c.take.ensures.tables_then (tells_refusal _ _ c.in-Err.ensures.taken_or_refused);
    }
