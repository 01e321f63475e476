use Rattle.lines.specs.Sheets.{row_numbers}
use Rattle.lines.proofs.Back.{row_back, told}
use Rattle.lines.proofs.Row.write.Goals as goal

pub returns : goal.returns
returns c =
    let made = c.write_columns.ensures.writes_the_columns in
    record { writes_the_row = made; reads_back = told (row_numbers c.args.self) _ (row_back c.args.self) _ made }
