use Rattle.lines.specs.Sheets.{head_numbers}
use Rattle.lines.proofs.Back.{head_back, told}
use Rattle.lines.proofs.Head.write.Goals as goal

pub returns : goal.returns
returns c =
    let made = c.write_columns.ensures.writes_the_columns in
    record { writes_the_head = made; reads_back = told (head_numbers c.args.self) _ (head_back c.args.self) _ made }
