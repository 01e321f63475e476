use Rattle.std.proofs.Common.{◌≡◌, ◌+◌, ◌∷◌, ◌++◌, [], List, map, take, sym, ap, ◌∙◌, rules}
use Rattle.std.proofs.lemmas.List.{append-nil, map_push}
use Rattle.listing.specs.Entries.{rows}
use Rattle.lines.specs.Sheets.{LINE_END}
use Rattle.settings.specs.Meant.{tables}
use Rattle.texts.specs.Texts.{until}
use Rattle.sheets.specs.Reading.{State}
use Rattle.sheets.specs.Tasks.{Todo, task_in}
use Rattle.sheets.proofs.LineSteps.{line_left, reads_on, stands_there}
use Rattle.sheets.proofs.reading.read.Goals as goal

abbrev with_todo : State → List Todo → State
with_todo s done = record { rows = s.rows; tables = s.tables; closed = s.closed; todo = done }

pub loop-rest-preserved-in_ok-push : goal.loop-rest-preserved-in_ok-push
loop-rest-preserved-in_ok-push c =
    let sheet = c.args.sheet.now in
    let inv = c.loop-rest.invariant in
    let rest = c.loop-rest.rest.now in
    let line = c.first_line.result.0.now in
    let behind = c.first_line.result.1.now in
    let e = c.first_line.ensures in
    let s : State = record { rows = rows c.loop-rest.listing; tables = tables c.loop-rest.settings; closed = c.loop-rest.is_closed; todo = map (task_in sheet) c.loop-rest.tasks.items } in
    let t : State = record { rows = rows c.read_line.new.listing; tables = tables c.read_line.new.settings; closed = c.read_line.new.is_closed; todo = map (task_in sheet) c.push.new.self.items } in
    let told = c.in-Some.ensures.after_the_line sheet s.todo (stands_there sheet inv.0 rest line behind inv.1 e.up_to_the_line_end e.rest_behind_the_line_end) in
    let pushed : t.todo ≡ s.todo ++ (task_in sheet c.in-Some.task ∷ []) = ap (map (task_in sheet)) c.in_ok-push.ensures.items ∙ map_push (task_in sheet) c.loop-rest.tasks.items c.in-Some.task in
    let then = ap (with_todo t) pushed ∙ told in (
      inv.0 ++ take (until LINE_END rest + 1) rest,
      line_left sheet inv.0 rest line behind inv.1 e.up_to_the_line_end e.rest_behind_the_line_end,
      reads_on sheet inv.0 rest line behind inv.1 e.up_to_the_line_end e.rest_behind_the_line_end s t (search rules) then ∙ inv.2,
    )

pub loop-rest-preserved : goal.loop-rest-preserved
loop-rest-preserved c =
    let sheet = c.args.sheet.now in
    let inv = c.loop-rest.invariant in
    let rest = c.loop-rest.rest.now in
    let line = c.first_line.result.0.now in
    let behind = c.first_line.result.1.now in
    let e = c.first_line.ensures in
    let s : State = record { rows = rows c.loop-rest.listing; tables = tables c.loop-rest.settings; closed = c.loop-rest.is_closed; todo = map (task_in sheet) c.loop-rest.tasks.items } in
    let t : State = record { rows = rows c.read_line.new.listing; tables = tables c.read_line.new.settings; closed = c.read_line.new.is_closed; todo = map (task_in sheet) c.loop-rest.tasks.items } in
    let told = c.in_default.ensures.after_the_line sheet s.todo (stands_there sheet inv.0 rest line behind inv.1 e.up_to_the_line_end e.rest_behind_the_line_end) in
    let then = ap (with_todo t) (sym (append-nil s.todo)) ∙ told in (
      inv.0 ++ take (until LINE_END rest + 1) rest,
      line_left sheet inv.0 rest line behind inv.1 e.up_to_the_line_end e.rest_behind_the_line_end,
      reads_on sheet inv.0 rest line behind inv.1 e.up_to_the_line_end e.rest_behind_the_line_end s t (search rules) then ∙ inv.2,
    )
