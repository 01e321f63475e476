use Rattle.std.proofs.Common.{Some, ap, ◌∙◌, arith}
use Rattle.lines.specs.Sheets.{said}
use Rattle.sheets.specs.declared.task.Task.{Task}
use Rattle.sheets.specs.Tasks.{task_in}
use Rattle.sheets.proofs.Places.{content_long, content_read, resolve_there}
use Rattle.sheets.proofs.reading.asked.Goals as goal

pub resolve-requires : goal.resolve-requires
resolve-requires c =
    let long = content_long c.args.line.now (said c.in-Ok.content) (content_read _ _ c.in-Ok.ensures.reads_the_line) in
    record { within_memory = omega (arith, c.requires.within_memory, long) }

pub returns-in-40 : goal.returns-in-40
returns-in-40 c =
    record {
      asked_by_the_line = λ sheet h.
          ap (λ (k : Task). Some (task_in sheet k)) c.resolve.ensures.both_texts_behind_the_head
          ∙ resolve_there sheet c.args.line.now (said c.in-Ok.content) c.args.start (content_read _ _ c.in-Ok.ensures.reads_the_line) c.in-40.is c.in-Ok.ensures.nothing_but_head_and_texts h;
    }
