-- What the lines of a sheet leave to do, with the texts in them. Assumes nothing.
use Rattle.std.specs.Prelude.{Bool, true, false, cond, ◌&&◌, ◌==◌, Some, None, Option}
use Rattle.lines.specs.Sheets.{Content}
use Rattle.texts.specs.Parts.{text_at}
use Rattle.texts.specs.Texts.{Text, empty}
use Rattle.sheets.specs.declared.refusal.Refusal.{Refusal}
use Rattle.sheets.specs.declared.refusal.Refusal.TheVariants.{Texts}
use Rattle.sheets.specs.declared.task.Task.{Task}
use Rattle.sheets.specs.declared.task.Task.TheVariants as task

-- to tell a refusal, to resolve a request from a directory, or to forget
pub data Todo : Type 0 where
  tell : Refusal → Todo
  resolve : Text → Text → Todo
  forget : Todo

-- what a task is, whose texts stand in a sheet
abbrev pub task_in : Text → Task → Todo
task_in sheet (task.Refused r) = tell r
task_in sheet (task.Resolve directory request) = resolve (text_at sheet directory) (text_at sheet request)
task_in sheet task.Forget = forget

-- what a line that lets go leaves to do: it has no text
abbrev pub letting_go : Text → Text → Todo
letting_go first second = cond (empty first && empty second) forget (tell Texts)

-- what a line of kind 40 or 41 leaves to do; any other line is none of them
abbrev pub asked_by : Option Content → Option Todo
asked_by None = None
asked_by (Some c) = cond (c.kind == 40) (Some (resolve c.first c.second)) (cond (c.kind == 41) (Some (letting_go c.first c.second)) None)

-- the first call closes the tables; a refusal does not
abbrev pub closes : Todo → Bool
closes (tell r) = false
closes (resolve directory request) = true
closes forget = true
