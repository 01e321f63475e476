-- Calls that wait to be served, and the rows that are written once they are. Assumes nothing.
use Rattle.std.specs.Prelude.{List, [], ◌∷◌, ◌++◌}
use Rattle.stack.specs.Held.{held}
use Rattle.texts.specs.Parts.{text_at}
use Rattle.texts.specs.Texts.{Text}
use Rattle.tree.specs.Acceptances.{Allowed}
use Rattle.tree.specs.Meanings.{Meaning}
use Rattle.settings.specs.Tables.{Tables}
use Rattle.lookup.specs.Outcomes.{answer}
use Rattle.resolver.specs.declared.Call.{Call}
use Rattle.resolver.specs.declared.Call.TheVariants.{Forget, Resolve, Tally}
use Rattle.resolver.specs.declared.Reply.{Reply}
use Rattle.sheets.specs.declared.work.Work.{Work}
use Rattle.sheets.specs.Replies.{reply_row}
use Rattle.sheets.specs.Rows.{lent, outcome_row}

-- the rows of replies, one behind the other
abbrev pub reply_rows : List Reply → Text
reply_rows [] = []
reply_rows (reply ∷ more) = reply_row reply ++ reply_rows more

module _ (m : Meaning) (allowed : Allowed) (t : Tables) (sheet : Text) where
  -- the row of a call whose texts stand in a sheet; only what is resolved has one
  abbrev pub call_row : Call → Text
  call_row (Resolve directory request) = outcome_row (answer m allowed t lent (text_at sheet directory) (text_at sheet request))
  call_row Forget = []
  call_row Tally = []

  -- the rows of calls, one behind the other
  abbrev pub call_rows : List Call → Text
  call_rows [] = []
  call_rows (call ∷ more) = call_row call ++ call_rows more

  -- the rows that were written, and those of the calls that wait
  abbrev pub rows_then : Work → Text
  rows_then work = work.rows.items ++ call_rows (held work.waiting)
