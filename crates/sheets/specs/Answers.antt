-- What a whole sheet is answered. Assumes nothing.
use Rattle.std.specs.Prelude.{[], length, nat_le}
use Rattle.texts.specs.Texts.{Text}
use Rattle.texts.specs.Parts.{parts}
use Rattle.tree.specs.Acceptances.{Allowed}
use Rattle.listing.specs.Meanings.{listed}
use Rattle.settings.specs.Tables.{unset}
use Rattle.sheets.specs.Reading.{State, after_sheet}
use Rattle.sheets.specs.Rows.{rows_of}

-- the policy: a path has at most 255 parts
abbrev pub at_most_255_parts : Allowed
at_most_255_parts path = nat_le (length (parts path)) 255

-- the rows of what was left to do, by the listing and the settings that were filled
abbrev pub rows_after : State → Text
rows_after s = rows_of (listed s.rows) at_most_255_parts s.tables s.todo

-- the rows of a sheet, which fills an empty listing and unset settings
abbrev pub sheet_rows : Text → Text
sheet_rows sheet = rows_after (after_sheet [] unset sheet)
