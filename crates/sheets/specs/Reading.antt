-- What a whole sheet leaves: the tables that its entries filled, and what its other lines leave to do. Assumes nothing.
use Rattle.std.specs.Prelude.{Bool, true, false, ◌||◌, List, [], ◌∷◌, ◌++◌, Some, None, Option}
use Rattle.std.specs.Option.{option_map}
use Rattle.texts.specs.Texts.{Text}
use Rattle.lines.specs.Sheets.{content_of}
use Rattle.listing.specs.Rows.{Row}
use Rattle.settings.specs.Tables.{Tables}
use Rattle.sheets.specs.declared.refusal.Refusal.{Refusal}
use Rattle.sheets.specs.Entries.{closed_refusal, entry_refusal, rows_with, tables_with}
use Rattle.sheets.specs.SheetLines.{lines_of}
use Rattle.sheets.specs.Tasks.{Todo, asked_by, closes, tell}

-- the listing and the settings, whether they are closed, and what is left to do so far
pub record State : Type 0 where
  pub rows : List Row
  pub tables : Tables
  pub closed : Bool
  pub todo : List Todo

-- what a line leaves to do, if anything
abbrev pub leaving : Option Todo → List Todo
leaving None = []
leaving (Some a) = a ∷ []

-- an entry that is refused leaves that to tell; one that is taken leaves nothing
abbrev pub telling : Option Refusal → List Todo
telling r = leaving (option_map tell r)

-- after an entry: open tables take it or refuse it, closed ones refuse it and stay as they are
abbrev pub after_entry : Bool → State → Text → State
after_entry true s line = record {
  rows = s.rows;
  tables = s.tables;
  closed = true;
  todo = s.todo ++ tell (closed_refusal (entry_refusal s.rows s.tables line)) ∷ [];
}
after_entry false s line = record {
  rows = rows_with s.rows line;
  tables = tables_with s.tables line;
  closed = false;
  todo = s.todo ++ telling (entry_refusal s.rows s.tables line);
}

-- after a line that asks for a call, or is refused as such; or after an entry
abbrev pub after_asked : Option Todo → State → Text → State
after_asked (Some a) s line = record { rows = s.rows; tables = s.tables; closed = s.closed || closes a; todo = s.todo ++ a ∷ [] }
after_asked None s line = after_entry s.closed s line

-- after a line
abbrev pub after_line : State → Text → State
after_line s line = after_asked (asked_by (content_of line)) s line

-- after lines, one after the other
abbrev pub after_lines : State → List Text → State
after_lines s [] = s
after_lines s (line ∷ more) = after_lines (after_line s line) more

-- open tables, and nothing left to do
abbrev pub opened : List Row → Tables → State
opened rs t = record { rows = rs; tables = t; closed = false; todo = [] }

-- after a whole sheet
abbrev pub after_sheet : List Row → Tables → Text → State
after_sheet rs t sheet = after_lines (opened rs t) (lines_of sheet)
