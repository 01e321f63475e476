-- What holds of every sheet. Assumes nothing.
use Rattle.std.specs.Prelude.{◌≡◌, true, List, [], ◌∷◌, ◌++◌, Some}
use Rattle.texts.specs.Texts.{Text}
use Rattle.lines.specs.Sheets.{Content, content_of}
use Rattle.tree.specs.Acceptances.{Allowed}
use Rattle.tree.specs.Meanings.{Meaning}
use Rattle.settings.specs.Tables.{Tables}
use Rattle.sheets.specs.Reading.{State, after_line, after_lines}
use Rattle.sheets.specs.Rows.{rows_of}
use Rattle.sheets.specs.Tasks.{Todo, forget, resolve}

-- a line of kind 40 with good columns is looked up, whatever came before it, and the tables are closed then
abbrev pub ALookupClosesTheTables : Type 0
ALookupClosesTheTables =
    (s : State) (line : Text) (c : Content) → content_of line ≡ Some c → c.kind ≡ 40
    → ◌≡◌ {A = State} (after_line s line) (record { rows = s.rows; tables = s.tables; closed = true; todo = s.todo ++ resolve c.first c.second ∷ [] })

-- closed tables stay closed and stay as they are, whatever lines follow
abbrev pub ClosedTablesStay : Type 0
ClosedTablesStay =
    (s : State) (lines : List Text) → s.closed ≡ true
    → ((after_lines s lines).closed ≡ true) × ((after_lines s lines).rows ≡ s.rows) × ((after_lines s lines).tables ≡ s.tables)

-- what was left to do stays, in its order: later lines only add to it
abbrev pub LaterLinesOnlyAdd : Type 0
LaterLinesOnlyAdd = (s : State) (lines : List Text) → (more : List Todo) × ((after_lines s lines).todo ≡ s.todo ++ more)

-- to forget never shows: what is left to do is answered by the same rows with a forget in it and without
abbrev pub ForgettingNeverShows : Type 0
ForgettingNeverShows =
    (m : Meaning) (allowed : Allowed) (t : Tables) (before behind : List Todo) → rows_of m allowed t (before ++ forget ∷ behind) ≡ rows_of m allowed t (before ++ behind)
