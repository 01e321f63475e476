-- What the lines in front of the first that asks leave, one after the other. Assumes nothing.
use Rattle.std.specs.Prelude.{◌≡◌, length, ℕ, zero, suc, Bool, true, false, cond, ◌||◌, List, map, [], ◌∷◌, ◌++◌, is_ok, Some, None, Option}
use Rattle.texts.specs.Texts.{Text, empty}
use Rattle.lines.specs.Sheets.{behind_line, line_of}
use Rattle.listing.specs.Rows.{Row}
use Rattle.settings.specs.Tables.{Tables}
use Rattle.sheets.specs.Entries.{rows_with, tables_with}
use Rattle.explain.specs.declared.cause.Cause.{Cause}
use Rattle.explain.specs.declared.front.Filled.{Filled}
use Rattle.explain.specs.declared.numbered.NumberedLines.{NumberedLines}
use Rattle.explain.specs.declared.sentence.refused.Refused.{Refused}
use Rattle.explain.specs.FrontLine.{front_cause}
use Rattle.explain.specs.Questions.{order_of}
use Rattle.explain.specs.SheetLines.{NextLine, left_of, lines_before, next_line}

-- a line that was refused: its number, why, and the line
pub record Noted : Type 0 where
  pub line : ℕ
  pub why : Cause
  pub text : Text

-- what a sentence on a refused line says
abbrev pub noted : Refused → Noted
noted r = record { line = r.line; why = r.cause; text = r.text.now }

-- the listing, the settings, how many lines there were, those refused, and what is left of the sheet
pub record Front : Type 0 where
  pub rows : List Row
  pub tables : Tables
  pub lines : ℕ
  pub refused : List Noted
  pub rest : Text

-- a refusal is noted
abbrev pub noting : Option Cause → ℕ → Text → List Noted
noting None n line = []
noting (Some why) n line = record { line = n; why = why; text = line } ∷ []

-- after one line
abbrev pub after_line : Front → Text → Front
after_line s line = record {
  rows = rows_with s.rows line;
  tables = tables_with s.tables line;
  lines = next_line s.lines;
  refused = s.refused ++ noting (front_cause s.rows s.tables line) (next_line s.lines) line;
  rest = behind_line s.rest;
}

-- the line asks: a question, or to forget
abbrev pub asks : Text → Bool
asks line = is_ok (order_of line)

-- no line is left in front of the questions, and nothing changed
pub record FrontEnded (s t : NumberedLines) : Type 0 where
  pub stops : (empty (left_of s) || asks (line_of (left_of s))) ≡ true
  pub as_before : t ≡ s

-- a line was given that does not ask
pub record NextInFront (s : NumberedLines) (number : ℕ) (line : Text) (t : NumberedLines) : Type 0 where
  pub does_not_ask : asks (line_of (left_of s)) ≡ false
  pub next : NextLine s number line t

-- up to the first line that asks or the end, n lines at most
abbrev pub filled : ℕ → Front → Front
filled zero s = s
filled (suc n) s = cond (empty s.rest) s (cond (asks (line_of s.rest)) s (filled n (after_line s (line_of s.rest))))

-- what a whole sheet leaves before its first line that asks; it has no more lines than bytes
abbrev pub filled_by : List Row → Tables → Text → Front
filled_by rs t sheet = filled (length sheet) (record { rows = rs; tables = t; lines = 0; refused = []; rest = sheet })

-- what filling returns, with the listing and the settings that it leaves
abbrev pub front_of : List Row → Tables → Filled → Front
front_of rs t f = record { rows = rs; tables = t; lines = lines_before f.lines; refused = map noted f.refused.items; rest = left_of f.lines }
