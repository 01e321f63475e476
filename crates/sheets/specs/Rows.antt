-- The rows that answer a sheet. Assumes nothing.
use Rattle.std.specs.Prelude.{ℕ, List, [], ◌∷◌, ◌++◌, length, Some, None, Option}
use Rattle.texts.specs.Texts.{Text}
use Rattle.tree.specs.Acceptances.{Allowed}
use Rattle.tree.specs.Meanings.{Meaning}
use Rattle.lines.specs.Columns.{columns}
use Rattle.lines.specs.Sheets.{LINE_END}
use Rattle.settings.specs.Tables.{Tables}
use Rattle.lookup.specs.Faults.{number, texts}
use Rattle.lookup.specs.Outcomes.{Outcome, Room, answer, path, refused}
use Rattle.sheets.specs.Refusals.{number as refusal_number}
use Rattle.sheets.specs.declared.refusal.Refusal.{Refusal}
use Rattle.sheets.specs.Tasks.{Todo, forget, resolve, tell}

-- a row: number, rounds and the lengths of three texts in columns, the texts and a line end
abbrev pub row : ℕ → ℕ → Text → Text → Text → Text
row number rounds first second third =
    columns (number ∷ rounds ∷ length first ∷ length second ∷ length third ∷ []) ++ (first ++ (second ++ (third ++ LINE_END ∷ [])))

-- a text that is not there has no byte
abbrev pub text_or_none : Option Text → Text
text_or_none None = []
text_or_none (Some t) = t

-- the row of an answer: 0 with path, query and fragment, or the number of a fault with its texts
abbrev pub outcome_row : Outcome → Text
outcome_row (path p q f rounds) = row 0 rounds p (text_or_none q) (text_or_none f)
outcome_row (refused f rounds) = row (number f) rounds (text_or_none (texts f).0) (text_or_none (texts f).1) []

-- the row of a line that is refused
abbrev pub refusal_row : Refusal → Text
refusal_row r = row (refusal_number r) 0 [] [] []

-- the memory that a sheet lends to each call
abbrev pub lent : Room
lent = record { area = 131072; rows = 1024; first = 255; second = 255; third = 255 }

module _ (m : Meaning) (allowed : Allowed) (t : Tables) where
  -- what is written for one thing to do: what forgets is not answered
  abbrev pub row_of : Todo → Text
  row_of (tell r) = refusal_row r
  row_of (resolve directory request) = outcome_row (answer m allowed t lent directory request)
  row_of forget = []

  -- and for all, one behind the other
  abbrev pub rows_of : List Todo → Text
  rows_of [] = []
  rows_of (a ∷ more) = row_of a ++ rows_of more
