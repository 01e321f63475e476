-- The lines of a sheet, each with its number. Assumes nothing.
use Rattle.std.specs.Prelude.{◌≡◌, ℕ, ◌+◌, ◌-◌, ◌^◌, min, true, false}
use Rattle.texts.specs.Texts.{Text, empty}
use Rattle.lines.specs.Sheets.{behind_line, line_of}
use Rattle.explain.specs.declared.numbered.NumberedLines.{NumberedLines}

-- how many lines came before
abbrev pub lines_before : NumberedLines → ℕ
lines_before s = s.number

-- what is left of the sheet
abbrev pub left_of : NumberedLines → Text
left_of s = s.rest.now

-- the number of the next line; a sheet has fewer than 2 ^ 64
abbrev pub next_line : ℕ → ℕ
next_line n = min (n + 1) (2 ^ 64 - 1)

-- nothing was left, and nothing changed
pub record Ended (s t : NumberedLines) : Type 0 where
  pub nothing_is_left : empty (left_of s) ≡ true
  pub as_before : t ≡ s

-- a line was given with its number, and what stands behind it is left
pub record NextLine (s : NumberedLines) (number : ℕ) (line : Text) (t : NumberedLines) : Type 0 where
  pub more_was_left : empty (left_of s) ≡ false
  pub next_number : number ≡ next_line (lines_before s)
  pub up_to_the_line_end : line ≡ line_of (left_of s)
  pub line_is_counted : lines_before t ≡ number
  pub rest_is_left : left_of t ≡ behind_line (left_of s)
