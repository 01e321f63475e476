-- The lines of a sheet. Assumes nothing.
use Rattle.std.specs.Prelude.{ℕ, cond, ◌==◌, List, [], ◌∷◌}
use Rattle.texts.specs.Texts.{Text}
use Rattle.lines.specs.Sheets.{LINE_END}

-- lines with a byte more in front of the first
abbrev pub led_by : ℕ → List Text → List Text
led_by b [] = (b ∷ []) ∷ []
led_by b (l ∷ more) = (b ∷ l) ∷ more

-- the lines of a sheet: a line end ends one, and so does the end of the sheet, but no line follows the last line end
abbrev pub lines_of : Text → List Text
lines_of [] = []
lines_of (b ∷ s) = cond (b == LINE_END) ([] ∷ lines_of s) (led_by b (lines_of s))
