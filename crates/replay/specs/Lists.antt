-- The stored list: cases one behind the other, each a header line, the lines of its sheet and its rows. Assumes nothing.
use Rattle.std.specs.Prelude.{◌≡◌, ◌≤◌, ℕ, zero, suc, ◌-◌, cond, List, [], ◌∷◌, length, take, drop, Some, None, Option, option_map, option_and_then, ◌==◌, nat_lt}
use Rattle.texts.specs.Texts.{Text, empty, until}
use Rattle.lines.specs.Sheets.{LINE_END, behind_line, head_of, line_of}
use Rattle.lines.specs.declared.Head.{Head}
use Rattle.replay.specs.declared.group.Group.{Group}
use Rattle.replay.specs.declared.group.Group.TheVariants.{Sample, Corner, Chosen}

-- the group with a number in a header
abbrev pub group_of : ℕ → Option Group
group_of n = cond (n == 1) (Some Sample) (cond (n == 2) (Some Corner) (cond (n == 3) (Some Chosen) None))

-- what stands behind the first n lines, if there are so many that end
unfoldable pub behind_lines : ℕ → Text → Option Text
behind_lines zero t = Some t
behind_lines (suc n) t = cond (nat_lt (until LINE_END t) (length t)) (behind_lines n (behind_line t)) None

-- a text is the other's end
pub record IsEnd (rest t : Text) : Type 0 where
  pub no_longer : length rest ≤ length t
  pub end : drop (length t - length rest) t ≡ rest

-- a header: the group, how many lines the sheet has and how many rows there are, and the name
pub record Heading : Type 0 where
  pub group : Group
  pub sheet : ℕ
  pub rows : ℕ
  pub name : Text

-- the header with this group, if it is known
abbrev pub headed : Text → Head → Option Group → Option Heading
headed t h None = None
headed t h (Some g) = Some (record { group = g; sheet = h.first; rows = h.second; name = drop 12 t })

-- the header with this head: its numbers are the group, the lines of the sheet and the rows, and the name stands behind it
abbrev pub with_head : Text → Option Head → Option Heading
with_head t None = None
with_head t (Some h) = headed t h (group_of h.kind)

-- the header in a line
unfoldable pub heading_of : Text → Option Heading
heading_of t = with_head t (head_of t)

-- some lines with their line ends, and what stands behind them
pub record Halves : Type 0 where
  pub lines : Text
  pub rest : Text

-- a text in front of its rest
abbrev pub halved : Text → Option Text → Option Halves
halved t None = None
halved t (Some rest) = Some (record { lines = take (length t - length rest) t; rest = rest })

-- the first n lines and the rest, if there are so many that end
unfoldable pub halves_of : ℕ → Text → Option Halves
halves_of n t = halved t (behind_lines n t)

-- a stored sheet and the rows that the original writes for it
pub record Stored : Type 0 where
  pub group : Group
  pub name : Text
  pub sheet : Text
  pub rows : Text

-- a case at the front of a list, and what stands behind it
pub record Front : Type 0 where
  pub case : Stored
  pub rest : Text

-- a case, if its rows end
abbrev pub with_rows : Heading → Text → Option Halves → Option Front
with_rows h sheet None = None
with_rows h sheet (Some rows) = Some (record { case = record { group = h.group; name = h.name; sheet = sheet; rows = rows.lines }; rest = rows.rest })

-- a case, if its sheet ends
abbrev pub with_sheet : Heading → Option Halves → Option Front
with_sheet h None = None
with_sheet h (Some sheet) = with_rows h sheet.lines (halves_of h.rows sheet.rest)

-- a case, if it has a header
abbrev pub with_heading : Text → Option Heading → Option Front
with_heading t None = None
with_heading t (Some h) = with_sheet h (halves_of h.sheet t)

-- the case at the front of a list
unfoldable pub front_case : Text → Option Front
front_case t = with_heading (behind_line t) (heading_of (line_of t))

-- the cases of a list, n at most
unfoldable pub cases_of : ℕ → Text → Option (List Stored)
cases_of zero t = cond (empty t) (Some []) None
cases_of (suc n) t = cond (empty t) (Some []) (option_and_then (λ f. option_map (λ cs. f.case ∷ cs) (cases_of n f.rest)) (front_case t))

-- the cases of a list, if it has nothing but cases; it has no more of them than bytes
abbrev pub cases_in : Text → Option (List Stored)
cases_in t = cases_of (length t) t
