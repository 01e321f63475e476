-- A stored sheet beside what was answered for it. Assumes nothing.
use Rattle.std.specs.Prelude.{ℕ, zero, suc, ◌+◌, Bool, cond, not, List, [], ◌∷◌, Option, option_map, ◌==◌, bytes_eq, count_by, length, position}
use Rattle.texts.specs.Texts.{Text, empty}
use Rattle.lines.specs.Sheets.{LINE_END, behind_line, line_of}
use Rattle.replay.specs.Lists.{Stored}

-- 1 for true, 0 for false
abbrev pub one_if : Bool → ℕ
one_if b = cond b 1 0

-- of the first n stored rows, whether each was answered in its place
unfoldable pub same_rows : ℕ → Text → Text → List Bool
same_rows zero ours theirs = []
same_rows (suc n) ours theirs =
    cond (empty theirs) [] (bytes_eq (line_of ours) (line_of theirs) ∷ same_rows n (behind_line ours) (behind_line theirs))

-- how many of the first n stored rows were answered, each in its place
abbrev pub rows_in_common : ℕ → Text → Text → ℕ
rows_in_common n ours theirs = count_by (λ same. same) (same_rows n ours theirs)

-- the first of n stored rows, counted from k, that was not answered in its place
abbrev pub first_other : ℕ → ℕ → Text → Text → Option ℕ
first_other n k ours theirs = option_map (λ before. before + k) (position not (same_rows n ours theirs))

-- what is found of a stored sheet: whether every byte is the same, how many rows it has, how many of them are the same in their places, and the first that is another
pub record Judged : Type 0 where
  pub case : Stored
  pub agrees : Bool
  pub rows : ℕ
  pub same_rows : ℕ
  pub other_row : Option ℕ

-- a stored sheet beside what was answered; it has no more rows than bytes
abbrev pub judged_of : Stored → Text → Judged
judged_of c answered = record {
  case = c;
  agrees = bytes_eq answered c.rows;
  rows = count_by (λ b. b == LINE_END) c.rows;
  same_rows = rows_in_common (length c.rows) answered c.rows;
  other_row = first_other (length c.rows) 1 answered c.rows;
}
