-- The lines of a sheet: three numbers in columns, then two texts; and the row of an answer. Assumes nothing.
use Rattle.std.specs.Prelude.{◌≡◌, ℕ, ◌+◌, Bool, cond, ◌&&◌, ◌⊎◌, List, [], ◌∷◌, ◌++◌, length, take, drop, Some, None, Option, ◌==◌, nat_le, slice_index}
use Rattle.texts.specs.Texts.{until}
use Rattle.lines.specs.Columns.{is_blank, number_at}
use Rattle.lines.specs.declared.Head.{Head}
use Rattle.lines.specs.declared.Line.{Line}
use Rattle.lines.specs.declared.Refusal.{Refusal}
use Rattle.lines.specs.declared.Refusal.TheVariants.{BadLine}
use Rattle.lines.specs.declared.Row.{Row}

-- the number that a refused line is told by
abbrev pub number_of : Refusal → ℕ
number_of BadLine = 15

-- blanks stand at columns 4, 8 and 12
unfoldable pub has_blanks : List ℕ → Bool
has_blanks xs = nat_le 12 (length xs) && (is_blank (slice_index xs 3) && (is_blank (slice_index xs 7) && is_blank (slice_index xs 11)))

-- a head, if each of its numbers is there
abbrev pub head_from : Option ℕ → Option ℕ → Option ℕ → Option Head
head_from None m n = None
head_from (Some k) None n = None
head_from (Some k) (Some m) None = None
head_from (Some k) (Some m) (Some n) = Some (record { kind = k; first = m; second = n })

-- the numbers in columns 1-3, 5-7 and 9-11, whatever stands behind column 12
unfoldable pub head_of : List ℕ → Option Head
head_of xs = cond (has_blanks xs) (head_from (number_at xs 0) (number_at xs 4) (number_at xs 8)) None

-- what a line says: its kind and its two texts
pub record Content : Type 0 where
  pub kind : ℕ
  pub first : List ℕ
  pub second : List ℕ

-- the parts of a line with this head, if behind it stand both texts and nothing else
abbrev pub content_behind : List ℕ → Option Head → Option Content
content_behind xs None = None
content_behind xs (Some h) =
    cond (length xs == 12 + h.first + h.second)
    (Some (record { kind = h.kind; first = take h.first (drop 12 xs); second = take h.second (drop (12 + h.first) xs) }))
    None

-- the parts of a line
unfoldable pub content_of : List ℕ → Option Content
content_of xs = content_behind xs (head_of xs)

-- what a line that was read says
abbrev pub said : Line → Content
said l = record { kind = l.kind; first = l.first.now; second = l.second.now }

-- the numbers of a head, in their order
abbrev pub head_numbers : Head → List ℕ
head_numbers h = h.kind ∷ h.first ∷ h.second ∷ []

-- the numbers of a row, in their order
abbrev pub row_numbers : Row → List ℕ
row_numbers r = r.number ∷ r.rounds ∷ r.first ∷ r.second ∷ r.third ∷ []

-- the columns of a row read as its numbers
pub record Shows (xs : List ℕ) (r : Row) : Type 0 where
  pub number : number_at xs 0 ≡ Some r.number
  pub rounds : number_at xs 4 ≡ Some r.rounds
  pub first : number_at xs 8 ≡ Some r.first
  pub second : number_at xs 12 ≡ Some r.second
  pub third : number_at xs 16 ≡ Some r.third

-- the byte that ends a line
abbrev pub LINE_END : ℕ
LINE_END = 10

-- the first line of a sheet: up to the first line end, or all of it
abbrev pub line_of : List ℕ → List ℕ
line_of xs = take (until LINE_END xs) xs

-- what stands behind that line end
abbrev pub behind_line : List ℕ → List ℕ
behind_line xs = drop (until LINE_END xs + 1) xs

-- a sheet is its first line, or that line, its line end and the rest
abbrev pub Whole : List ℕ → Type 0
Whole xs = (xs ≡ line_of xs) ⊎ (xs ≡ line_of xs ++ (LINE_END ∷ behind_line xs))
