-- Numbers in columns: three bytes, the digits to the right and blanks in front. Assumes nothing.
use Rattle.std.specs.Prelude.{ℕ, ◌+◌, ◌-◌, ◌*◌, ◌/◌, ◌%◌, Bool, true, cond, ◌&&◌, ◌||◌, List, [], ◌∷◌, ◌++◌, Option, ◌==◌, nat_le, nat_lt, slice_index}
use Rattle.std.specs.Bool.{then_some}

-- the byte in front of a column's digits and behind a column
abbrev pub blank : ℕ
blank = 32

-- a byte is a blank
abbrev pub is_blank : ℕ → Bool
is_blank b = b == blank

-- a byte is a digit, 0 to 9
abbrev pub is_digit : ℕ → Bool
is_digit b = nat_le 48 b && nat_le b 57

-- three bytes are a column: one, two or three digits with blanks in front
abbrev pub is_column : ℕ → ℕ → ℕ → Bool
is_column a b c =
    is_digit c && ((is_blank a && is_blank b) || ((is_blank a && is_digit b) || (is_digit a && is_digit b)))

-- what a byte counts in its place: a digit its value, a blank nothing
abbrev pub worth : ℕ → ℕ
worth b = cond (is_digit b) (b - 48) 0

-- the number in three bytes, if they are a column
abbrev pub number_in : ℕ → ℕ → ℕ → Option ℕ
number_in a b c = then_some (is_column a b c) (100 * worth a + 10 * worth b + worth c)

-- the number in the three bytes from place i on, if they are a column
unfoldable pub number_at : List ℕ → ℕ → Option ℕ
number_at xs i = number_in (slice_index xs i) (slice_index xs (i + 1)) (slice_index xs (i + 2))

-- a column has room for a number
abbrev pub has_room : ℕ → Bool
has_room n = nat_le n 999

-- the byte of a number's last digit
abbrev pub last_digit : ℕ → ℕ
last_digit n = 48 + n % 10

-- the three bytes of a number that a column has room for
unfoldable pub column : ℕ → List ℕ
column n =
    cond (nat_lt n 100) blank (last_digit (n / 100))
    ∷ cond (nat_lt n 10) blank (last_digit (n / 10))
    ∷ last_digit n
    ∷ []

-- columns have room for all the numbers
unfoldable pub have_room : List ℕ → Bool
have_room [] = true
have_room (n ∷ ns) = has_room n && have_room ns

-- the columns of the numbers, with a blank behind each
unfoldable pub columns : List ℕ → List ℕ
columns [] = []
columns (n ∷ ns) = column n ++ (blank ∷ columns ns)

-- the numbers written in columns, if there is room for all
unfoldable pub written : List ℕ → Option (List ℕ)
written ns = then_some (have_room ns) (columns ns)
