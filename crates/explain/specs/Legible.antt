-- Bytes as a person can read them. Assumes nothing.
use Rattle.std.specs.Prelude.{ℕ, ◌/◌, ◌%◌, Bool, false, cond, ◌&&◌, List, [], ◌∷◌, ◌++◌, nat_le, codes}
use Rattle.std.specs.List.{flat_map}
use Rattle.std.specs.Fmt.{digit_glyph}
use Rattle.texts.specs.Texts.{Text}

-- texts one behind the other
abbrev pub phrase : List Text → Text
phrase [] = []
phrase (t ∷ []) = t
phrase (t ∷ u ∷ more) = t ++ phrase (u ∷ more)

-- a byte in two hexadecimal digits
abbrev pub hexadecimal : ℕ → Text
hexadecimal b = digit_glyph false (b / 16) ∷ digit_glyph false (b % 16) ∷ []

-- a byte that prints, 32 to 126
abbrev pub prints : ℕ → Bool
prints b = nat_le 32 b && nat_le b 126

-- a byte that prints as it is, any other as `\x` and two hexadecimal digits
abbrev pub legible_byte : ℕ → Text
legible_byte b = cond (prints b) (b ∷ []) (codes "\\x" ++ hexadecimal b)

-- each byte in its turn, and no bytes as `(empty)`
abbrev pub legible : Text → Text
legible [] = codes "(empty)"
legible (b ∷ s) = flat_map legible_byte (b ∷ s)
