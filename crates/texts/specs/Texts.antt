-- Texts: the bytes that the rules name, when bytes are a text, and a buffer after a text was copied into it. Assumes nothing.
use Rattle.std.specs.List.{list_all}
use Rattle.std.specs.Prelude.{ℕ, suc, Bool, true, false, cond, ◌&&◌, List, [], ◌∷◌, ◌++◌, length, take, drop, Some, None, Option, ◌==◌, nat_le}

-- a text, by its bytes, however many
abbrev pub Text : Type 0
Text = List ℕ

abbrev pub NUL : ℕ
NUL = 0

abbrev pub HASH : ℕ
HASH = 35

abbrev pub DOT : ℕ
DOT = 46

abbrev pub SLASH : ℕ
SLASH = 47

abbrev pub QUESTION : ℕ
QUESTION = 63

-- every byte is at most 127
abbrev pub ascii : Text → Bool
ascii s = list_all (λ b. nat_le b 127) s

-- every byte is one that an office may write, 32 to 126
abbrev pub printable : Text → Bool
printable s = list_all (λ b. nat_le 32 b && nat_le b 126) s

-- at most 255 bytes
abbrev pub fits : Text → Bool
fits s = nat_le (length s) 255

-- what counts as a text: at most 255 bytes, each at most 127
abbrev pub is_text : Text → Bool
is_text s = fits s && ascii s

-- there is no byte
abbrev pub empty : Text → Bool
empty [] = true
empty (b ∷ s) = false

-- the first byte is b
abbrev pub begins : ℕ → Text → Bool
begins b [] = false
begins b (c ∷ s) = c == b

-- the last byte is b
abbrev pub ends : ℕ → Text → Bool
ends b [] = false
ends b (c ∷ []) = c == b
ends b (c ∷ d ∷ s) = ends b (d ∷ s)

-- some byte is b
abbrev pub has : ℕ → Text → Bool
has b [] = false
has b (c ∷ s) = cond (c == b) true (has b s)

-- how many bytes stand before the first b; all of them if there is none
abbrev pub until : ℕ → Text → ℕ
until b [] = 0
until b (c ∷ s) = cond (c == b) 0 (suc (until b s))

-- a buffer after a text was copied to its front: the bytes beyond the text stay
abbrev pub fronted : Text → List ℕ → List ℕ
fronted s out = s ++ drop (length s) out

-- how long the text is that went to the front of a buffer of n bytes; none if there is no text or it is longer than the buffer
abbrev pub length_in : Option Text → ℕ → Option ℕ
length_in None n = None
length_in (Some s) n = cond (nat_le (length s) n) (Some (length s)) None

-- and the buffer then: a text that is refused leaves it as it was
abbrev pub buffer_with : Option Text → List ℕ → List ℕ
buffer_with None out = out
buffer_with (Some s) out = cond (nat_le (length s) (length out)) (fronted s out) out

-- the text of that length at the front of a buffer
abbrev pub text_in : Option ℕ → List ℕ → Option Text
text_in None out = None
text_in (Some n) out = Some (take n out)

-- the first n bytes of a buffer with a text behind them; none if there are not so many
abbrev pub appended : ℕ → List ℕ → Text → Option Text
appended n out more = cond (nat_le n (length out)) (Some (take n out ++ more)) None

-- a text without its final slashes
abbrev pub unslashed : Text → Text
unslashed [] = []
unslashed (b ∷ s) = cond (empty (unslashed s) && b == SLASH) [] (b ∷ unslashed s)
