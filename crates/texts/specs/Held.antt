-- The bytes of a text that is held by value. Assumes nothing.
use Rattle.std.specs.Prelude.{ℕ, List}
use Rattle.stack.specs.Held.{held}
use Rattle.texts.specs.declared.text.Text.{Text}

-- its bytes, in their order
abbrev pub bytes_of : {N : ℕ} → Text N → List ℕ
bytes_of t = held t.bytes
