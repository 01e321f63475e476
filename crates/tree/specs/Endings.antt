-- The endings that a policy allows, and why one is not taken. Assumes nothing.
use Rattle.std.specs.Prelude.{cond, List, map, length, Some, None, Option, nat_le, nat_lt}
use Rattle.stack.specs.Held.{held}
use Rattle.texts.specs.Held.{bytes_of}
use Rattle.texts.specs.Texts.{Text}
use Rattle.tree.specs.declared.endings.EndingRefusal.{EndingRefusal}
use Rattle.tree.specs.declared.endings.EndingRefusal.TheVariants.{TooLong, Full}
use Rattle.tree.specs.declared.endings.Endings.{Endings}

-- the endings in the order in which they were added
abbrev pub endings_of : Endings → List Text
endings_of s = map bytes_of (held s.texts)

-- why an ending is refused behind these: there are at most four, of at most 16 bytes
abbrev pub ending_refusal : List Text → Text → Option EndingRefusal
ending_refusal es e = cond (nat_le (length e) 16) (cond (nat_lt (length es) 4) None (Some Full)) (Some TooLong)
