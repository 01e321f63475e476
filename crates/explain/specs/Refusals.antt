-- The numbers of the refusals. Assumes nothing.
use Rattle.std.specs.Prelude.{ℕ}
use Rattle.explain.specs.declared.refusal.Refusal.{Refusal}
use Rattle.explain.specs.declared.refusal.Refusal.TheVariants.{Line, Directory, Request, Empty, TooLong}

-- the number that stands for a refusal
abbrev pub number_of : Refusal → ℕ
number_of Line = 15
number_of Directory = 2
number_of Request = 20
number_of Empty = 21
number_of TooLong = 28
