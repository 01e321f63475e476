-- What an array with a length holds. Assumes nothing.
use Rattle.std.specs.Prelude.{ℕ, List, take}
use Rattle.stack.specs.declared.array_vec.ArrayVec.{ArrayVec}

-- the items, in the order in which they were added
abbrev pub held : {T : Type 0} {N : ℕ} → ArrayVec T N → List T
held v = take v.len v.slots
