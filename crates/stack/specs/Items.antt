-- What a stack holds, from the bottom to the top, and how much it can hold. Assumes nothing.
use Rattle.std.specs.Prelude.{ℕ, zero, suc, List, [], ◌∷◌, length, take, Some, None, Option}
use Rattle.stack.specs.declared.lifo.Stack.{Stack}

-- the items, the last of them on top
abbrev pub items : {T : Type 0} → Stack T → List T
items s = take s.len s.slots.now

-- how many items there is room for
abbrev pub capacity : {T : Type 0} → Stack T → ℕ
capacity s = length s.slots.now

-- the item at a place counted from the bottom, none beyond the top
abbrev pub item_at : {T : Type 0} → List T → ℕ → Option T
item_at [] i = None
item_at (x ∷ xs) zero = Some x
item_at (x ∷ xs) (suc i) = item_at xs i
