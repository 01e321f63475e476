-- The table of open calls, the top one first. Assumes nothing.
use Rattle.std.specs.Prelude.{ℕ, ◌+◌, ◌≤◌, List, [], ◌∷◌, length, None, Ok, Option, Result, reverse}
use Rattle.stack.specs.declared.lifo.Stack.{Stack}
use Rattle.stack.specs.Items.{items}
use Rattle.texts.specs.declared.place.Place.{Place}
use Rattle.lookup.specs.declared.calls.Fault.{Fault as Told}
use Rattle.lookup.specs.declared.calls.OpenCall.{OpenCall}
use Rattle.lookup.specs.declared.calls.Move.{Move}
use Rattle.lookup.specs.declared.calls.Move.TheVariants.{Open, Return, Stay}
use Rattle.lookup.specs.Opened.{Begun, Placed, free_unit}
use Rattle.lookup.specs.Turns.{height}

-- the open calls of a table, the top one first
abbrev pub piled : Stack OpenCall → List OpenCall
piled s = reverse (items s)

-- every one of these leaves the units from there on free
abbrev pub Under : ℕ → List OpenCall → Type 0
Under n [] = Unit {0}
Under n (row ∷ rows) = (free_unit row ≤ n) × Under n rows

-- open calls that may stand on one another
abbrev pub Tower : ℕ → List OpenCall → Type 0
Tower rounds [] = Unit {0}
Tower rounds (row ∷ rows) = Placed row × Begun rounds row × (length rows + 1 ≤ height row) × Under (free_unit row) rows × Tower rounds rows

-- what the top call is told after a move
abbrev pub told_then : Move → Result (Option Place) Told
told_then (Return a) = a
told_then (Stay row) = Ok None
told_then (Open row child) = Ok None
