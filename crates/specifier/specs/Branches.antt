-- Which way a path goes. Assumes nothing.
use Rattle.std.specs.Prelude.{Bool, true, false, cond, ◌||◌, List, [], ◌∷◌}
use Rattle.std.specs.Str.{bytes_eq}
use Rattle.specifier.specs.declared.branch.Branch.{Branch}
use Rattle.specifier.specs.declared.branch.Branch.TheVariants.{Absolute, Relative, Hash, Package}
use Rattle.texts.specs.Parts.{root, here, above, parts}
use Rattle.texts.specs.Texts.{Text, HASH, begins}

-- the way of a text with these parts: absolute with the root in front, relative with `.` or `..` in front; of the others hash lookup if the text begins with `#`, and package lookup for all else
abbrev pub way : Text → List Text → Branch
way s [] = Package
way s (p ∷ ps) = cond (bytes_eq p root) Absolute (cond (bytes_eq p here || bytes_eq p above) Relative (cond (begins HASH s) Hash Package))

-- the way of a path
unfoldable pub branch : Text → Branch
branch s = way s (parts s)

-- the way is the absolute one
abbrev pub is_absolute : Branch → Bool
is_absolute Absolute = true
is_absolute Relative = false
is_absolute Hash = false
is_absolute Package = false
