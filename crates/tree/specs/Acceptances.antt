-- Which paths are acceptable. Assumes nothing.
use Rattle.std.specs.Prelude.{◌-◌, Bool, false, ◌&&◌, ◌||◌, List, [], ◌∷◌, length, drop, nat_le}
use Rattle.std.specs.Str.{bytes_eq}
use Rattle.texts.specs.Texts.{Text}
use Rattle.texts.specs.Parts.{every, parts}
use Rattle.tree.specs.Meanings.{Meaning, is_file}

-- a policy, by its answers
abbrev pub Allowed : Type 0
Allowed = Text → Bool

-- a path passes the restrictions: each has exactly its bytes
unfoldable pub unrestricted : List Text → Text → Bool
unrestricted restrictions path = every (λ r. bytes_eq path r) restrictions

-- a path is acceptable if it is a file, the policy says yes and it passes every restriction
unfoldable pub acceptable : Meaning → Allowed → List Text → Text → Bool
acceptable m allowed restrictions path = is_file (m.kind (parts path)) && (allowed path && unrestricted restrictions path)

-- a text ends in another
abbrev pub ends_in : Text → Text → Bool
ends_in end text = nat_le (length end) (length text) && bytes_eq (drop (length text - length end) text) end

-- a text ends in one of the endings
abbrev pub ends_in_one : List Text → Text → Bool
ends_in_one [] text = false
ends_in_one (e ∷ es) text = ends_in e text || ends_in_one es text
