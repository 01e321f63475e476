-- Hashes of paths, by which most that differ are told apart. Assumes nothing.
use Rattle.std.specs.Prelude.{ℕ, ◌+◌, ◌*◌, ◌%◌, cond, [], ◌∷◌}
use Rattle.texts.specs.Parts.{clean}
use Rattle.texts.specs.Texts.{Text}

-- a number below 128 from the bytes of a text, where those in front of it gave h
abbrev pub hashed : ℕ → Text → ℕ
hashed h [] = h
hashed h (b ∷ t) = hashed ((31 * h + b) % 128) t

-- the hash of a clean path; any other has 0, since its bytes do not decide which path it is
abbrev pub path_hash : Text → ℕ
path_hash t = cond (clean t) (128 + hashed 0 t) 0
