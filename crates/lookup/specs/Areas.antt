-- Texts in the work text, each in a unit of 256 bytes. Assumes nothing.
use Rattle.std.specs.Prelude.{◌≡◌, ℕ, ◌+◌, ◌*◌, ◌≤◌, List, ◌++◌, length, take, drop}
use Rattle.texts.specs.declared.place.Place.{Place}
use Rattle.texts.specs.Texts.{Text}

-- the work text after a text was written to a place of it
abbrev pub placed : ℕ → Text → List ℕ → List ℕ
placed at t w = take at w ++ t ++ drop (at + length t) w

-- the place of a text of so many bytes in a unit
abbrev pub place_in : ℕ → ℕ → Place
place_in unit n = record { start = 256 * unit; len = n }

-- a place that lies before a byte of the work text
abbrev pub Before : ℕ → Place → Type 0
Before n p = p.start + p.len ≤ n

-- a place that lies in a unit
abbrev pub In : ℕ → Place → Type 0
In unit p = (256 * unit ≤ p.start) × (p.start + p.len ≤ 256 * unit + 256)

-- a work text that is another one but for what stands in a unit
pub record OnlyIn (unit : ℕ) (w u : List ℕ) : Type 0 where
  pub long : length u ≡ length w
  pub front : take (256 * unit) u ≡ take (256 * unit) w
  pub behind : drop (256 * unit + 256) u ≡ drop (256 * unit + 256) w
