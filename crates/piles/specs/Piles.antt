-- Layers piled on hosts, to any height, and what a pile means. Assumes nothing.
use Rattle.std.specs.Prelude.{◌≡◌, true}
use Rattle.texts.specs.Texts.{Text}
use Rattle.tree.specs.Meanings.{Meaning, Proper}
use Rattle.mount.specs.Mounts.{mountable, mounted}

-- a host, a cache over a pile, or one pile mounted at a path of another
pub data Pile : Type 0 where
  host : Meaning → Pile
  cached : Pile → Pile
  mounting : Text → Pile → Pile → Pile

-- a cache means what is below it, a mount what both sides mean together
abbrev pub means : Pile → Meaning
means (host m) = m
means (cached p) = means p
means (mounting at p q) = mounted at (means p) (means q)

-- every host at the bottom is proper and every mount stands at a path that a host can be mounted at
abbrev pub WellPiled : Pile → Type 0
WellPiled (host m) = Proper m
WellPiled (cached p) = WellPiled p
WellPiled (mounting at p q) = (mountable at ≡ true) × WellPiled p × WellPiled q
