-- A pile of any height is proper. Assumes nothing.
use Rattle.tree.specs.Meanings.{Proper}
use Rattle.mount.specs.Placed.{mounted_proper}
use Rattle.piles.specs.Piles.{Pile, WellPiled, cached, host, means, mounting}

pub every_pile_is_proper : (p : Pile) → WellPiled p → Proper (means p)
every_pile_is_proper (host m) w = w
every_pile_is_proper (cached p) w = every_pile_is_proper p w
every_pile_is_proper (mounting at p q) w = mounted_proper at (means p) (means q) w.0 (every_pile_is_proper p w.1) (every_pile_is_proper q w.2)
