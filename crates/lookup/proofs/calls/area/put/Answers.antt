use Rattle.std.proofs.Common.{ℕ, ◌+◌, ◌-◌, ◌*◌, List, length, subst, sym, arith}
use Rattle.lookup.specs.Areas.{OnlyIn}
use Rattle.lookup.proofs.Areas.{only_there, put_placed}
use Rattle.lookup.proofs.calls.area.put.Goals as goal

pub returns-clause-only_its_unit_is_written : goal.returns-clause-only_its_unit_is_written
returns-clause-only_its_unit_is_written c =
    let at = 256 * c.args.unit in
    let t = c.args.text.now in
    let w = c.args.work.now in
    subst (λ (u : List ℕ). OnlyIn c.args.unit w u)
    (sym (put_placed at (at + length t - at) t c.copy_from_slice.new.self w c.copy_from_slice.ensures.after (omega arith)))
    (only_there c.args.unit t w (omega (arith, c.requires.short)) c.requires.room)
