use Rattle.std.proofs.Common.{◌≤◌, length, sym, ◌∙◌, rules}
use Rattle.mount.specs.Placed.{mountable_clean}
use Rattle.mount.proofs.layer.Mount.new.Goals as goal

pub unwrap-at-requires : goal.unwrap-at-requires
unwrap-at-requires g c =
    let short : length c.args.at.now ≤ 16 = (mountable_clean c.args.at.now (sym c.is_mountable.ensures.clean_with_2_to_16_bytes ∙ c.if-not-is_mountable.false)).2 in
    search rules
