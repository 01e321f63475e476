use Rattle.std.proofs.Common.{cond, Some, None, sym, ◌∙◌}
use Rattle.paths.proofs.JoinLaws.{join_whole}
use Rattle.texts.proofs.Buffers.{new_is}
use Rattle.paths.proofs.path_util.joined.Goals as goal

pub returns-then-not-is_relative : goal.returns-then-not-is_relative
returns-then-not-is_relative c =
    let b = c.args.more.now in
    let j = join_whole c.args.base.now b (sym c.if-not-is_relative.ensures.neither_empty_nor_rooted) in
    record { joined_text = new_is c.new.result b c.new.ensures.same_bytes_or_too_many ∙ (λ i. cond (sym j.1 i) (Some (sym j.0 i)) None) }
