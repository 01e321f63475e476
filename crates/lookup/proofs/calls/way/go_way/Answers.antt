use Rattle.std.proofs.Common.{length, ap, arith}
use Rattle.lookup.proofs.Areas.{length_text_at, text_made, unslashed_short}
use Rattle.lookup.proofs.calls.way.go_way.Goals as goal

pub unwrap-path-requires : goal.unwrap-path-requires
unwrap-path-requires g c =
    let r = c.of-request.result.now in
    text_made c.new.result c.trim_final_slashes.result.now c.new.ensures.same_bytes_or_too_many
    (omega (arith, ap length c.trim_final_slashes.ensures.no_final_slash, unslashed_short r, ap length c.of-request.ensures.part_of_the_text, length_text_at c.args.work.now c.args.asked.text, c.requires.labelled.short))
