use Rattle.std.proofs.Common.{sym, ap, ◌∙◌, arith}
use Rattle.texts.specs.Parts.{solid}
use Rattle.texts.proofs.Scans.{next_later, none_later, slash_later, at_end}
use Rattle.texts.proofs.components.scan.later_part.Goals as goal

pub returns-then-is_solid : goal.returns-then-is_solid
returns-then-is_solid c =
    let i = c.loop-place.invariant in
    record {
      next_part_or_none_left =
          next_later c.args.text.now c.args.at c.loop-place.start c.piece_len-len.result i.0 i.2 i.1 c.piece_len-len.ensures.up_to_the_slash i.3
          (ap solid (sym c.of.ensures.part_of_the_text) ∙ sym c.is_solid.ensures.neither_empty_nor_a_dot ∙ c.if-is_solid.true);
    }

pub returns-then-end-text : goal.returns-then-end-text
returns-then-end-text c =
    let i = c.loop-place.invariant in
    record {
      next_part_or_none_left =
          none_later c.args.text.now c.args.at c.loop-place.start c.piece_len-len.result i.0 i.2 i.1 c.piece_len-len.ensures.up_to_the_slash i.3
          (ap solid (sym c.of.ensures.part_of_the_text) ∙ sym c.is_solid.ensures.neither_empty_nor_a_dot ∙ c.if-is_solid.false)
          ∙ at_end c.args.text.now _ (omega arith) (omega arith);
    }

pub loop-place-preserved : goal.loop-place-preserved
loop-place-preserved c =
    let i = c.loop-place.invariant in (
      omega arith,
      omega arith,
      omega arith,
      slash_later c.args.text.now c.args.at c.loop-place.start c.piece_len-len.result i.0 i.2 i.1 c.piece_len-len.ensures.up_to_the_slash i.3
          (omega arith) c.if-end-text.false (ap solid (sym c.of.ensures.part_of_the_text) ∙ sym c.is_solid.ensures.neither_empty_nor_a_dot ∙ c.if-is_solid.false),
    )
