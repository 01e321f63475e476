use Rattle.std.proofs.Common.{[], get_or, sym, subst, arith}
use Rattle.std.specs.Io.KnownBytes.{Appends}
use Rattle.explain.specs.declared.cause.Cause.TheVariants.{Question}
use Rattle.explain.specs.declared.refusal.Refusal.TheVariants.{Line}
use Rattle.explain.specs.declared.sentence.refused.Refused.{Refused}
use Rattle.explain.specs.Filling.{noted}
use Rattle.explain.specs.Telling.{refused_line}
use Rattle.explain.proofs.TellingSteps.{same_item}
use Rattle.explain.proofs.Writing.{one_more, took_both, took_nothing}
use Rattle.explain.proofs.whole.refusals.Goals as goal

pub loop-refusal-init : goal.loop-refusal-init
loop-refusal-init g c = took_nothing _

pub loop-refusal-preserved : goal.loop-refusal-preserved
loop-refusal-preserved g c =
    let xs = c.args.refused.now in
    let i = c.loop-refusal.refusal-index in
    let none : Refused = record { line = 0; cause = Question Line; text = record { ref_ptr = (0, 0); now = [] } } in
    let item = get_or xs i none in
    subst (Appends (g.W.Write.contents c.args.out.now) (g.W.Write.contents c.writeln.new.self)) (sym (one_more noted refused_line xs i item (omega arith) (same_item xs i none item (omega arith))))
    (took_both _ _ _ _ _ c.loop-refusal.invariant c.in_ok-writeln.ensures.bytes)
