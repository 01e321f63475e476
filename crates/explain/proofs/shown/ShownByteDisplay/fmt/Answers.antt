use Rattle.std.proofs.Common.{◌++◌, Some, sym, ap, subst, ◌∙◌, codes}
use Rattle.std.proofs.Math.Bool.{and-true}
use Rattle.std.proofs.lemmas.Bool.{cond-false}
use Rattle.std.specs.Fmt.{DisplaysOnOk}
use Rattle.explain.specs.Legible.{prints}
use Rattle.explain.proofs.shown.ShownByteDisplay.fmt.Goals as goal

pub returns-else-is_printable-clause-writes : goal.returns-else-is_printable-clause-writes
returns-else-is_printable-clause-writes g c =
    let b = c.args.self.now.0 in
    let text =
    (λ k. Some (codes "\\x" ++ (c.digit.ensures.hexadecimal_digit k ++ c.digit-else-is_printable.ensures.hexadecimal_digit k)))
    ∙ ap Some (sym (cond-false _ _ _ (sym (and-true (prints b)) ∙ sym c.is_printable.ensures.every_byte_is_32_to_126 ∙ c.if-is_printable.false))) in
    subst (λ o. DisplaysOnOk g.W.Write.write_str_gives c.args.f.now c.write-else-is_printable.result o c.write-else-is_printable.new.self) text c.write-else-is_printable.ensures.writes
