use Rattle.std.proofs.Common.{◌≤◌, eqb, length, sym, ◌∙◌, rules, arith}
use Rattle.std.proofs.lemmas.Iterator.{YieldsList-from_slice}
use Rattle.std.proofs.lemmas.Iterator.Search.{position_from_yields_List}
use Rattle.texts.specs.Texts.{until}
use Rattle.texts.proofs.ByteLoops.{found_or_all, until_is, until_le}
use Rattle.texts.proofs.bytes.position.Goals as goal

pub returns : goal.returns
returns c =
    let t = c.args.text.now in
    let within : until c.args.byte t ≤ length t = until_le c.args.byte t in
    let same = until_is c.args.byte t in
    let found = position_from_yields_List (λ b. eqb b c.args.byte) _ _ _ c.position.ensures.ran (YieldsList-from_slice t cc) (λ x b q k. search rules) in
    let is = c.unwrap_or.ensures ∙ found_or_all _ (length t) _ (omega (arith, same)) found ∙ sym same in
    record { stands_before_the_first = is; within_the_text = omega (arith, is) }
