use Rattle.std.proofs.Common.{leb, ltb, rules, arith}
use Rattle.std.proofs.lemmas.Bool.Decides.{nat_tests}
use Rattle.std.proofs.lemmas.Iterator.{YieldsList-from_slice}
use Rattle.std.proofs.lemmas.Iterator.Search.{position_from_yields_List}
use Rattle.texts.proofs.ByteLoops.{none_found}
use Rattle.texts.proofs.bytes.is_ascii.Goals as goal

pub returns : goal.returns
returns c =
    let t = c.args.text.now in
    let found = position_from_yields_List (λ b. ltb 127 b) _ _ _ c.position.ensures.ran (YieldsList-from_slice t cc) (λ x b q k. search rules) in
    record { every_byte_is_at_most_127 = none_found (λ b. ltb 127 b) (λ b. leb b 127) (λ b. grind (arith, nat_tests)) t _ _ found c.is_none.ensures }
