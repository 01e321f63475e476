use Rattle.std.proofs.Common.{◌||◌, ◌&&◌, leb, ltb, rules, arith}
use Rattle.std.proofs.lemmas.Bool.Decides.{nat_tests}
use Rattle.std.proofs.lemmas.Iterator.{YieldsList-from_slice}
use Rattle.std.proofs.lemmas.Iterator.Search.{position_from_yields_List}
use Rattle.texts.proofs.ByteLoops.{none_found}
use Rattle.texts.proofs.bytes.is_printable.Goals as goal

pub returns : goal.returns
returns c =
    let t = c.args.text.now in
    let found = position_from_yields_List (λ b. ltb b 32 || ltb 126 b) _ _ _ c.position.ensures.ran (YieldsList-from_slice t cc) (λ x b q k. search rules) in
    record { every_byte_is_32_to_126 = none_found (λ b. ltb b 32 || ltb 126 b) (λ b. leb 32 b && leb b 126) (λ b. grind (arith, nat_tests)) t _ _ found c.is_none.ensures }
