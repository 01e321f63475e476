use Rattle.std.proofs.Common.{◌≡◌, length, inl, refl, ℕ, arith}
use Rattle.std.proofs.lemmas.Iterator.Consumers.{YieldsList-from_first, count_from_yields_List}
use Rattle.specifier.specs.declared.escape.Unescaped.{Unescaped}
use Rattle.specifier.specs.Requests.{unescaped}
use Rattle.specifier.proofs.Copies.{copied_more, unescaped_le}
use Rattle.specifier.proofs.escape.write_unescaped.Goals as goal

pub count-len-requires-clause-fits : goal.count-len-requires-clause-fits
count-len-requires-clause-fits c = inl (omega (arith, unescaped_le c.args.text.now))

pub loop-i-preserved : goal.loop-i-preserved
loop-i-preserved c =
    let size : c.count-len.result ≡ length (unescaped c.args.text.now) = count_from_yields_List _ _ c.count-len.ensures.ran (YieldsList-from_first (λ (x : ℕ). x) (λ (u : Unescaped). unescaped u.0.now) _ refl) in
    let step = c.in-Some.ensures.steps in
    copied_more (omega arith) step.0 step.1 step.2 c.loop-i.invariant
