use Rattle.std.proofs.Common.{◌≡◌, length, take, sym, ap, ◌∙◌, arith}
use Rattle.std.proofs.lemmas.List.{take_all}
use Rattle.texts.specs.Texts.{Text, unslashed}
use Rattle.texts.proofs.ByteLoops.{none_stays, other_stays, slash_off}
use Rattle.texts.proofs.bytes.trim_final_slashes.Goals as goal

whole : (t : Text) → unslashed (take (length t) t) ≡ unslashed t
whole t = ap unslashed (take_all (length t) t (omega arith))

pub loop-kept-preserved : goal.loop-kept-preserved
loop-kept-preserved c =
    let t = c.loop-kept.kept.now in
    sym (slash_off t (length t) (omega arith) (omega arith) (omega arith)) ∙ whole t ∙ c.loop-kept.invariant

pub returns-in_default : goal.returns-in_default
returns-in_default c =
    let t = c.loop-kept.kept.now in
    record { no_final_slash = sym (take_all (length t) t (omega arith)) ∙ sym (none_stays t (length t) (omega arith)) ∙ whole t ∙ c.loop-kept.invariant }

pub returns-in_default-2 : goal.returns-in_default-2
returns-in_default-2 c =
    let t = c.loop-kept.kept.now in
    record { no_final_slash = sym (take_all (length t) t (omega arith)) ∙ sym (other_stays t (length t) (omega arith) (omega arith) (λ e. omega arith)) ∙ whole t ∙ c.loop-kept.invariant }
