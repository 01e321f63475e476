use Rattle.std.proofs.Common.{◌≡◌, ◌<◌, length, sym, ap, ◌∙◌, arith}
use Rattle.std.proofs.lemmas.List.{take_rest}
use Rattle.std.proofs.lemmas.Bool.{cond-false, cond-true, eq-eqb, le-ltb, lt-ltb, ltb-true, ne_eqb}
use Rattle.texts.specs.Parts.{parts}
use Rattle.texts.specs.Scans.{rest_text}
use Rattle.texts.proofs.Scans.{rest_parts}
use Rattle.texts.proofs.components.Components.rest.Goals as goal

pub returns-then-at-text : goal.returns-then-at-text
returns-then-at-text c =
    let t = c.args.self.now.text.now in
    let at = c.args.self.now.at in
    let is : _ ≡ rest_text t at = sym (cond-false _ _ _ (le-ltb at (length t) (omega arith))) in
    record { text_behind_the_part = is; parts_left_below_the_root = λ b. ap parts is ∙ rest_parts t at c.args.self.now.between_parts (ltb-true 0 at b) }

pub returns-then-text-at-eq47 : goal.returns-then-text-at-eq47
returns-then-text-at-eq47 c =
    let t = c.args.self.now.text.now in
    let at = c.args.self.now.at in
    let inside : at < length t = omega arith in
    let is : _ ≡ rest_text t at = take_rest t at ∙ sym (cond-true _ _ _ (lt-ltb at (length t) inside) ∙ cond-true _ _ _ (eq-eqb _ 47 c.if-text-at-eq47.true)) in
    record { text_behind_the_part = is; parts_left_below_the_root = λ b. ap parts is ∙ rest_parts t at c.args.self.now.between_parts (ltb-true 0 at b) }

pub returns-else-text-at-eq47 : goal.returns-else-text-at-eq47
returns-else-text-at-eq47 c =
    let t = c.args.self.now.text.now in
    let at = c.args.self.now.at in
    let inside : at < length t = omega arith in
    let is : t ≡ rest_text t at = sym (cond-true _ _ _ (lt-ltb at (length t) inside) ∙ cond-false _ _ _ (ne_eqb _ 47 c.if-text-at-eq47.false)) in
    record { text_behind_the_part = is; parts_left_below_the_root = λ b. ap parts is ∙ rest_parts t at c.args.self.now.between_parts (ltb-true 0 at b) }
