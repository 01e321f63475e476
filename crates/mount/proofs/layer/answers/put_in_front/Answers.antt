use Rattle.std.proofs.Common.{◌+◌, ◌≤◌, length, rules, sym, ap, ◌∙◌}
use Rattle.std.proofs.lemmas.Bool.{cond-true, le-leb}
use Rattle.texts.specs.Texts.{buffer_with}
use Rattle.tree.specs.Meanings.{Finding, path_found}
use Rattle.mount.proofs.Fronts.{whole_in_front}
use Rattle.mount.proofs.layer.answers.put_in_front.Goals as goal

pub returns-clause-path_in_front : goal.returns-clause-path_in_front
returns-clause-path_in_front c =
    let at = c.args.at.now in
    let path = c.args.path.now in
    let out = c.args.out.now in
    let short : length at + length path ≤ 255 = search rules in
    let room : length at + length path ≤ length out = search rules in
    whole_in_front at path out c.copy_text.new.out c.append_text.new.out c.in_ok-len.len room (search rules) c.in_ok-len.ensures.bytes_beyond_stay c.append_text.ensures.bytes_beyond_stay
    ∙ ap (λ (f : Finding). buffer_with (path_found f) out) (sym (cond-true _ _ _ (le-leb (length at + length path) 255 short)))
