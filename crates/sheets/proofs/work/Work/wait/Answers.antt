use Rattle.std.proofs.Common.{◌≡◌, ◌∷◌, ◌++◌, [], List, append_assoc, refl, sym, ap, ◌∙◌}
use Rattle.std.proofs.lemmas.Slice.{pushed}
use Rattle.stack.specs.Held.{held}
use Rattle.settings.specs.Meant.{tables}
use Rattle.texts.specs.Texts.{Text}
use Rattle.resolver.specs.declared.Call.{Call}
use Rattle.sheets.specs.Waiting.{call_row, call_rows}
use Rattle.sheets.proofs.Serving.{call_behind}
use Rattle.sheets.proofs.work.Work.wait.Goals as goal

pub returns-clause-its_row_behind : goal.returns-clause-its_row_behind
returns-clause-its_row_behind g c =
    let m = g.H.FileTree.meaning c.args.resolver.now.host in
    let allowed = g.P.Policy.allowed c.args.resolver.now.policy in
    let t = tables c.args.resolver.now.settings in
    let sheet = c.args.sheet.now in
    let rows = c.make_room.new.self.rows.items in
    let calls = held c.make_room.new.self.waiting in
    let one = call_row m allowed t sheet c.args.call in
    let now : held c.push.new.self ≡ calls ++ c.args.call ∷ [] = pushed (c.args.call ∷ []) refl c.unwrap.ensures c.push.ensures.items_after in
    ap (λ (xs : List Call). rows ++ call_rows m allowed t sheet xs) now
    ∙ ap (λ (x : Text). rows ++ x) (call_behind m allowed t sheet calls c.args.call)
    ∙ sym (append_assoc rows (call_rows m allowed t sheet calls) one)
    ∙ ap (λ (x : Text). x ++ one) c.in_ok-make_room.ensures.same_rows_then
