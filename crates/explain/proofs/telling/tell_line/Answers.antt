use Rattle.std.proofs.Common.{◌≡◌, ℕ, ◌+◌, min, [], ◌∷◌, ◌++◌, Ok, Err, Result, refl, ap, subst, ◌∙◌}
use Rattle.std.specs.Io.KnownBytes.{Appends}
use Rattle.lines.specs.Sheets.{LINE_END}
use Rattle.settings.specs.Meant.{tables}
use Rattle.lookup.specs.Outcomes.{answer}
use Rattle.resolver.specs.Runs.{ceiling}
use Rattle.sheets.specs.Rows.{lent}
use Rattle.explain.specs.declared.refusal.Refusal.{Refusal}
use Rattle.explain.specs.Ends.{End, end_of, end_sentence}
use Rattle.explain.specs.Legible.{phrase}
use Rattle.explain.specs.Questions.{Ordered, asked}
use Rattle.explain.specs.Telling.{TellsOrder, paths_of}
use Rattle.explain.proofs.EndSteps.{counted}
use Rattle.explain.proofs.Writing.{took_both}
use Rattle.explain.proofs.telling.tell_line.Goals as goal

pub returns-in_ok-writeln-in-Ok-Ask-clause-all_that_is_told : goal.returns-in_ok-writeln-in-Ok-Ask-clause-all_that_is_told
returns-in_ok-writeln-in-Ok-Ask-clause-all_that_is_told g c =
    let m = g.H.FileTree.meaning c.args.host.now in
    let n = g.G.FileTree.meaning c.args.resolver.now.host in
    let allowed = g.P.Policy.allowed c.args.policy.now in
    let policy = g.P.Policy.allowed c.args.resolver.now.policy in
    let t = tables c.args.settings.now in
    let u = tables c.args.resolver.now.settings in
    let q = asked c.in-Ok-Ask.question in
    let end = end_of (answer n policy u lent q.directory q.request) in
    let asks = rw c.in-Ok-Ask.field-0-is at c.in-Ok-Ask.ensures.order_in_the_line in
    let tells = c.in_ok-tell-in-Ok-Ask.ensures.all_that_is_told in
    let before = c.args.resolver.now.handed_out in
    let after = c.of-end.new.resolver.handed_out in
    let counts : after ≡ min (before + paths_of end) ceiling = c.of-end.ensures.a_path_counts ∙ ap (λ (k : ℕ). min (before + k) ceiling) (counted _ _ _ ∙ ap paths_of c.of-end.ensures.ends_as_defined) in
    let wrote_end : Appends (g.W.Write.contents c.tell.new.out) (g.W.Write.contents c.writeln.new.self) (end_sentence end ++ LINE_END ∷ []) =
    subst (λ (e : End). Appends (g.W.Write.contents c.tell.new.out) (g.W.Write.contents c.writeln.new.self) (end_sentence e ++ LINE_END ∷ [])) c.of-end.ensures.ends_as_defined c.in_ok-writeln-in-Ok-Ask.ensures.bytes in
    let text = phrase (tells.0 ∷ end_sentence end ∷ (LINE_END ∷ []) ∷ []) in (
      text,
      (
        took_both _ _ _ _ _ tells.1.0 wrote_end,
        subst (λ (x : Result Ordered Refusal). TellsOrder m n allowed policy t u c.args.number c.args.line.now x before after text) asks (counts, (tells.0, (tells.1.1, refl))),
      ),
    )
