use Rattle.std.proofs.Common.{[], ◌++◌, sym, refl, subst, ◌∙◌}
use Rattle.std.proofs.Math.Path.{transport}
use Rattle.lines.specs.Sheets.{line_of}
use Rattle.texts.specs.Texts.{Text}
use Rattle.settings.specs.Meant.{tables}
use Rattle.explain.specs.declared.numbered.NumberedLines.{NumberedLines}
use Rattle.explain.specs.SheetLines.{left_of, lines_before, next_line}
use Rattle.explain.specs.Telling.{TellsLine, TellsLines, none_yet, one_more}
use Rattle.explain.proofs.Writing.{took_both, took_nothing}
use Rattle.explain.proofs.telling.tell_lines.Goals as goal

pub loop-number-init : goal.loop-number-init
loop-number-init g c = record {
  sound = c.requires.sound;
  sound_resolver = c.requires.sound_resolver;
  same_meaning = refl;
  same_meaning_of_the_resolver = refl;
  same_settings = refl;
  same_policy = refl;
  told_so_far = ([], (took_nothing _, none_yet));
}

pub loop-number-preserved : goal.loop-number-preserved
loop-number-preserved g c =
    let m = g.H.FileTree.meaning c.args.host.now in
    let n = g.G.FileTree.meaning c.args.resolver.now.host in
    let allowed = g.P.Policy.allowed c.args.policy.now in
    let policy = g.P.Policy.allowed c.args.resolver.now.policy in
    let t = tables c.args.settings.now in
    let u = tables c.args.resolver.now.settings in
    let k = lines_before c.into_iter-number-iterator.result in
    let rest = left_of c.into_iter-number-iterator.result in
    let count = c.args.resolver.now.handed_out in
    let so_far = c.loop-number.invariant in
    let next = c.in-Some.ensures.steps in
    let tell = c.in_ok-tell_line.ensures in
    let now = c.loop-number.resolver.handed_out in
    let after = c.tell_line.new.resolver.handed_out in
    let before = so_far.told_so_far in
    let more = tell.all_that_is_told in
    let told : TellsLine m n allowed policy t u (next_line (lines_before c.loop-number.number-iterator)) (line_of (left_of c.loop-number.number-iterator)) now after more.0 =
    transport (λ i. TellsLine (so_far.same_meaning i) (so_far.same_meaning_of_the_resolver i) allowed (g.P.Policy.allowed (so_far.same_policy i)) t (tables (so_far.same_settings i)) (next.next_number i) (next.up_to_the_line_end i) now after more.0) more.1.1 in
    record {
      sound = tell.still_sound;
      sound_resolver = tell.resolver_still_sound;
      same_meaning = tell.same_meaning.0 ∙ so_far.same_meaning;
      same_meaning_of_the_resolver = tell.same_meaning.1 ∙ so_far.same_meaning_of_the_resolver;
      same_settings = tell.settings_and_policy_stay.0 ∙ so_far.same_settings;
      same_policy = tell.settings_and_policy_stay.1 ∙ so_far.same_policy;
      told_so_far = (
        before.0 ++ more.0,
        (
          took_both _ _ _ _ _ before.1.0 more.1.0,
          transport (λ i. TellsLines m n allowed policy t u k rest count (sym (next.line_is_counted ∙ next.next_number) i) (sym next.rest_is_left i) after (before.0 ++ more.0)) (one_more more.0 before.1.1 next.more_was_left told),
        ),
      );
    }

pub returns-clause-line_by_line_to_the_end : goal.returns-clause-line_by_line_to_the_end
returns-clause-line_by_line_to_the_end g c =
    let m = g.H.FileTree.meaning c.args.host.now in
    let n = g.G.FileTree.meaning c.args.resolver.now.host in
    let allowed = g.P.Policy.allowed c.args.policy.now in
    let policy = g.P.Policy.allowed c.args.resolver.now.policy in
    let t = tables c.args.settings.now in
    let u = tables c.args.resolver.now.settings in
    let at = c.loop-number.number-iterator in
    let told = c.loop-number.invariant.told_so_far in (
      told.0,
      (
        told.1.0,
        (
          lines_before at,
          (
            left_of at,
            (
              subst (λ (s : NumberedLines). TellsLines m n allowed policy t u (lines_before s) (left_of s) c.args.resolver.now.handed_out (lines_before at) (left_of at) c.loop-number.resolver.handed_out told.0) c.into_iter-number-iterator.ensures.into_iter_gives told.1.1,
              c.in-None.ensures.steps.nothing_is_left,
            ),
          ),
        ),
      ),
    )
