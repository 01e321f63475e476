use Rattle.std.proofs.Common.{◌≡◌, ℕ, ◌+◌, ◌-◌, length, ap, sym, subst, ◌∙◌, arith}
use Rattle.texts.specs.Texts.{Text}
use Rattle.lines.specs.Sheets.{line_of}
use Rattle.replay.specs.Lists.{IsEnd, behind_lines}
use Rattle.replay.proofs.Lines.{end_behind, no_line_end, none_left, one_line}
use Rattle.replay.proofs.split.behind_lines.Goals as goal

pub returns-then-line-left-clause-behind_so_many_line_ends :
    goal.returns-then-line-left-clause-behind_so_many_line_ends
returns-then-line-left-clause-behind_so_many_line_ends c =
    let all = sym (ap length c.first_line.ensures.up_to_the_line_end) ∙ c.if-line-left.true in
    sym (no_line_end (c.args.count - c.loop-taken._taken) _ (omega arith) all) ∙ c.loop-taken.invariant.behind

pub loop-taken-preserved : goal.loop-taken-preserved
loop-taken-preserved c =
    let rest = sym c.first_line.ensures.rest_behind_the_line_end in
    let left = c.loop-taken.left.now in
    let ends : length (line_of left) ≡ length left → ⊥ = λ e. c.if-line-left.false (ap length c.first_line.ensures.up_to_the_line_end ∙ e) in
    let fewer : (c.args.count - c.loop-taken._taken) - 1 ≡ c.args.count - (c.loop-taken._taken + 1) = omega arith in
    record {
      behind =
          ap (λ (n : ℕ). behind_lines n c.first_line.result.1.now) (sym fewer)
          ∙ ap (behind_lines (c.args.count - c.loop-taken._taken - 1)) (sym rest)
          ∙ sym (one_line (c.args.count - c.loop-taken._taken) left (omega arith) ends)
          ∙ c.loop-taken.invariant.behind;
      end = subst (λ (r : Text). IsEnd r c.args.text.now) rest (end_behind _ _ c.loop-taken.invariant.end ends);
    }

pub returns-clause-behind_so_many_line_ends : goal.returns-clause-behind_so_many_line_ends
returns-clause-behind_so_many_line_ends c =
    let none : c.args.count - c.loop-taken._taken ≡ 0 = omega arith in
    sym (ap (λ (n : ℕ). behind_lines n c.loop-taken.left.now) none ∙ none_left c.loop-taken.left.now) ∙ c.loop-taken.invariant.behind
