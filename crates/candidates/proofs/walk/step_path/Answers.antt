use Rattle.std.proofs.Common.{sym, ap, ◌∙◌}
use Rattle.settings.specs.Meant.{tables}
use Rattle.candidates.specs.declared.walk.Stage.{Stage}
use Rattle.candidates.specs.Left.{stage_left}
use Rattle.candidates.proofs.Mains.{at_first, path_done, path_next}
use Rattle.candidates.proofs.walk.step_path.Goals as goal

pub returns-in-Some-clause-next_or_moved : goal.returns-in-Some-clause-next_or_moved
returns-in-Some-clause-next_or_moved c =
    let s = c.args.sought.now in
    λ m. path_next (tables s.settings.now) s.fully_specified s.path.now m c.args.form c.args.place _ (c.in-Some.ensures.candidate_at_the_place s.path.now)

pub returns-in-None-clause-next_or_moved : goal.returns-in-None-clause-next_or_moved
returns-in-None-clause-next_or_moved c =
    let s = c.args.sought.now in
    let t = tables s.settings.now in
    λ m.
    path_done t s.fully_specified s.path.now m c.args.form c.args.place (c.in-None.ensures.candidate_at_the_place s.path.now)
    ∙ ap (λ (g : Stage). stage_left t s.fully_specified s.path.now m g 0) (sym c.behind_path.ensures.directory_or_the_end)
    ∙ at_first t s.fully_specified s.path.now m _ _ c.begin.ensures.first_place_of_the_stage
