use Rattle.std.proofs.Common.{sym, ap, subst, ◌∙◌}
use Rattle.std.specs.Option.{option_map}
use Rattle.settings.specs.Meant.{tables}
use Rattle.candidates.specs.declared.walk.Stage.{Stage}
use Rattle.candidates.specs.Answers.{said}
use Rattle.candidates.specs.Asked.{ahead, past_it}
use Rattle.candidates.specs.Left.{Stepped, left, stage_left}
use Rattle.candidates.proofs.Asking.{same_side, standing}
use Rattle.candidates.proofs.walk.Walk.step.Goals as goal

pub returns-in-Path-clause-asked_only_at_the_directory : goal.returns-in-Path-clause-asked_only_at_the_directory
returns-in-Path-clause-asked_only_at_the_directory g c =
    same_side g.H.FileTree.steps (g.H.FileTree.meaning c.args.host.now) c.args.sought.now.path.now c.args.self.stage c.step_path.result.1.stage c.args.host.now
    (c.step_path.ensures.same_side_of_the_directory ∙ ap ahead (sym c.in-Path.is))

pub returns-in-Directory-clause-next_or_moved : goal.returns-in-Directory-clause-next_or_moved
returns-in-Directory-clause-next_or_moved g c =
    let s = c.args.sought.now in
    let t = tables s.settings.now in
    let m = g.H.FileTree.meaning c.args.host.now in
    let next = c.step_directory.result in
    subst (λ (h : Stage). Stepped (stage_left t s.fully_specified s.path.now m h c.args.self.place) (option_map (said s.path.now c.args.out.now) next.0) (left t s.fully_specified s.path.now m next.1)) (sym c.in-Directory.is) (c.step_directory.ensures.next_or_moved t s.fully_specified c.args.out.now)

pub returns-in-Directory-clause-asked_only_at_the_directory : goal.returns-in-Directory-clause-asked_only_at_the_directory
returns-in-Directory-clause-asked_only_at_the_directory g c =
    past_it (ap ahead c.in-Directory.is) c.step_directory.ensures.past_the_directory c.step_directory.ensures.asked_once_for_kind_and_manifest

pub returns-in-Main-clause-asked_only_at_the_directory : goal.returns-in-Main-clause-asked_only_at_the_directory
returns-in-Main-clause-asked_only_at_the_directory g c =
    same_side g.H.FileTree.steps (g.H.FileTree.meaning c.args.host.now) c.args.sought.now.path.now c.args.self.stage c.step_main.result.1.stage c.args.host.now
    (c.step_main.ensures.past_the_directory ∙ sym (ap ahead c.in-Main.is))

pub returns-in-Done-clause-asked_only_at_the_directory : goal.returns-in-Done-clause-asked_only_at_the_directory
returns-in-Done-clause-asked_only_at_the_directory g c =
    standing g.H.FileTree.steps (g.H.FileTree.meaning c.args.host.now) c.args.sought.now.path.now c.args.self.stage c.args.host.now
