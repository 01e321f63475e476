use Rattle.std.proofs.Common.{sym, ap, ◌∙◌}
use Rattle.stack.specs.Items.{item_at}
use Rattle.settings.specs.Meant.{tables}
use Rattle.candidates.specs.declared.places.Form.{Form}
use Rattle.candidates.specs.Left.{form_candidates}
use Rattle.candidates.proofs.places.Sought.candidate.Goals as goal

pub returns-in-File-clause-candidate_at_the_place : goal.returns-in-File-clause-candidate_at_the_place
returns-in-File-clause-candidate_at_the_place c =
    let s = c.args.self.now in
    λ of. c.file_candidate.ensures.file_at_the_place of ∙ ap (λ (f : Form). item_at (form_candidates (tables s.settings.now) s.fully_specified f s.path.now) c.args.place) (sym c.in-File.is)

pub returns-in-Index-clause-candidate_at_the_place : goal.returns-in-Index-clause-candidate_at_the_place
returns-in-Index-clause-candidate_at_the_place c =
    let s = c.args.self.now in
    λ of. c.index_candidate.ensures.index_at_the_place of ∙ ap (λ (f : Form). item_at (form_candidates (tables s.settings.now) s.fully_specified f s.path.now) c.args.place) (sym c.in-Index.is)
