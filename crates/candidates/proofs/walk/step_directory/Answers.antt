use Rattle.std.proofs.Common.{sym, ap, ◌∙◌}
use Rattle.candidates.specs.Asked.{directory, no_directory}
use Rattle.candidates.specs.Candidates.{is_directory}
use Rattle.candidates.proofs.Asking.{no_directory_there}
use Rattle.candidates.proofs.walk.step_directory.Goals as goal

pub returns-in-Nothing-clause-asked_once_for_kind_and_manifest : goal.returns-in-Nothing-clause-asked_once_for_kind_and_manifest
returns-in-Nothing-clause-asked_once_for_kind_and_manifest g c =
    no_directory (ap is_directory (sym c.kind.ensures.answer_by_the_meaning) ∙ no_directory_there c.kind.result c.in-Nothing.is) c.kind.ensures.steps_on

pub returns-in-Ok-None-clause-asked_once_for_kind_and_manifest : goal.returns-in-Ok-None-clause-asked_once_for_kind_and_manifest
returns-in-Ok-None-clause-asked_once_for_kind_and_manifest g c =
    directory (ap is_directory (sym c.kind.ensures.answer_by_the_meaning ∙ c.in-Directory.is)) c.kind.ensures.steps_on c.manifest.ensures.steps_on

pub returns-in-Ok-Some-clause-asked_once_for_kind_and_manifest : goal.returns-in-Ok-Some-clause-asked_once_for_kind_and_manifest
returns-in-Ok-Some-clause-asked_once_for_kind_and_manifest g c =
    directory (ap is_directory (sym c.kind.ensures.answer_by_the_meaning ∙ c.in-Directory.is)) c.kind.ensures.steps_on c.manifest.ensures.steps_on

pub returns-in-Err-clause-asked_once_for_kind_and_manifest : goal.returns-in-Err-clause-asked_once_for_kind_and_manifest
returns-in-Err-clause-asked_once_for_kind_and_manifest g c =
    directory (ap is_directory (sym c.kind.ensures.answer_by_the_meaning ∙ c.in-Directory.is)) c.kind.ensures.steps_on c.manifest.ensures.steps_on
