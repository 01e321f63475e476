use Rattle.std.proofs.Common.{not, map, ap, ◌∙◌}
use Rattle.settings.specs.Rows.{alias_of}
use Rattle.explain.proofs.QuietSteps.{none_touches}
use Rattle.explain.proofs.quiet.is_untouched_by.Goals as goal

pub returns : goal.returns
returns c = record {
  untouched_by_definition = ap not c.any_touches.ensures.one_touches_by_its_form ∙ none_touches (map alias_of c.args.aliases.now) c.args.text.now;
}
