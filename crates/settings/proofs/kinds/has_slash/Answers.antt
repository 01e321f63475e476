use Rattle.std.proofs.Common.{◌∙◌}
use Rattle.settings.proofs.Tests.{has_any}
use Rattle.settings.proofs.kinds.has_slash.Goals as goal

pub returns : goal.returns
returns c = record { slash_in_the_name = c.contains.ensures.value ∙ has_any 47 c.args.name.now }
