use Rattle.std.proofs.Common.{◌∙◌}
use Rattle.cache.specs.Held.{held}
use Rattle.texts.specs.Parts.{parts}
use Rattle.cache.proofs.Agreement.{holds_placed}
use Rattle.cache.proofs.recent.Recent.holds.Goals as goal

pub returns : goal.returns
returns c = record {
  by_its_parts = c.is_some.ensures ∙ holds_placed (parts c.args.path.now) (held c.args.self.now) c.place.result c.place.ensures.place_if_held;
}
