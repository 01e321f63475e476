use Rattle.std.proofs.Common.{refl}
use Rattle.texts.specs.Parts.{marks, parts, pieces}
use Rattle.paths.specs.Joins.{cut, grown, join, joins, normalize, peak, walked}
use Rattle.alias.specs.Attempts.{attempts}
use Rattle.alias.specs.Forms.{form, touches}
use Rattle.alias.specs.Rewrites.{rewritten}
use Rattle.alias.proofs.samples.worked_examples_hold.Goals as goal

pub returns : goal.returns
unfolding parts marks pieces cut grown walked peak join joins normalize form touches rewritten attempts
returns c = record {
  counts_the_examples = refl;
  each_example_holds = record {
    touched_so = (refl, (refl, (refl, (refl, (refl, (refl, (refl, (refl, (refl, (refl, (refl, (refl, (refl, (refl, (refl, (refl, tt))))))))))))))));
    tried_so = (refl, (refl, (refl, (refl, (refl, (refl, (refl, (refl, (refl, (refl, (refl, (refl, (refl, (refl, (refl, (refl, (refl, (refl, (refl, (refl, tt))))))))))))))))))));
  };
}
