use Rattle.std.proofs.Common.{refl}
use Rattle.texts.specs.Parts.{marks, parts, pieces}
use Rattle.paths.specs.Joins.{cut, grown, join, joins, peak, walked}
use Rattle.candidates.specs.Candidates.{candidates}
use Rattle.candidates.proofs.samples.worked_examples_hold.Goals as goal

pub returns : goal.returns
unfolding parts marks pieces cut grown walked peak join joins candidates
returns c = record {
  counts_the_examples = refl;
  each_example_holds = (refl, (refl, (refl, (refl, (refl, (refl, (refl, (refl, (refl, (refl, (refl, tt)))))))))));
}
