use Rattle.std.proofs.Common.{refl}
use Rattle.specifier.specs.Branches.{branch}
use Rattle.specifier.specs.Requests.{fragment_at, query_at, path_of, specifier_of}
use Rattle.specifier.proofs.samples.worked_examples_hold.Goals as goal
use Rattle.paths.specs.Joins.{cut, grown, join, joins, normalize, peak, walked}
use Rattle.texts.specs.Parts.{parts, marks, pieces}

pub returns : goal.returns
unfolding branch parts marks pieces fragment_at query_at path_of specifier_of cut grown walked peak join joins normalize
returns c = record {
  counts_the_examples = refl;
  each_example_holds = record {
    read = (refl, (refl, (refl, (refl, (refl, (refl, (refl, (refl, (refl, (refl, (refl, (refl, tt))))))))))));
    gone = (refl, (refl, (refl, (refl, (refl, (refl, (refl, (refl, tt))))))));
    joined_so = (refl, (refl, (refl, (refl, (refl, (refl, (refl, (refl, tt))))))));
    normal_so = (refl, (refl, (refl, (refl, tt))));
  };
}
