use Rattle.std.proofs.Common.{refl, arith}
use Rattle.texts.specs.Texts.{Text}
use Rattle.texts.specs.Parts.{clean, marks, parts, pieces}
use Rattle.paths.specs.Joins.{cut, grown, join, joins, normalize, peak, walked}
use Rattle.specifier.specs.Branches.{branch}
use Rattle.specifier.specs.Requests.{fragment_at, fragment_of, path_of, query_at, query_of}
use Rattle.tree.specs.declared.answers.Way.{Way}
use Rattle.tree.specs.declared.answers.Way.TheVariants.{Package, Hash}
use Rattle.tree.specs.Acceptances.{acceptable, unrestricted}
use Rattle.tree.specs.Meanings.{FoundWell, Path}
use Rattle.alias.specs.Attempts.{attempts}
use Rattle.alias.specs.Forms.{form, touches}
use Rattle.alias.specs.Rewrites.{rewritten}
use Rattle.candidates.specs.Candidates.{candidates}
use Rattle.lookup.specs.Lookups.{find, require, round}
use Rattle.lookup.specs.Outcomes.{lookup}
use Rattle.lookup.specs.Samples.{finds}
use Rattle.lookup.proofs.samples.worked_lookups_hold.Goals as goal

finds_well : (w : Way) (r : Text) (dir : Path) → FoundWell (finds w)
finds_well Package r dir = (refl, omega arith)
finds_well Hash r dir = (refl, omega arith)

pub returns : goal.returns
unfolding clean parts marks pieces cut grown walked peak join joins normalize branch fragment_at query_at path_of query_of fragment_of acceptable unrestricted form touches rewritten attempts candidates find round require lookup
returns c = record {
  counts_the_lookups = refl;
  each_lookup_holds = (refl, (refl, (refl, (refl, (refl, (refl, (refl, (refl, (refl, (refl, (refl, (refl, (refl, (refl, (refl, (refl, (refl, (refl, (refl, (refl, (refl, (refl, (refl, (refl, (refl, (refl, (refl, (refl, (refl, (refl, (refl, (refl, (refl, (refl, (refl, (refl, (refl, tt)))))))))))))))))))))))))))))))))))));
  each_call_leaves_its_bytes = (refl, (refl, (refl, (refl, (refl, (refl, (refl, (refl, (refl, (refl, (refl, (refl, (refl, tt)))))))))))));
  each_call_leaves_its_memory = (refl, (refl, (refl, (refl, (refl, tt)))));
  some_request_is_quiet = record {
    proper = record { nowhere = refl; few_mains = λ p. omega arith; short_mains = λ p. tt; found_well = finds_well };
    limits = record {
      few_aliases = omega arith;
      aliases = refl;
      few_extensions = omega arith;
      extensions = refl;
      few_main_files = omega arith;
      main_files = refl;
      few_restrictions = omega arith;
      restrictions = refl;
    };
    out_of_context = refl;
    accepted = refl;
    quiet = record { without_marks = refl; is_relative = refl; without_labels = refl; candidates_without_labels = refl; manifest_readable = refl };
  };
}
