use Rattle.std.proofs.Common.{◌∙◌, rules}
use borrow.Author.Tests.{tests}
use Rattle.std.specs.Str.{bytes_eq}
use Rattle.std.proofs.lemmas.Iterator.{YieldsList-from_slice}
use Rattle.std.proofs.lemmas.Iterator.Search.{all_from_yields_List}
use Rattle.texts.specs.Held.{bytes_of}
use Rattle.tree.specs.Acceptances.{unrestricted}
use Rattle.tree.proofs.Rows.{every_held}
use Rattle.tree.proofs.acceptance.passes_restrictions.Goals as goal

pub returns : goal.returns
unfolding unrestricted
returns c =
    let rows = c.args.restrictions.now in
    record {
      same_bytes_as_each_restriction =
          all_from_yields_List (λ r. bytes_eq c.args.path.now (bytes_of r)) _ _ _ c.all.ensures.ran (YieldsList-from_slice rows cc) (λ x b q k. search (rules, tests))
          ∙ every_held _ rows;
    }
