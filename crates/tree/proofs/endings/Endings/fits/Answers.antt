use Rattle.std.proofs.Common.{◌∙◌, rules}
use borrow.Author.Tests.{tests}
use Rattle.stack.specs.Held.{held}
use Rattle.std.proofs.lemmas.Iterator.{YieldsList-from_slice}
use Rattle.std.proofs.lemmas.Iterator.Search.{any_from_yields_List}
use Rattle.texts.specs.Held.{bytes_of}
use Rattle.tree.specs.Acceptances.{ends_in}
use Rattle.tree.proofs.Rows.{ends_in_one_held}
use Rattle.tree.proofs.endings.Endings.fits.Goals as goal

pub returns : goal.returns
returns c =
    let rows = held c.args.self.now.texts in
    record {
      path_ends_in_one_of_them =
          any_from_yields_List (λ r. ends_in (bytes_of r) c.args.path.now) _ _ _ c.any.ensures.ran (YieldsList-from_slice rows cc) (λ x b q k. search (rules, tests))
          ∙ ends_in_one_held c.args.path.now rows;
    }
