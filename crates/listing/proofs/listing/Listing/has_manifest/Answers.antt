use Rattle.std.proofs.Common.{◌∙◌, rules}
use borrow.Author.Tests.{tests}
use Rattle.std.proofs.lemmas.Iterator.{YieldsList-from_slice}
use Rattle.std.proofs.lemmas.Iterator.Search.{any_from_yields_List}
use Rattle.stack.specs.Held.{held}
use Rattle.listing.specs.Rows.{is_manifest}
use Rattle.listing.proofs.Searches.{manifest_among}
use Rattle.listing.proofs.listing.Listing.has_manifest.Goals as goal

pub returns : goal.returns
returns c =
    let ls = held c.args.self.now.lines in
    record {
      manifest_among_the_lines =
          any_from_yields_List (λ l. is_manifest l.kind) _ _ _ c.any.ensures.ran (YieldsList-from_slice ls cc) (λ x b q k. search (rules, tests))
          ∙ manifest_among ls;
    }
