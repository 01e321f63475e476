use Rattle.std.proofs.Common.{sym, ◌∙◌, subst, MatchOption, ◌≡◌, [], rules}
use borrow.Author.Tests.{tests}
use Rattle.std.proofs.lemmas.Iterator.{YieldsList-from_slice}
use Rattle.std.proofs.lemmas.Iterator.Adapters.{position_from-zero}
use Rattle.std.proofs.lemmas.Iterator.Search.{position_from_yields_List}
use Rattle.stack.specs.Held.{held}
use Rattle.listing.specs.Entries.{rows}
use Rattle.listing.specs.Meanings.{DecidesAt, asked, deciding, fits, place}
use Rattle.listing.specs.Rows.{row}
use Rattle.listing.proofs.Searches.{decides_there, place_is}
use Rattle.listing.proofs.listing.Listing.deciding_line.Goals as goal

pub returns : goal.returns
returns c =
    let ls = held c.args.self.now.lines in
    let q = asked c.args.topic c.args.text.now in
    let found : c.position.result ≡ place q (rows c.args.self.now) =
    position_from_yields_List (λ l. fits q (row l)) _ _ _ c.position.ensures.ran (YieldsList-from_slice ls cc) (λ x b p k. search (rules, tests))
    ∙ position_from-zero (λ l. fits q (row l)) ls
    ∙ place_is q 0 ls in
    record {
      place_of_the_first_that_fits = found;
      rows_from_there_decide = subst (λ o. MatchOption o (deciding q (rows c.args.self.now) ≡ []) (DecidesAt q (rows c.args.self.now))) (sym found) (decides_there q (rows c.args.self.now));
    }
