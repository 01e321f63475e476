use Rattle.std.proofs.Common.{◌≡◌, List, not, length, take, drop, ◌-◌, sym, ap, ◌∙◌, rules}
use borrow.Author.Tests.{tests}
use Rattle.std.proofs.lemmas.List.{drop-map, length-map, take_rest}
use Rattle.std.proofs.lemmas.Iterator.{YieldsList-from_slice}
use Rattle.std.proofs.lemmas.Iterator.Consumers.{YieldsList-from_filter, count_from_yields_List}
use Rattle.std.proofs.lemmas.Iterator.Search.{YieldsList-from_take_while}
use Rattle.stack.specs.Held.{held}
use Rattle.texts.specs.Held.{bytes_of}
use Rattle.listing.specs.Meanings.{mains_behind}
use Rattle.listing.specs.Rows.{Row, is_main, is_manifest, row}
use Rattle.listing.proofs.Searches.{main_lines, mains_are}
use Rattle.listing.proofs.listing.Listing.count_mains.Goals as goal

pub returns : goal.returns
returns c =
    let ls = drop c.args.start (held c.args.self.now.lines) in
    let all = c.as_slice.result.now in
    let sliced : c.iter.result.rest.now ≡ take (length all - c.args.start) (drop c.args.start all) = search rules in
    let from : c.iter.result.rest.now ≡ ls = sliced ∙ take_rest all c.args.start ∙ ap (drop c.args.start) c.as_slice.ensures.items_in_their_order in
    record {
      counts_the_main_texts_from_there =
          count_from_yields_List c.filter.result _ c.count.ensures.ran
          (YieldsList-from_filter _ (λ l. is_main l.kind)
          (YieldsList-from_take_while _ (λ l. not (is_manifest l.kind)) (YieldsList-from_slice ls (ap (λ f. f.iter.rest.now) c.filter.ensures.source ∙ ap (λ t. t.rest.now) c.take_while.ensures.source ∙ from)) (ap (λ f. f.p) c.filter.ensures.source ∙ c.take_while.ensures.closure) (ap (λ f. f.done) c.filter.ensures.source ∙ c.take_while.ensures.done) (λ x b q k. search (rules, tests)))
          c.filter.ensures.closure (λ x b q k. search (rules, tests)))
          ∙ sym (length-map (main_lines ls) (λ l. bytes_of l.first))
          ∙ ap length (mains_are ls)
          ∙ ap (λ (rs : List Row). length (mains_behind rs)) (sym (drop-map row c.args.start (held c.args.self.now.lines)));
    }
