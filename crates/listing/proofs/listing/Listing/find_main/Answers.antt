use Rattle.std.proofs.Common.{◌≡◌, List, not, map, length, take, drop, ◌-◌, sym, ap, ◌∙◌, rules}
use borrow.Author.Tests.{tests}
use Rattle.std.specs.List.{slice_get}
use Rattle.std.specs.Option.{option_map}
use Rattle.std.proofs.lemmas.List.{drop-map, take_rest}
use Rattle.std.proofs.lemmas.Option.{slice_get-map}
use Rattle.std.proofs.lemmas.Iterator.{YieldsList-from_slice}
use Rattle.std.proofs.lemmas.Iterator.Consumers.{YieldsList-from_filter, nth_from_yields_List}
use Rattle.std.proofs.lemmas.Iterator.Search.{YieldsList-from_take_while}
use Rattle.stack.specs.Held.{held}
use Rattle.stack.specs.Items.{item_at}
use Rattle.texts.specs.Held.{bytes_of}
use Rattle.texts.specs.Texts.{Text}
use Rattle.listing.specs.declared.line.Line.{Line}
use Rattle.listing.specs.Meanings.{mains_behind}
use Rattle.listing.specs.Rows.{is_main, is_manifest, row}
use Rattle.listing.proofs.Searches.{item_is, main_lines, mains_are}
use Rattle.listing.proofs.listing.Listing.find_main.Goals as goal

pub returns : goal.returns
returns c =
    let i = c.args.place in
    let ls = drop c.args.start (held c.args.self.now.lines) in
    let all = c.as_slice.result.now in
    let sliced : c.iter.result.rest.now ≡ take (length all - c.args.start) (drop c.args.start all) = search rules in
    let from : c.iter.result.rest.now ≡ ls = sliced ∙ take_rest all c.args.start ∙ ap (drop c.args.start) c.as_slice.ensures.items_in_their_order in
    let line : option_map (λ l. l.now) c.nth.result ≡ slice_get (main_lines ls) i =
    nth_from_yields_List c.nth.result _ i c.nth.ensures.ran
    (YieldsList-from_filter _ (λ l. is_main l.kind)
    (YieldsList-from_take_while _ (λ l. not (is_manifest l.kind)) (YieldsList-from_slice ls (ap (λ f. f.iter.rest.now) c.filter.ensures.source ∙ ap (λ t. t.rest.now) c.take_while.ensures.source ∙ from)) (ap (λ f. f.p) c.filter.ensures.source ∙ c.take_while.ensures.closure) (ap (λ f. f.done) c.filter.ensures.source ∙ c.take_while.ensures.done) (λ x b q k. search (rules, tests)))
    c.filter.ensures.closure (λ x b q k. search (rules, tests))) in
    let text : option_map (λ x. x.now) c.map.result ≡ option_map (λ (l : Line). bytes_of l.first) (option_map (λ l. l.now) c.nth.result) = search rules in
    record {
      main_text_at_the_place =
          text
          ∙ ap (option_map (λ (l : Line). bytes_of l.first)) line
          ∙ sym (slice_get-map (λ l. bytes_of l.first) (main_lines ls) i)
          ∙ item_is (map (λ l. bytes_of l.first) (main_lines ls)) i
          ∙ ap (λ (ts : List Text). item_at ts i) (mains_are ls ∙ ap mains_behind (sym (drop-map row c.args.start (held c.args.self.now.lines))));
    }
