use Rattle.std.proofs.Common.{◌-◌, List, length, take, sym, ap, ◌∙◌, arith}
use Rattle.texts.specs.declared.place.Place.{Place}
use Rattle.paths.proofs.Cuts.{root_within, top_none, top_some}
use Rattle.paths.proofs.path_util.kept_len.Goals as goal

pub overflow_add-result : goal.overflow_add-result
overflow_add-result c =
    let over = c.pop.ensures.items_after ∙ ap (λ (xs : List Place). take (length xs - 1) xs) c.requires.parts_of_the_text in
    omega (arith, (top_some c.args.text.now _ over c.in-Some.place c.in-Some.ensures.top_item).1)

pub returns-in-Some : goal.returns-in-Some
returns-in-Some c =
    let over = c.pop.ensures.items_after ∙ ap (λ (xs : List Place). take (length xs - 1) xs) c.requires.parts_of_the_text in
    let top = top_some c.args.text.now _ over c.in-Some.place c.in-Some.ensures.top_item in
    record { length_after_the_cut = top.0; within_the_text = top.1 }

pub returns-in-None : goal.returns-in-None
returns-in-None c =
    let over = c.pop.ensures.items_after ∙ ap (λ (xs : List Place). take (length xs - 1) xs) c.requires.parts_of_the_text in
    record {
      length_after_the_cut = c.root_len.ensures.all_of_the_root_or_nothing ∙ sym (top_none c.args.text.now _ over c.in-None.ensures.top_item);
      within_the_text = omega (arith, c.root_len.ensures.all_of_the_root_or_nothing, root_within c.args.text.now);
    }
