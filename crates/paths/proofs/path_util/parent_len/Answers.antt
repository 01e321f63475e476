use Rattle.std.proofs.Common.{◌+◌, ◌≤◌, List, ◌++◌, length, ap, ◌∙◌, arith}
use Rattle.std.proofs.lemmas.List.{length-map}
use Rattle.std.proofs.lemmas.Bool.{cond-true, le-leb}
use Rattle.stack.specs.Items.{capacity, items}
use Rattle.texts.specs.declared.place.Place.{Place}
use Rattle.texts.specs.Parts.{Mark, marks, parts, places}
use Rattle.texts.proofs.Weights.{parts_weight}
use Rattle.paths.proofs.path_util.parent_len.Goals as goal

pub kept_len-requires : goal.kept_len-requires
unfolding parts
kept_len-requires c =
    let t = c.args.text.now in
    let room : length (items c.new-parts.result) + length (parts t) ≤ capacity c.new-parts.result =
    omega (arith, ap length c.new-parts.ensures.no_items, c.new-parts.ensures.capacity_is_the_slots, (parts_weight t).1, length-map (marks t) (λ (m : Mark). m.0)) in
    record {
      parts_of_the_text =
          c.push_parts.ensures.places_on_top
          ∙ cond-true _ _ _ (c.push_parts.ensures.room_for_all ∙ le-leb _ _ room)
          ∙ ap (λ (xs : List Place). xs ++ places t) c.new-parts.ensures.no_items;
    }
