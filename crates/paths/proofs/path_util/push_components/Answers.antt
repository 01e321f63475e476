use Rattle.std.proofs.Common.{◌≡◌, List, length, Some, None, refl, sym, ap, ◌∙◌, arith, rules}
use Rattle.std.specs.Option.{option_map}
use Rattle.std.specs.Result.{result_ok}
use Rattle.texts.specs.Held.{bytes_of}
use Rattle.texts.specs.Texts.{Text}
use Rattle.texts.specs.Parts.{Mark, text_at, texts_of}
use Rattle.texts.specs.declared.components.Components.{Components}
use Rattle.texts.specs.Walks.{first_text, left, subject}
use Rattle.paths.specs.Joins.{walked_within}
use Rattle.texts.proofs.Buffers.{text_within}
use Rattle.texts.proofs.PartLoops.{none_left}
use Rattle.paths.proofs.Walking.{walk_done, walk_on, walk_stops}
use Rattle.paths.proofs.path_util.push_components.Goals as goal

pub loop-place-init : goal.loop-place-init
loop-place-init c = (ap subject c.into_iter-place-iterator.ensures.into_iter_gives ∙ c.requires.of_the_source, refl)

pub loop-place-preserved : goal.loop-place-preserved
loop-place-preserved c =
    let rest = c.loop-place.place-iterator in
    let text = c.loop-place.text in
    let i = c.loop-place.invariant in
    let given = c.in-Some.ensures.steps in
    let first : Some c.of.result.now ≡ first_text (left rest) =
    ap Some (c.of.ensures.part_of_the_text ∙ ap (λ (t : Text). text_at t c.in-Some.place) (sym i.0)) ∙ given.part_stands_there in
    let grows = c.in_ok-push_component.ensures.joined_or_too_long in (
      c.next.ensures.steps.same_text ∙ i.0,
      (λ k. walked_within (grows k) (texts_of (c.next.ensures.steps.others_are_left k)))
          ∙ walk_on (bytes_of text) (left rest) c.of.result.now (text_within text) first (omega (arith, ap length grows, text_within c.push_component.new.text))
          ∙ i.1,
    )

pub returns-in_err-push_component : goal.returns-in_err-push_component
returns-in_err-push_component c =
    let rest = c.loop-place.place-iterator in
    let text = c.loop-place.text in
    let i = c.loop-place.invariant in
    let none : result_ok c.from_residual.result ≡ None = search rules in
    let first : Some c.of.result.now ≡ first_text (left rest) =
    ap Some (c.of.ensures.part_of_the_text ∙ ap (λ (t : Text). text_at t c.in-Some.place) (sym i.0)) ∙ c.in-Some.ensures.steps.part_stands_there in
    record {
      parts_joined_one_by_one =
          ap (option_map (λ _. bytes_of c.push_component.new.text)) none
          ∙ walk_stops (bytes_of text) (left rest) c.of.result.now (text_within text) first c.in_err-push_component.ensures.joined_or_too_long
          ∙ i.1
          ∙ ap (λ (it : Components). walked_within (bytes_of c.args.text.now) (texts_of (left it))) c.into_iter-place-iterator.ensures.into_iter_gives;
    }

pub returns : goal.returns
returns c = record {
  parts_joined_one_by_one =
      sym (walk_done (bytes_of c.loop-place.text) (text_within c.loop-place.text))
      ∙ ap (λ (ms : List Mark). walked_within (bytes_of c.loop-place.text) (texts_of ms)) (sym (none_left (left c.loop-place.place-iterator) c.in-None.ensures.steps.place_of_the_next_part))
      ∙ c.loop-place.invariant.1
      ∙ ap (λ (it : Components). walked_within (bytes_of c.args.text.now) (texts_of (left it))) c.into_iter-place-iterator.ensures.into_iter_gives;
}
