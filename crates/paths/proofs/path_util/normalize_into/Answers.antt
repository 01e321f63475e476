use Rattle.std.proofs.Common.{◌≡◌, ◌<◌, length, sym, ap, ◌∙◌, arith}
use Rattle.texts.specs.Held.{bytes_of}
use Rattle.texts.specs.Texts.{Text}
use Rattle.texts.specs.Parts.{root, texts_of}
use Rattle.texts.specs.Walks.{but_first}
use Rattle.paths.specs.Joins.{walked_within}
use Rattle.paths.proofs.JoinLaws.{normal_rooted, normal_unrooted}
use Rattle.paths.proofs.Walking.{pushed, refused_is}
use Rattle.paths.proofs.path_util.normalize_into.Goals as goal

pub returns-in_err-push_text : goal.returns-in_err-push_text
returns-in_err-push_text c =
    let long : 255 < length root = refused_is (bytes_of c.args.normal.now) root c.requires.no_bytes c.in_err-push_text.ensures.refused_only_without_room in
    absurd (omega arith)

pub returns-in_ok-push_text : goal.returns-in_ok-push_text
returns-in_ok-push_text c = record {
  normal_text =
      c.push_components.ensures.parts_joined_one_by_one
      ∙ (λ i. walked_within ((c.in_ok-push_text.ensures.bytes_after ∙ ap (λ (t : Text). pushed t root) c.requires.no_bytes) i) (texts_of ((c.next.ensures.steps.others_are_left ∙ ap but_first c.new-parts.ensures.all_parts_are_left) i)))
      ∙ normal_rooted c.args.text.now (omega arith) (sym c.if-begins_with_slash.ensures.slash_in_front);
}

pub returns-else-begins_with_slash : goal.returns-else-begins_with_slash
returns-else-begins_with_slash c = record {
  normal_text =
      c.push_components-else-begins_with_slash.ensures.parts_joined_one_by_one
      ∙ (λ i. walked_within (c.requires.no_bytes i) (texts_of (c.new-parts.ensures.all_parts_are_left i)))
      ∙ normal_unrooted c.args.text.now (omega arith) (sym c.if-begins_with_slash.ensures.slash_in_front);
}
