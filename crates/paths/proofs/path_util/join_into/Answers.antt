use Rattle.std.proofs.Common.{◌≡◌, cond, Some, None, sym, ap, ◌∙◌, rules}
use Rattle.std.specs.Option.{option_map}
use Rattle.std.specs.Result.{result_ok}
use Rattle.texts.specs.Held.{bytes_of}
use Rattle.texts.specs.Texts.{Text}
use Rattle.texts.specs.Parts.{parts, texts_of}
use Rattle.texts.specs.Walks.{left}
use Rattle.paths.specs.Joins.{walked_within}
use Rattle.paths.proofs.JoinLaws.{join_walk}
use Rattle.paths.proofs.Walking.{pushed, refused_is, walk_too_long}
use Rattle.paths.proofs.path_util.join_into.Goals as goal

pub returns-in_err-push_text : goal.returns-in_err-push_text
unfolding parts
returns-in_err-push_text c =
    let a = c.args.base.now in
    let none : result_ok c.from_residual.result ≡ None = search rules in
    let j = join_walk a c.args.more.now c.requires.relative in
    record {
      joined_text =
          ap (option_map (λ _. bytes_of c.push_text.new.self)) none
          ∙ sym (walk_too_long a (parts c.args.more.now) (refused_is (bytes_of c.args.text.now) a c.requires.no_bytes c.in_err-push_text.ensures.refused_only_without_room))
          ∙ (λ i. cond (sym j.1 i) (Some (sym j.0 i)) None);
    }

pub returns : goal.returns
unfolding parts
returns c =
    let a = c.args.base.now in
    let j = join_walk a c.args.more.now c.requires.relative in
    record {
      joined_text =
          c.push_components.ensures.parts_joined_one_by_one
          ∙ ap (λ (t : Text). walked_within t (texts_of (left c.new.result))) (c.in_ok-push_text.ensures.bytes_after ∙ ap (λ (t : Text). pushed t a) c.requires.no_bytes)
          ∙ (λ i. walked_within a (texts_of (c.new.ensures.all_parts_are_left i)))
          ∙ (λ i. cond (sym j.1 i) (Some (sym j.0 i)) None);
    }
