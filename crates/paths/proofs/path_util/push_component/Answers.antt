use Rattle.std.proofs.Common.{◌≡◌, ℕ, ◌<◌, length, take, MatchResult, sym, ap, ◌∙◌, subst}
use Rattle.paths.specs.declared.path_util.Component.TheVariants.{CurDir, ParentDir, Normal}
use Rattle.texts.specs.Held.{bytes_of}
use Rattle.texts.specs.Texts.{Text}
use Rattle.texts.specs.Parts.{marks}
use Rattle.paths.specs.Joins.{cut_length}
use Rattle.paths.proofs.Cuts.{cut_is, grown_is}
use Rattle.paths.proofs.path_util.push_component.Goals as goal

pub returns-in-CurDir : goal.returns-in-CurDir
returns-in-CurDir c = record { joined_or_too_long = sym (grown_is CurDir (bytes_of c.args.text.now) c.args.part.now c.in-CurDir.ensures.component_by_its_dots) }

pub returns-in-ParentDir : goal.returns-in-ParentDir
returns-in-ParentDir c =
    let a = bytes_of c.args.text.now in
    let stays = c.parent_len.ensures.length_after_the_cut ∙ ap (λ (t : Text). cut_length t (marks t)) c.as_bytes.ensures.bytes_of_the_text in
    record { joined_or_too_long = c.truncate.ensures.bytes_after ∙ ap (λ (n : ℕ). take n a) stays ∙ cut_is a ∙ sym (grown_is ParentDir a c.args.part.now c.in-ParentDir.ensures.component_by_its_dots) }

pub returns-in-Normal : goal.returns-in-Normal
returns-in-Normal c = record {
  joined_or_too_long =
      subst (λ (t : Text). MatchResult c.push_name.result (λ _. bytes_of c.push_name.new.text ≡ t) (λ _. 255 < length t))
      (sym (grown_is Normal (bytes_of c.args.text.now) c.args.part.now c.in-Normal.ensures.component_by_its_dots)) c.push_name.ensures.added_or_too_long;
}
