use Rattle.std.proofs.Common.{ap, ◌∙◌}
use Rattle.texts.specs.Parts.{same_parts, texts_of, parts}
use Rattle.texts.specs.Walks.{left, subject}
use Rattle.texts.proofs.path.same_path.Goals as goal

pub loop-part-init : goal.loop-part-init
unfolding parts
loop-part-init c = (
  ap subject c.into_iter-part-iterator.ensures.into_iter_gives ∙ c.new-part-items.ensures.of_the_text,
  c.new-right.ensures.of_the_text,
  λ i. same_parts (texts_of ((ap left c.into_iter-part-iterator.ensures.into_iter_gives ∙ c.new-part-items.ensures.all_parts_are_left) i)) (texts_of (c.new-right.ensures.all_parts_are_left i)),
)
