use Rattle.std.proofs.Common.{eqb, sym, ap, ◌∙◌, rules}
use Rattle.std.proofs.lemmas.Iterator.Search.{all_from_yields_List}
use Rattle.std.proofs.lemmas.Iterator.Splits.{YieldsList-from_slice_split}
use Rattle.texts.specs.Texts.{SLASH}
use Rattle.texts.specs.Parts.{every, named}
use Rattle.texts.proofs.PartLoops.{pieces_between}
use Rattle.texts.proofs.path.names_only.Goals as goal

pub returns : goal.returns
returns c = record {
  every_piece_is_a_name =
      all_from_yields_List named _ _ _ c.all.ensures.ran
      (YieldsList-from_slice_split _ (λ b. eqb b SLASH) c.args.text.now c.split.ensures.rest c.split.ensures.done c.split.ensures.closure (λ x b q k. search rules))
      (λ x b q k. search rules)
      ∙ ap (every named) (sym (pieces_between c.args.text.now));
}
