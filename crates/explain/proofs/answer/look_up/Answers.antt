use Rattle.std.proofs.Common.{replicate, Ok, sym, refl, ap, ◌∙◌}
use Rattle.texts.specs.Parts.{parts}
use Rattle.tree.specs.Meanings.{found}
use Rattle.tree.proofs.Findings.{found_there, lost_there}
use Rattle.explain.specs.Answers.{found_by}
use Rattle.explain.proofs.answer.look_up.Goals as goal

pub returns-in-Some : goal.returns-in-Some
returns-in-Some g c = record {
  answer_by_the_meaning = ap found_by (ap found c.in-Some.ensures.same_bytes_or_too_many ∙ sym (found_there _ (replicate 255 0) c.lookup.new.out c.in-Ok-Some.len refl (ap Ok (sym c.in-Ok-Some.field-0-is) ∙ c.in-Ok-Some.ensures.answer_by_the_meaning) c.in-Ok-Some.ensures.path_in_front));
  same_meaning = c.lookup.ensures.same_meaning;
  still_sound = c.lookup.ensures.still_sound;
}

pub returns-in-Ok-None : goal.returns-in-Ok-None
returns-in-Ok-None g c = record {
  answer_by_the_meaning = ap found_by (sym (lost_there _ ((g.met.H.FileTree.proper c.args.host.now c.requires.sound).found_well c.args.way c.args.request.now (parts c.args.directory.now)) (ap Ok (sym c.in-Ok-None.field-0-is) ∙ c.in-Ok-None.ensures.answer_by_the_meaning)));
  same_meaning = c.lookup.ensures.same_meaning;
  still_sound = c.lookup.ensures.still_sound;
}
