use Rattle.std.proofs.Common.{◌≡◌, ◌<◌, length, replicate, sym, ap, ◌∙◌, subst, MatchOption}
use Rattle.texts.specs.Held.{bytes_of}
use Rattle.texts.specs.Texts.{Text}
use Rattle.specifier.specs.Sought.{sought_path}
use Rattle.explain.specs.Readings.{within}
use Rattle.explain.proofs.Bounds.{held_text, taken_out, within_some}
use Rattle.explain.proofs.reading.sought.Goals as goal

pub returns : goal.returns
returns c =
    let made = sought_path c.args.question.directory.now c.args.question.request.now in
    let out = taken_out made (replicate 255 0) c.write_sought_path.new.out c.in_ok-len.len c.in_ok-len.ensures.length_of_the_path c.write_sought_path.ensures.path_in_front in
    record {
      sought_path_if_short =
          held_text c.new.result out.0 (subst (λ (s : Text). MatchOption c.new.result (255 < length s) (λ t. bytes_of t ≡ s)) out.2 c.new.ensures.same_bytes_or_too_many) out.3
          ∙ sym (ap within out.1 ∙ within_some out.0 out.3);
    }
