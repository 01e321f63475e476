use Rattle.std.proofs.Common.{◌≡◌, ℕ, ◌+◌, ◌<◌, true, ◌++◌, length, is_ok, if◌then◌else◌, MatchOption, None, Option, rules, sym, ap, subst, ◌∙◌, arith}
use Rattle.std.proofs.Math.Path.{transport}
use Rattle.texts.specs.declared.text.Text.{Text as Held}
use Rattle.texts.specs.Held.{bytes_of}
use Rattle.texts.specs.Parts.{text_at}
use Rattle.lookup.specs.declared.calls.Move.TheVariants.{Open}
use Rattle.lookup.specs.Areas.{OnlyIn, place_in}
use Rattle.lookup.specs.Marks.{marked_context}
use Rattle.lookup.specs.Opened.{first_unit}
use Rattle.lookup.specs.Turns.{Begins, labels_row, marked_row, marks_end}
use Rattle.lookup.proofs.RoundMoves.{both_begin}
use Rattle.lookup.proofs.calls.round.with_fragment_first.Goals as goal

pub returns : goal.returns
returns c =
    let w = c.args.work.now in
    let u = c.put-both.new.work in
    let a = c.args.asked in
    let f = c.args.fragment in
    let r = text_at w a.text in
    let x = c.put-both.result in
    let unit = c.first_unit.ensures.first_of_its_units in
    let only : OnlyIn (first_unit a.round + 2) w u = subst (λ (n : ℕ). OnlyIn (n + 2) w u) unit c.put-both.ensures.only_its_unit_is_written in
    let first : bytes_of c.unwrap-text.result ≡ r =
    subst (λ (o : Option (Held 255)). MatchOption o (255 < length c.of.result.now) (λ t. bytes_of t ≡ c.of.result.now)) c.unwrap-text.ensures c.new.ensures.same_bytes_or_too_many ∙ c.of.ensures.part_of_the_text in
    let ok : is_ok c.push_text.result ≡ true = search rules in
    let whole : c.as_bytes.result.now ≡ r ++ text_at w f =
    c.as_bytes.ensures.bytes_of_the_text
    ∙ c.push_text.ensures.bytes_after
    ∙ (λ k. if (ok k) then (first k ++ c.of-2.ensures.part_of_the_text k) else (first k)) in
    let there : x ≡ place_in (first_unit a.round + 2) (length (r ++ text_at w f)) = c.put-both.ensures.place_in_its_unit ∙ (λ k. place_in (unit k + 2) (length (whole k))) in
    let begins =
    both_begin a c.args.context c.requires.labelled c.requires.its_round c.new-2.result c.new-2.ensures.every_attempt_is_left f c.requires.no_query c.requires.its_fragment w u only x there
    (c.put-both.ensures.text_in_its_place ∙ whole) (omega (arith, ap length whole, c.as_bytes.ensures.at_most_n)) c.requires.low_path c.requires.low_directory in
    record {
      one_move_of_the_round =
          transport (λ k. Begins (marks_end w a c.args.context) w a c.args.context (Open (marked_row a f) ((sym c.labelled-first.ensures.call_at_its_labels) k)) u (sym c.with_fragment.ensures.fragment_alone_changes k))
          (transport (λ k. Begins (marks_end w a c.args.context) w a c.args.context (Open (marked_row a f) (labels_row (sym c.with_text.ensures.same_with_another_text k) c.new-2.result)) u (marked_context None c.args.context)) begins);
    }
