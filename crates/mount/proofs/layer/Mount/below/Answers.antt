use Rattle.std.proofs.Common.{◌≡◌, true, ◌<◌, length, Some, sym, ap, ◌∙◌, inl, inr, ⊎_elim, subst, arith}
use Rattle.std.specs.Str.{bytes_eq}
use Rattle.texts.specs.Parts.{marks, parts, text_at, texts_of}
use Rattle.texts.specs.Texts.{Text}
use Rattle.texts.specs.Walks.{begun, left, subject}
use Rattle.mount.specs.Mounts.{stripped}
use Rattle.mount.specs.Placed.{mountable_marks}
use Rattle.mount.proofs.Routes.{none_first, rest_short, strip_differs, strip_done, strip_goes_on, strip_short}
use Rattle.mount.proofs.layer.Mount.below.Goals as goal

pub loop-part-init : goal.loop-part-init
unfolding parts
loop-part-init g c = (
  c.new-wanted.ensures.of_the_text,
  c.new-found.ensures.of_the_text,
  (λ i. stripped (texts_of (c.new-wanted.ensures.all_parts_are_left i)) (texts_of (c.new-found.ensures.all_parts_are_left i))),
  inr c.new-wanted.ensures.all_parts_are_left,
)

pub returns-in_err-other : goal.returns-in_err-other
returns-in_err-other g c =
    let mount = ap (λ (t : Text). stripped (parts t) (parts c.args.path.now)) c.as_bytes-mount.ensures.bytes_of_the_text in
    record { rest_below_the_mount = rw c.from_residual.ensures (sym (c.loop-part.invariant.2 ∙ mount) ∙ strip_short (left c.loop-part.wanted) (left c.loop-part.found) _ c.in-Some.ensures.steps.part_stands_there c.in_err-other.ensures.steps.place_of_the_next_part) }

pub returns-then-not-same_bytes : goal.returns-then-not-same_bytes
returns-then-not-same_bytes g c =
    let mount = ap (λ (t : Text). stripped (parts t) (parts c.args.path.now)) c.as_bytes-mount.ensures.bytes_of_the_text in
    record {
      rest_below_the_mount =
          sym (c.loop-part.invariant.2 ∙ mount)
          ∙ strip_differs (left c.loop-part.wanted) (left c.loop-part.found) _ _
          c.in-Some.ensures.steps.part_stands_there c.in_ok-other.ensures.steps.part_stands_there c.same_bytes.result
          (c.same_bytes.ensures.byte_for_byte
          ∙ (λ i. bytes_eq ((c.of.ensures.part_of_the_text ∙ ap (λ (t : Text). text_at t c.in-Some.part) (sym c.loop-part.invariant.0)) i) ((c.of-in-Some.ensures.part_of_the_text ∙ ap (λ (t : Text). text_at t c.in_ok-other.other) (sym c.loop-part.invariant.1)) i)))
          c.if-not-same_bytes.true;
    }

pub loop-part-preserved : goal.loop-part-preserved
loop-part-preserved g c = (
  c.next.ensures.steps.same_text ∙ c.loop-part.invariant.0,
  c.next-in-Some.ensures.steps.same_text ∙ c.loop-part.invariant.1,
  (λ i. stripped (texts_of (c.next.ensures.steps.others_are_left i)) (texts_of (c.next-in-Some.ensures.steps.others_are_left i)))
      ∙ sym (strip_goes_on (left c.loop-part.wanted) (left c.loop-part.found) _ _
      c.in-Some.ensures.steps.part_stands_there c.in_ok-other.ensures.steps.part_stands_there c.same_bytes.result
      (c.same_bytes.ensures.byte_for_byte
      ∙ (λ i. bytes_eq ((c.of.ensures.part_of_the_text ∙ ap (λ (t : Text). text_at t c.in-Some.part) (sym c.loop-part.invariant.0)) i) ((c.of-in-Some.ensures.part_of_the_text ∙ ap (λ (t : Text). text_at t c.in_ok-other.other) (sym c.loop-part.invariant.1)) i)))
      c.if-not-same_bytes.false)
      ∙ c.loop-part.invariant.2,
  inl c.in_ok-other.ensures.steps.scan_has_begun,
)

pub returns : goal.returns
returns g c =
    let done = c.in_default.ensures.steps.place_of_the_next_part in
    let mount = c.as_bytes-mount.ensures.bytes_of_the_text in
    let some : 0 < length (marks c.as_bytes-mount.result.now) = subst (λ (t : Text). 0 < length (marks t)) (sym mount) (mountable_marks _ c.args.self.now.placed) in
    let started : begun c.loop-part.found ≡ true =
    ⊎_elim (λ e. e) (λ e. absurd (omega (arith, none_first (left c.loop-part.wanted) done, ap length e))) c.loop-part.invariant.3 in
    record {
      rest_below_the_mount = (
        sym (c.loop-part.invariant.2 ∙ ap (λ (t : Text). stripped (parts t) (parts c.args.path.now)) mount)
            ∙ strip_done (left c.loop-part.wanted) (texts_of (left c.loop-part.found)) done
            ∙ ap Some (sym (c.rest.ensures.parts_left_below_the_root started)),
        omega (
          arith,
          ap length c.rest.ensures.text_behind_the_part,
          rest_short (subject c.loop-part.found) c.loop-part.found.at,
          ap length c.loop-part.invariant.1,
        ),
      );
    }
