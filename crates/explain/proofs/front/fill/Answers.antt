use Rattle.std.proofs.Common.{◌≡◌, ◌++◌, ℕ, length, map, sym, ap, ◌∙◌, arith}
use Rattle.texts.specs.Texts.{Text}
use Rattle.lines.specs.Sheets.{line_of}
use Rattle.listing.specs.Entries.{rows}
use Rattle.settings.specs.Meant.{tables}
use Rattle.sheets.specs.Entries.{rows_with, tables_with}
use Rattle.explain.specs.declared.numbered.NumberedLines.{NumberedLines}
use Rattle.explain.specs.FrontLine.{front_cause}
use Rattle.explain.specs.Filling.{Front, after_line, filled, noted, noting}
use Rattle.explain.specs.SheetLines.{left_of, lines_before, next_line}
use Rattle.explain.proofs.FillingSteps.{stops_here, takes_a_line}
use Rattle.explain.proofs.front.fill.Goals as goal

pub loop-number-preserved : goal.loop-number-preserved
loop-number-preserved c =
    let rs = rows c.loop-number.listing in
    let t = tables c.loop-number.settings in
    let lines = c.loop-number.lines in
    let s : Front = record { rows = rs; tables = t; lines = lines_before lines; refused = map noted c.loop-number.refused.items; rest = left_of lines } in
    let inv = c.loop-number.invariant in
    let front = c.in-Some.ensures.next_line_or_none_in_front in
    let given = front.next in
    let step = takes_a_line inv.0 s given.more_was_left front.does_not_ask inv.1 in
    let said =
    c.in_ok-note.ensures.noted_behind_the_others (front_cause rs t c.in-Some.line.now) c.take-taken.ensures.taken_or_refused
    ∙ ap (λ (n : ℕ). s.refused ++ noting (front_cause rs t c.in-Some.line.now) n c.in-Some.line.now) given.next_number
    ∙ ap (λ (l : Text). s.refused ++ noting (front_cause rs t l) (next_line s.lines) l) given.up_to_the_line_end in
    let then : ◌≡◌ {A = Front} (record { rows = rows c.take-taken.new.listing; tables = tables c.take-taken.new.settings; lines = lines_before c.next_in_front.new.lines; refused = map noted c.note.new.refused.items; rest = left_of c.next_in_front.new.lines }) (after_line s (line_of s.rest)) =
    λ i. record {
      rows = (c.take-taken.ensures.rows_then ∙ ap (rows_with rs) given.up_to_the_line_end) i;
      tables = (c.take-taken.ensures.tables_then ∙ ap (tables_with t) given.up_to_the_line_end) i;
      lines = (given.line_is_counted ∙ given.next_number) i;
      refused = said i;
      rest = given.rest_is_left i;
    } in
    (step.0, omega (arith, step.1, ap length given.rest_is_left), ap (filled step.0) then ∙ sym step.2 ∙ inv.2)

pub returns : goal.returns
returns c =
    let rs = rows c.loop-number.listing in
    let t = tables c.loop-number.settings in
    let refused = map noted c.loop-number.refused.items in
    let inv = c.loop-number.invariant in
    let ended = c.in_default.ensures.next_line_or_none_in_front in
    record {
      line_after_line_up_to_the_first_question =
          ap (λ (l : NumberedLines). record { rows = rs; tables = t; lines = lines_before l; refused = refused; rest = left_of l }) ended.as_before
          ∙ sym (stops_here inv.0 _ ended.stops)
          ∙ inv.2;
    }
