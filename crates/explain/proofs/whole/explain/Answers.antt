use Rattle.std.proofs.Common.{◌≡◌, ℕ, [], ◌∷◌, ◌++◌, map, length, nat_le, refl, ap, subst, ◌∙◌}
use Rattle.std.proofs.Math.Path.{transport}
use Rattle.std.specs.Io.KnownBytes.{Appends}
use Rattle.std.specs.List.{flat_map}
use Rattle.lines.specs.Sheets.{LINE_END}
use Rattle.texts.specs.Parts.{parts}
use Rattle.listing.specs.Entries.{rows}
use Rattle.listing.specs.Meanings.{listed}
use Rattle.settings.specs.Meant.{tables}
use Rattle.settings.specs.Tables.{unset}
use Rattle.explain.specs.Ends.{tally_sentence}
use Rattle.explain.specs.Filling.{Front, filled_by, front_of, noted}
use Rattle.explain.specs.Legible.{phrase}
use Rattle.explain.specs.SheetLines.{left_of, lines_before}
use Rattle.explain.specs.Telling.{TellsRest, few_parts, refused_line}
use Rattle.explain.proofs.Writing.{took_both}
use Rattle.explain.proofs.whole.explain.Goals as goal

pub returns : goal.returns
returns g c =
    let front : Front = filled_by [] unset c.args.sheet.now in
    let filled = c.in_ok-filled.filled in
    let fills : front_of (rows c.fill.new.listing) (tables c.fill.new.settings) filled ≡ front =
    c.in_ok-filled.ensures.line_after_line_up_to_the_first_question ∙ (λ k. filled_by (c.new-listing.ensures.no_lines k) (c.new-settings.ensures.nothing_is_set k) c.args.sheet.now) in
    let listing : rows c.new-host.result.below ≡ front.rows = ap rows c.new-host.ensures.below_as_given ∙ ap (λ (f : Front). f.rows) fills in
    let settings : tables c.fill.new.settings ≡ front.tables = ap (λ (f : Front). f.tables) fills in
    let before : lines_before filled.lines ≡ front.lines = ap (λ (f : Front). f.lines) fills in
    let left : left_of filled.lines ≡ front.rest = ap (λ (f : Front). f.rest) fills in
    let refused : map noted filled.refused.items ≡ front.refused = ap (λ (f : Front). f.refused) fills in
    let resolver = c.in_ok-resolver.ensures in
    let count = c.tell_lines.new.resolver.handed_out in
    let told = c.in_ok-tell_lines.ensures.line_by_line_to_the_end in
    let lines = told.0 in
    let rest : TellsRest (listed front.rows) (listed front.rows) few_parts few_parts front.tables front.tables front.lines front.rest 0 count lines =
    transport
    (λ k. TellsRest (listed (listing k)) (listed (resolver.listing_of_the_front k)) few_parts (λ path. nat_le (length (parts path)) (resolver.policy_of_255_parts k)) (settings k) (resolver.settings_of_the_front k) (before k) (left k) (resolver.no_path_yet k) count lines)
    told.1.1 in
    let is : flat_map refused_line (map noted c.as_slice.result.now) ≡ flat_map refused_line front.refused =
    (λ k. flat_map refused_line (map noted (c.as_slice.ensures.value k))) ∙ ap (flat_map refused_line) refused in
    let refusals : Appends (g.W.Write.contents c.args.out.now) (g.W.Write.contents c.refusals.new.out) (flat_map refused_line front.refused) =
    subst (Appends (g.W.Write.contents c.args.out.now) (g.W.Write.contents c.refusals.new.out)) is c.in_ok-refusals.ensures.each_in_its_order in
    let tally : Appends (g.W.Write.contents c.tell_lines.new.out) (g.W.Write.contents c.writeln.new.self) (tally_sentence count ++ LINE_END ∷ []) =
    subst (λ (n : ℕ). Appends (g.W.Write.contents c.tell_lines.new.out) (g.W.Write.contents c.writeln.new.self) (tally_sentence n ++ LINE_END ∷ [])) c.tally.ensures.paths_handed_out c.in_ok-writeln.ensures.bytes in
    record {
      all_that_is_told = (
        phrase (flat_map refused_line front.refused ∷ lines ∷ tally_sentence count ∷ (LINE_END ∷ []) ∷ []),
        (took_both _ _ _ _ _ refusals (took_both _ _ _ _ _ told.1.0 tally), (lines, (count, (rest, refl)))),
      );
    }
