use Rattle.std.proofs.Common.{◌≡◌, ◌++◌, [], ◌∷◌, codes, map, take, sym, ap, ◌∙◌, arith, refl}
use Rattle.std.proofs.lemmas.Bool.{cond-true, cond-false}
use Rattle.std.proofs.lemmas.List.{append-nil}
use Rattle.std.proofs.Output.{has_written_append, has_written_of_eq}
use Rattle.std.specs.List.{flat_map}
use Rattle.texts.specs.Texts.{Text}
use Rattle.settings.specs.Rows.{alias_of}
use Rattle.alias.specs.Forms.{touches}
use Rattle.explain.specs.Labels.{passed_over, touching_words}
use Rattle.explain.specs.Legible.{phrase}
use Rattle.lines.specs.Sheets.{LINE_END}
use Rattle.explain.proofs.Writing.{one_more}
use Rattle.explain.proofs.sentence.labels.PassedOverDisplay.fmt.Goals as goal
use Rattle.explain.proofs.sentence.labels.PassedOverDisplay.fmt.Goals.{then-key_matches+in_ok-writeln, else-key_matches}

pub loop-row-preserved : goal.loop-row-preserved
loop-row-preserved g c plain =
    let request = c.args.self.now.request.now in
    let row = c.row-item.result in
    let took = g.W.Write.write_str_gives in
    let more = one_more alias_of (passed_over request) c.args.self.now.aliases.now c.loop-row.row-index row (omega arith) c.row-item.is in
    let before = c.loop-row.invariant plain in
    let touched : c.key_matches.result ≡ touches (alias_of row).label request = c.key_matches.ensures.touched_by_its_form ∙ ap (λ (l : Text). touches l request) c.label-label.ensures.label_as_written in
    elim c.if-key_matches.branch [
      | then-key_matches+in_ok-writeln w ↦
          let words : phrase (touching_words request c.label-label.result.now ∷ codes ": all its values are passed over" ∷ (LINE_END ∷ []) ∷ []) ≡ passed_over request (alias_of row) =
          ap (λ (l : Text). phrase (touching_words request l ∷ codes ": all its values are passed over" ∷ (LINE_END ∷ []) ∷ [])) c.label-label.ensures.label_as_written
          ∙ sym (cond-true _ _ _ (sym touched ∙ w.if-key_matches.true)) in
          let wrote = has_written_of_eq took _ _ _ _ words (w.in_ok-writeln.ensures.writes before.plain refl) in
          rw w.f-is (has_written_of_eq took _ _ _ _ (sym more) (has_written_append took _ _ _ _ _ before wrote))
      | else-key_matches w ↦
          let none : passed_over request (alias_of row) ≡ [] = cond-false _ _ _ (sym touched ∙ w.if-key_matches.false) in
          let same = sym (more ∙ ap (λ (t : Text). flat_map (passed_over request) (map alias_of (take c.loop-row.row-index c.args.self.now.aliases.now)) ++ t) none ∙ append-nil _) in
          rw w.f-is (has_written_of_eq took _ _ _ _ same before)
    ]
