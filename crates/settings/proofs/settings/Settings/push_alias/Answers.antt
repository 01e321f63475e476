use Rattle.std.proofs.Common.{◌≡◌, ◌+◌, [], ◌∷◌, ◌++◌, map, take, set, ap, ◌∙◌, arith}
use Rattle.stack.proofs.Slots.{slot_put}
use Rattle.texts.specs.Texts.{Text}
use Rattle.settings.specs.Limits.{aliases_kept}
use Rattle.settings.specs.Meant.{tables}
use Rattle.settings.specs.Rows.{alias_of}
use Rattle.settings.specs.Tables.{Alias, labelled}
use Rattle.settings.proofs.Kept.{aliases_pushed, text_made}
use Rattle.settings.proofs.Labels.{label_room}
use Rattle.settings.proofs.settings.Settings.push_alias.Goals as goal

pub invariant_of-self-clause-aliases_kept : goal.invariant_of-self-clause-aliases_kept
invariant_of-self-clause-aliases_kept c =
    let s = c.args.self.now in
    let then : map alias_of (take (s.count + 1) (set s.rows s.count c.new-row.result)) ≡ (tables s).aliases ++ labelled c.args.label.now [] ∷ [] =
    slot_put alias_of s.rows s.count c.new-row.result (omega (arith, s.whole, label_room s c.requires.room))
    ∙ ap (λ (a : Alias). (tables s).aliases ++ a ∷ []) c.new-row.ensures.label_without_values
    ∙ ap (λ (t : Text). (tables s).aliases ++ labelled t [] ∷ []) (text_made c.new.result c.unwrap.result c.args.label.now c.unwrap.ensures c.new.ensures.same_bytes_or_too_many) in
    ap aliases_kept then ∙ aliases_pushed (tables s).aliases c.args.label.now s.aliases_kept c.requires.well_written
