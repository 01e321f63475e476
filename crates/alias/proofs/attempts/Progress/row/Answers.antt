use Rattle.std.proofs.Common.{◌≡◌, ℕ, ◌+◌, List, [], ◌∷◌, drop, map, MatchOption, Some, None, Option, Bor, sym, ap, ◌∙◌}
use Rattle.std.proofs.lemmas.Bool.{ltb-true}
use Rattle.std.proofs.lemmas.List.{drop-map, drop_all}
use Rattle.std.specs.Slice.{IsItemAt}
use Rattle.stack.proofs.Slots.{mapped_from}
use Rattle.settings.specs.declared.row.AliasRow.{AliasRow}
use Rattle.settings.specs.Rows.{alias_of}
use Rattle.alias.proofs.attempts.Progress.row.Goals as goal

there : (rows : List AliasRow) (i : ℕ) (r : Option (Bor AliasRow)) → IsItemAt rows i r → MatchOption r (drop i (map alias_of rows) ≡ []) (λ row. drop i (map alias_of rows) ≡ alias_of row.now ∷ drop (i + 1) (map alias_of rows))
there rows i None h = drop-map alias_of i rows ∙ ap (map alias_of) (drop_all i rows h.3)
there rows i (Some row) h = mapped_from alias_of rows i row.now (ltb-true _ _ (sym h.0)) h.1

pub returns : goal.returns
returns c = record { row_at_the_place = there c.args.aliases.now c.args.self.now.label c.get.result c.get.ensures.lookup }
