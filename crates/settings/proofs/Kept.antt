-- What the tables keep when an entry is put behind the others. Assumes nothing.
use Rattle.std.proofs.Common.{◌≡◌, ℕ, ◌<◌, true, ◌&&◌, leb, List, [], ◌∷◌, ◌++◌, length, Some, Option, refl, subst, arith, MatchOption}
use Rattle.std.proofs.lemmas.List.{length_push}
use Rattle.std.proofs.lemmas.Bool.{and_from, and_parts, le-leb}
use Rattle.texts.specs.Held.{bytes_of}
use Rattle.texts.specs.Texts.{Text}
use Rattle.texts.specs.declared.text.Text as room
use Rattle.settings.specs.declared.kinds.Setting.TheVariants as setting
use Rattle.settings.specs.Entries.{last_values, to_last}
use Rattle.settings.specs.Limits.{alias_kept, aliases_kept, value_kept, values_kept, well_written}
use Rattle.settings.specs.Tables.{Alias, Value, labelled}

-- the text that was made from these bytes
pub text_made : {N : ℕ} (o : Option (room.Text N)) (x : room.Text N) (t : Text) → o ≡ Some x → MatchOption o (N < length t) (λ y. bytes_of y ≡ t) → bytes_of x ≡ t
text_made {N} o x t e h = subst (λ (p : Option (room.Text N)). MatchOption p (N < length t) (λ y. bytes_of y ≡ t)) e h

-- labels
pub aliases_pushed : (ls : List Alias) (t : Text) → aliases_kept ls ≡ true → well_written setting.Alias t ≡ true → aliases_kept (ls ++ labelled t [] ∷ []) ≡ true
aliases_pushed [] t h e = and_from _ _ (and_from _ _ e (and_from _ _ (le-leb 0 4 (omega arith)) refl)) refl
aliases_pushed (a ∷ ls) t h e = let p = and_parts (alias_kept a) (aliases_kept ls) h in and_from (alias_kept a) _ p.0 (aliases_pushed ls t p.1 e)

-- values
values_pushed : (vs : List Value) (v : Value) → values_kept vs ≡ true → value_kept v ≡ true → values_kept (vs ++ v ∷ []) ≡ true
values_pushed [] v h e = and_from (value_kept v) true e refl
values_pushed (x ∷ vs) v h e = let p = and_parts (value_kept x) (values_kept vs) h in and_from (value_kept x) _ p.0 (values_pushed vs v p.1 e)

pub to_last_kept : (v : Value) (ls : List Alias) → aliases_kept ls ≡ true → value_kept v ≡ true → length (last_values ls) < 4 → aliases_kept (to_last v ls) ≡ true
to_last_kept v [] h e few = refl
to_last_kept v (a ∷ []) h e few =
    let p = and_parts (alias_kept a) true h in
    let q = and_parts (well_written setting.Alias a.label) (leb (length a.values) 4 && values_kept a.values) p.0 in
    let r = and_parts (leb (length a.values) 4) (values_kept a.values) q.1 in
    let short = le-leb (length (a.values ++ v ∷ [])) 4 (omega (arith, length_push a.values v)) in
    and_from _ _ (and_from _ _ q.0 (and_from _ _ short (values_pushed a.values v r.1 e))) refl
to_last_kept v (a ∷ b ∷ ls) h e few = let p = and_parts (alias_kept a) (aliases_kept (b ∷ ls)) h in and_from (alias_kept a) _ p.0 (to_last_kept v (b ∷ ls) p.1 e few)
