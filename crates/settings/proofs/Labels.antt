-- The labels of a table by their rows, and the last of them. Assumes nothing.
use Rattle.std.proofs.Common.{◌≡◌, ℕ, suc, ◌-◌, ◌<◌, false, eqb, leb, List, [], ◌∷◌, map, length, get_or, take, set, Some, None, Option, MatchOption, slice_get, subst, sym, refl, ap, ◌∙◌, arith}
use Rattle.std.proofs.lemmas.Bool.{eq-eqb, leb-false, ne_eqb}
use Rattle.stack.proofs.Slots.{slot_at, slot_changed, slots_count}
use Rattle.settings.specs.declared.row.AliasRow.{AliasRow}
use Rattle.settings.specs.declared.settings.Settings.{Settings}
use Rattle.settings.specs.Entries.{last_values, to_last, unlabelled}
use Rattle.settings.specs.Meant.{tables}
use Rattle.settings.specs.Rows.{alias_of}
use Rattle.settings.specs.Tables.{Alias, Value, with_value}

pub count_is : (s : Settings) → length (tables s).aliases ≡ s.count
count_is s = slots_count alias_of s.rows s.count (omega (arith, s.whole, s.within))

-- there is room for a label
pub label_room : (s : Settings) → leb 16 (length (tables s).aliases) ≡ false → s.count < 16
label_room s free = omega (arith, count_is s, leb-false 16 (length (tables s).aliases) free)

pub unlabelled_is : (ls : List Alias) → eqb (length ls) 0 ≡ unlabelled ls
unlabelled_is [] = eq-eqb 0 0 refl
unlabelled_is (a ∷ ls) = ne_eqb (length (a ∷ ls)) 0 (λ e. omega arith)

-- how many values the last row has, if there is one
pub counted : (xs : List AliasRow) (o : Option AliasRow) (n : ℕ)
    → o ≡ slice_get xs (length xs - 1) → MatchOption o (n ≡ 0) (λ r. n ≡ length (alias_of r).values) → n ≡ length (last_values (map alias_of xs))
counted [] o n e h = let none : o ≡ None = e in subst (λ (p : Option AliasRow). MatchOption p (n ≡ 0) (λ r. n ≡ length (alias_of r).values)) none h
counted (x ∷ []) o n e h = let one : o ≡ Some x = e in subst (λ (p : Option AliasRow). MatchOption p (n ≡ 0) (λ r. n ≡ length (alias_of r).values)) one h
counted (x ∷ y ∷ xs) o n e h =
    let last : length (x ∷ y ∷ xs) - 1 ≡ suc (length (y ∷ xs) - 1) = omega arith in
    counted (y ∷ xs) o n (e ∙ ap (slice_get (x ∷ y ∷ xs)) last) h

-- the last label, by its place
pub last_at : (ls : List Alias) (n : ℕ) (d : Alias) → length ls ≡ suc n → last_values ls ≡ (get_or ls n d).values
last_at [] n d e = absurd (omega arith)
last_at (a ∷ []) n d e = let z : 0 ≡ n = omega arith in ap (λ (k : ℕ). (get_or (a ∷ []) k d).values) z
last_at (a ∷ b ∷ ls) n d e =
    let more : suc (length ls) ≡ n = omega arith in
    last_at (b ∷ ls) (length ls) d refl ∙ ap (λ (k : ℕ). (get_or (a ∷ b ∷ ls) k d).values) more

pub to_last_at : (v : Value) (ls : List Alias) (n : ℕ) (d : Alias) → length ls ≡ suc n → set ls n (with_value v (get_or ls n d)) ≡ to_last v ls
to_last_at v [] n d e = absurd (omega arith)
to_last_at v (a ∷ []) n d e = let z : n ≡ 0 = omega arith in ap (λ (k : ℕ). set (a ∷ []) k (with_value v (get_or (a ∷ []) k d))) z
to_last_at v (a ∷ b ∷ ls) n d e =
    let more : n ≡ suc (length ls) = omega arith in
    ap (λ (k : ℕ). set (a ∷ b ∷ ls) k (with_value v (get_or (a ∷ b ∷ ls) k d))) more
    ∙ ap (λ (l : List Alias). a ∷ l) (to_last_at v (b ∷ ls) (length ls) d refl)

-- the last label of the settings
module _ (s : Settings) (some : 0 < s.count) (r : AliasRow) (is : r ≡ get_or s.rows (s.count - 1) r) where
  abbrev at_last : ℕ
  at_last = s.count - 1

  last_length : length (tables s).aliases ≡ suc at_last
  last_length = omega (arith, count_is s)

  last_row : get_or (tables s).aliases at_last (alias_of r) ≡ alias_of r
  last_row = slot_at alias_of s.rows s.count at_last r (alias_of r) (omega arith) (omega (arith, s.whole, s.within)) ∙ ap alias_of (sym is)

  pub last_values_are : last_values (tables s).aliases ≡ (alias_of r).values
  last_values_are = last_at (tables s).aliases at_last (alias_of r) last_length ∙ ap (λ (a : Alias). a.values) last_row

  pub last_changed : (x : AliasRow) (v : Value) → alias_of x ≡ with_value v (alias_of r) → map alias_of (take s.count (set s.rows at_last x)) ≡ to_last v (tables s).aliases
  last_changed x v e =
      slot_changed alias_of s.rows s.count at_last x (omega arith)
      ∙ ap (set (tables s).aliases at_last) (e ∙ ap (with_value v) (sym last_row))
      ∙ to_last_at v (tables s).aliases at_last (alias_of r) last_length
