use Rattle.std.proofs.Common.{◌≡◌, ℕ, ◌-◌, ◌<◌, ◌≤◌, true, List, map, length, take, set, sym, ap, ◌∙◌, ⊎_elim, arith, rules}
use Rattle.std.specs.Result.{is_ok}
use Rattle.std.proofs.lemmas.List.{length-set}
use Rattle.std.proofs.lemmas.Bool.{cases_lt, cond-true, eqb-false, leb-false, lt-ltb}
use Rattle.settings.specs.declared.row.AliasRow.{AliasRow}
use Rattle.settings.specs.Entries.{last_values, to_last, with_aliases}
use Rattle.settings.specs.Limits.{aliases_kept}
use Rattle.settings.specs.Meant.{tables}
use Rattle.settings.specs.Rows.{alias_of, value_of}
use Rattle.settings.specs.Tables.{Alias, with_value}
use Rattle.settings.proofs.Kept.{to_last_kept}
use Rattle.settings.proofs.Labels.{count_is, last_changed, last_values_are, unlabelled_is}
use Rattle.settings.proofs.settings.Settings.push_value.Goals as goal
use Rattle.settings.proofs.settings.Settings.push_value.Goals.{After-push}

some_label : (c : After-push) → 0 < c.args.self.now.count
some_label c =
    let s = c.args.self.now in
    let some = eqb-false (length (tables s).aliases) 0 (unlabelled_is (tables s).aliases ∙ c.requires.label_before) in
    positive s.count (λ e. some (count_is s ∙ e))
  where
    positive : (n : ℕ) → (n ≡ 0 → ⊥) → 0 < n
    positive n h = ⊎_elim (λ (p : 0 < n). p) (λ (p : n ≤ 0). absurd (h (omega arith))) (cases_lt 0 n)

few_values : (c : After-push) → length (last_values (tables c.args.self.now).aliases) < 4
few_values c = leb-false 4 (length (last_values (tables c.args.self.now).aliases)) c.requires.room

-- the last row has room for one value more
taken : (c : After-push) → is_ok c.push.result ≡ true
taken c =
    let s = c.args.self.now in
    let here = last_values_are s (some_label c) c.index-rows-last.result c.index-rows-last.is in
    c.push.ensures.room_for_four ∙ lt-ltb _ 4 (omega (arith, few_values c, ap length here, ap (λ (x : AliasRow). length (alias_of x).values) c.index-rows-last.is))

-- the labels then
labels_then : (c : After-push) → map alias_of (take c.args.self.now.count (set c.args.self.now.rows (c.args.self.now.count - 1) c.push.new.self)) ≡ to_last (value_of c.args.value) (tables c.args.self.now).aliases
labels_then c =
    let s = c.args.self.now in
    let is = c.index-rows-last.is in
    last_changed s (some_label c) c.index-rows-last.result is c.push.new.self (value_of c.args.value)
    (c.push.ensures.value_behind_the_others ∙ cond-true _ _ _ (taken c) ∙ ap (λ (x : AliasRow). with_value (value_of c.args.value) (alias_of x)) (sym is))

pub invariant_of-self : goal.invariant_of-self
invariant_of-self c =
    let s = c.args.self.now in
    let kept = ap aliases_kept (labels_then c) ∙ to_last_kept (value_of c.args.value) (tables s).aliases s.aliases_kept c.requires.well_written (few_values c) in
    record {
      whole = length-set s.rows _ _ ∙ s.whole;
      within = s.within;
      aliases_kept = kept;
      extensions_kept = s.extensions_kept;
      main_files_kept = s.main_files_kept;
      restrictions_kept = s.restrictions_kept;
    }

pub returns : goal.returns
returns c = record { value_at_the_last_label = ap (λ (now_written : List Alias). with_aliases now_written (tables c.args.self.now)) (labels_then (goal.at.returns c).After-push) }

pub unwrap-requires : goal.unwrap-requires
unwrap-requires c = let there = taken (goal.at.unwrap-requires c).After-push in search rules
