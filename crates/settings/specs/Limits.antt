-- What every table keeps, however it was filled. Assumes nothing.
use Rattle.std.specs.Prelude.{◌≡◌, ◌≤◌, Bool, true, ◌&&◌, List, [], ◌∷◌, length, nat_le}
use Rattle.texts.specs.Parts.{every}
use Rattle.texts.specs.Texts.{Text}
use Rattle.settings.specs.declared.kinds.Setting.{Setting}
use Rattle.settings.specs.declared.kinds.Setting.TheVariants as setting
use Rattle.settings.specs.Entries.{formed, label_sized, spelled}
use Rattle.settings.specs.Tables.{Alias, Tables, Value, ignore, to}

-- a text that may stand in its table
abbrev pub well_written : Setting → Text → Bool
well_written k a = label_sized k a && (spelled k a [] && formed k a)

abbrev pub value_kept : Value → Bool
value_kept ignore = true
value_kept (to t) = well_written setting.Value t

abbrev pub values_kept : List Value → Bool
values_kept [] = true
values_kept (v ∷ vs) = value_kept v && values_kept vs

-- a label and at most four values, each well written
abbrev pub alias_kept : Alias → Bool
alias_kept a = well_written setting.Alias a.label && (nat_le (length a.values) 4 && values_kept a.values)

abbrev pub aliases_kept : List Alias → Bool
aliases_kept [] = true
aliases_kept (a ∷ more) = alias_kept a && aliases_kept more

abbrev pub extension_kept : Text → Bool
extension_kept t = well_written setting.Extension t

abbrev pub main_file_kept : Text → Bool
main_file_kept t = well_written setting.MainFile t

abbrev pub restriction_kept : Text → Bool
restriction_kept t = well_written setting.Restriction t

-- the limits of all tables
pub record WithinLimits (t : Tables) : Type 0 where
  pub few_aliases : length t.aliases ≤ 16
  pub aliases : aliases_kept t.aliases ≡ true
  pub few_extensions : length t.extensions ≤ 8
  pub extensions : every extension_kept t.extensions ≡ true
  pub few_main_files : length t.main_files ≤ 4
  pub main_files : every main_file_kept t.main_files ≡ true
  pub few_restrictions : length t.restrictions ≤ 4
  pub restrictions : every restriction_kept t.restrictions ≡ true
