-- The kinds of settings and the refusals, by their numbers. Assumes nothing.
use Rattle.std.specs.Prelude.{ℕ, Bool, cond, ◌||◌, Some, None, Option, ◌==◌, is_some}
use Rattle.settings.specs.declared.kinds.Setting.{Setting}
use Rattle.settings.specs.declared.kinds.Setting.TheVariants.{Alias, Value, Ignore, Extension, MainFile, Restriction}
use Rattle.settings.specs.declared.refusals.Refusal.{Refusal}
use Rattle.settings.specs.declared.refusals.Refusal.TheVariants as refusal

-- the setting to which an office gives a number
abbrev pub setting_of : ℕ → Option Setting
setting_of n =
    cond (n == 21) (Some Alias)
    (cond (n == 23) (Some Value)
    (cond (n == 24) (Some Ignore)
    (cond (n == 25) (Some Extension)
    (cond (n == 26) (Some MainFile)
    (cond (n == 30) (Some Restriction) None)))))

-- a line of this kind is one of the settings: a setting, or a flag
abbrev pub is_kind : ℕ → Bool
is_kind n = n == 31 || is_some (setting_of n)

-- the number of a refusal
abbrev pub number : Refusal → ℕ
number refusal.LabelLength = 10
number refusal.Text = 11
number refusal.Full = 12
number refusal.Form = 13
number refusal.ValueBeforeLabel = 14
number refusal.Kind = 15
