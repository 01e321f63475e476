-- What an office may write into the tables, in which order it is refused, and the tables afterwards. Assumes nothing.
use Rattle.std.specs.Prelude.{ℕ, Bool, true, false, cond, not, ◌&&◌, ◌||◌, List, [], ◌∷◌, ◌++◌, length, Some, None, Option, ◌==◌, nat_le}
use Rattle.texts.specs.Texts.{DOT, SLASH, Text, begins, empty, has, printable}
use Rattle.texts.specs.Parts.{clean}
use Rattle.settings.specs.declared.enforcement.EnforceExtension.{EnforceExtension}
use Rattle.settings.specs.declared.enforcement.EnforceExtension.TheVariants.{Auto, Enabled, Disabled}
use Rattle.settings.specs.declared.kinds.Setting.{Setting}
use Rattle.settings.specs.declared.kinds.Setting.TheVariants as setting
use Rattle.settings.specs.declared.refusals.Refusal.{Refusal}
use Rattle.settings.specs.declared.refusals.Refusal.TheVariants as refusal
use Rattle.settings.specs.Tables.{Alias, Tables, Value, ignore, labelled, to, with_value}

-- how many bytes a text has: none, at most n, or 1 to n
abbrev pub absent : Text → Bool
absent t = length t == 0

abbrev pub up_to : ℕ → Text → Bool
up_to n t = nat_le (length t) n

abbrev pub from_one_to : ℕ → Text → Bool
from_one_to n t = nat_le 1 (length t) && nat_le (length t) n

-- a label has 1 to 32 characters, `$` and `*` counted; what is no label has no such limit
abbrev pub label_sized : Setting → Text → Bool
label_sized setting.Alias a = from_one_to 32 a
label_sized setting.Value a = true
label_sized setting.Ignore a = true
label_sized setting.Extension a = true
label_sized setting.MainFile a = true
label_sized setting.Restriction a = true

-- the other lengths; no setting has a second text
abbrev pub sized : Setting → Text → Bool
sized setting.Alias a = true
sized setting.Value a = from_one_to 96 a
sized setting.Ignore a = absent a
sized setting.Extension a = up_to 12 a
sized setting.MainFile a = from_one_to 16 a
sized setting.Restriction a = up_to 255 a

-- the lengths and the bytes of the two texts
abbrev pub spelled : Setting → Text → Text → Bool
spelled k a b = sized k a && (absent b && printable a)

-- an extension is empty or begins with a dot
abbrev pub dotted : Text → Bool
dotted a = empty a || begins DOT a

-- the form: an extension has its dot and no slash, a main file no slash, a restriction is clean
abbrev pub formed : Setting → Text → Bool
formed setting.Alias a = true
formed setting.Value a = true
formed setting.Ignore a = true
formed setting.Extension a = dotted a && not (has SLASH a)
formed setting.MainFile a = not (has SLASH a)
formed setting.Restriction a = clean a

-- there is no label
abbrev pub unlabelled : List Alias → Bool
unlabelled [] = true
unlabelled (a ∷ more) = false

-- a value before its label
abbrev pub too_early : Setting → Tables → Bool
too_early setting.Alias t = false
too_early setting.Value t = unlabelled t.aliases
too_early setting.Ignore t = unlabelled t.aliases
too_early setting.Extension t = false
too_early setting.MainFile t = false
too_early setting.Restriction t = false

-- the values of the last label
abbrev pub last_values : List Alias → List Value
last_values [] = []
last_values (a ∷ []) = a.values
last_values (a ∷ b ∷ more) = last_values (b ∷ more)

-- one value more at the last label
abbrev pub to_last : Value → List Alias → List Alias
to_last v [] = []
to_last v (a ∷ []) = with_value v a ∷ []
to_last v (a ∷ b ∷ more) = a ∷ to_last v (b ∷ more)

-- the table has no room: 16 labels, 4 values at a label, 8 extensions, 4 main files, 4 restrictions
abbrev pub full : Setting → Tables → Bool
full setting.Alias t = nat_le 16 (length t.aliases)
full setting.Value t = nat_le 4 (length (last_values t.aliases))
full setting.Ignore t = nat_le 4 (length (last_values t.aliases))
full setting.Extension t = nat_le 8 (length t.extensions)
full setting.MainFile t = nat_le 4 (length t.main_files)
full setting.Restriction t = nat_le 4 (length t.restrictions)

-- why a setting is refused, in the order of the checks: 14, 10, 11, 13, 12; none if it is taken
abbrev pub refusal_of : Tables → Setting → Text → Text → Option Refusal
refusal_of t k a b =
    cond (too_early k t) (Some refusal.ValueBeforeLabel)
    (cond (not (label_sized k a)) (Some refusal.LabelLength)
    (cond (not (spelled k a b)) (Some refusal.Text)
    (cond (not (formed k a)) (Some refusal.Form)
    (cond (full k t) (Some refusal.Full) None))))

-- the tables with one of them, or one flag, replaced
abbrev pub with_aliases : List Alias → Tables → Tables
with_aliases now_written t = record { aliases = now_written; extensions = t.extensions; main_files = t.main_files; restrictions = t.restrictions; fully_specified = t.fully_specified; context = t.context; enforcement = t.enforcement }

abbrev pub with_extensions : List Text → Tables → Tables
with_extensions now_written t = record { aliases = t.aliases; extensions = now_written; main_files = t.main_files; restrictions = t.restrictions; fully_specified = t.fully_specified; context = t.context; enforcement = t.enforcement }

abbrev pub with_main_files : List Text → Tables → Tables
with_main_files now_written t = record { aliases = t.aliases; extensions = t.extensions; main_files = now_written; restrictions = t.restrictions; fully_specified = t.fully_specified; context = t.context; enforcement = t.enforcement }

abbrev pub with_restrictions : List Text → Tables → Tables
with_restrictions now_written t = record { aliases = t.aliases; extensions = t.extensions; main_files = t.main_files; restrictions = now_written; fully_specified = t.fully_specified; context = t.context; enforcement = t.enforcement }

abbrev pub with_fully_specified : Bool → Tables → Tables
with_fully_specified set t = record { aliases = t.aliases; extensions = t.extensions; main_files = t.main_files; restrictions = t.restrictions; fully_specified = set; context = t.context; enforcement = t.enforcement }

abbrev pub with_context : Bool → Tables → Tables
with_context set t = record { aliases = t.aliases; extensions = t.extensions; main_files = t.main_files; restrictions = t.restrictions; fully_specified = t.fully_specified; context = set; enforcement = t.enforcement }

abbrev pub with_enforcement : EnforceExtension → Tables → Tables
with_enforcement set t = record { aliases = t.aliases; extensions = t.extensions; main_files = t.main_files; restrictions = t.restrictions; fully_specified = t.fully_specified; context = t.context; enforcement = set }

-- the tables with one entry more: a value at the last label, any other behind its kind
abbrev pub with_entry : Setting → Text → Tables → Tables
with_entry setting.Alias a t = with_aliases (t.aliases ++ labelled a [] ∷ []) t
with_entry setting.Value a t = with_aliases (to_last (to a) t.aliases) t
with_entry setting.Ignore a t = with_aliases (to_last ignore t.aliases) t
with_entry setting.Extension a t = with_extensions (t.extensions ++ a ∷ []) t
with_entry setting.MainFile a t = with_main_files (t.main_files ++ a ∷ []) t
with_entry setting.Restriction a t = with_restrictions (t.restrictions ++ a ∷ []) t

-- flags by their numbers: 1 fully specified, 2 context, 3 enforcement; each is on (1) or off (0), the third also auto (2)
abbrev pub flag_known : ℕ → ℕ → Bool
flag_known n s = cond (n == 1) (nat_le s 1) (cond (n == 2) (nat_le s 1) (n == 3 && nat_le s 2))

-- why a flag is refused
abbrev pub flag_refusal : ℕ → ℕ → Option Refusal
flag_refusal n s = cond (flag_known n s) None (Some refusal.Form)

abbrev pub enforcement_of : ℕ → EnforceExtension
enforcement_of s = cond (s == 0) Disabled (cond (s == 1) Enabled Auto)

-- the tables with a flag set
abbrev pub with_flag : ℕ → ℕ → Tables → Tables
with_flag n s t =
    cond (n == 1) (with_fully_specified (s == 1) t)
    (cond (n == 2) (with_context (s == 1) t)
    (with_enforcement (enforcement_of s) t))

-- what is refused leaves everything as it was
abbrev pub unless_refused : Option Refusal → Tables → Tables → Tables
unless_refused None before after = after
unless_refused (Some e) before after = before

-- the tables after a setting was offered
unfoldable pub tables_after : Tables → Setting → Text → Text → Tables
tables_after t k a b = unless_refused (refusal_of t k a b) t (with_entry k a t)

-- the tables after a flag was offered
abbrev pub flagged : Tables → ℕ → ℕ → Tables
flagged t n s = unless_refused (flag_refusal n s) t (with_flag n s t)
