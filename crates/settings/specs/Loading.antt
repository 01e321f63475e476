-- What a line says of the settings, and the tables after it. Assumes nothing.
use Rattle.std.specs.Prelude.{ℕ, cond, length, Some, None, Ok, Err, Option, Result, ◌==◌}
use Rattle.lines.specs.declared.Head.{Head}
use Rattle.lines.specs.Sheets.{Content, content_of, head_of}
use Rattle.texts.specs.Texts.{Text}
use Rattle.settings.specs.declared.entry.Entry.{Entry}
use Rattle.settings.specs.declared.entry.Entry.TheVariants as entry
use Rattle.settings.specs.declared.kinds.Setting.{Setting}
use Rattle.settings.specs.declared.refusals.Refusal.{Refusal}
use Rattle.settings.specs.declared.refusals.Refusal.TheVariants as refusal
use Rattle.settings.specs.Entries.{flag_known, flag_refusal, flagged, refusal_of, tables_after}
use Rattle.settings.specs.Flags.{numbers_of}
use Rattle.settings.specs.Kinds.{setting_of}
use Rattle.settings.specs.Tables.{Tables}

-- what is offered: a setting with two texts, or a flag and its setting by their numbers
pub data Offer : Type 0 where
  texts : Setting → Text → Text → Offer
  flag : ℕ → ℕ → Offer

-- what an entry that was read offers
abbrev pub offered : Entry → Offer
offered (entry.Texts k a b) = texts k a.now b.now
offered (entry.Flag f) = flag (numbers_of f).0 (numbers_of f).1

-- a setting of this kind, if there is one, with the texts of its line, if the line has them
abbrev pub texts_offer : Option Setting → Option Content → Option Offer
texts_offer None c = None
texts_offer (Some k) None = None
texts_offer (Some k) (Some c) = Some (texts k c.first c.second)

-- a flag stands in the columns of the lengths, and nothing stands behind them
abbrev pub flag_offer : Head → Text → Option Offer
flag_offer h line = cond (length line == 12) (Some (flag h.first h.second)) None

abbrev pub offer_by : Option Head → Text → Option Offer
offer_by None line = None
offer_by (Some h) line = cond (h.kind == 31) (flag_offer h line) (texts_offer (setting_of h.kind) (content_of line))

-- what a line offers; none for other columns and other kinds
unfoldable pub offer_of : Text → Option Offer
offer_of line = offer_by (head_of line) line

-- an offer that may be read as an entry: an offer of a flag is that of a flag that there is
abbrev pub known : Option Offer → Result Offer Refusal
known None = Err refusal.Kind
known (Some (texts k a b)) = Ok (texts k a b)
known (Some (flag n s)) = cond (flag_known n s) (Ok (flag n s)) (Err refusal.Form)

-- why a line is refused, 15 first; none if it is taken
abbrev pub line_refusal : Tables → Option Offer → Option Refusal
line_refusal t None = Some refusal.Kind
line_refusal t (Some (texts k a b)) = refusal_of t k a b
line_refusal t (Some (flag n s)) = flag_refusal n s

-- the tables after a line
abbrev pub line_after : Tables → Option Offer → Tables
line_after t None = t
line_after t (Some (texts k a b)) = tables_after t k a b
line_after t (Some (flag n s)) = flagged t n s
