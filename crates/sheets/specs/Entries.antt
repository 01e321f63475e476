-- Entries: the lines that fill the listing and the settings. Assumes nothing.
use Rattle.std.specs.Prelude.{Bool, false, cond, ◌||◌, ◌==◌, List, is_some, Some, None, Option}
use Rattle.std.specs.Option.{option_map}
use Rattle.texts.specs.Texts.{Text}
use Rattle.lines.specs.declared.Head.{Head}
use Rattle.lines.specs.Sheets.{Content, content_of, head_of}
use Rattle.listing.specs.declared.refusals.Refusal.{Refusal as ListingRefusal}
use Rattle.listing.specs.Rows.{Row}
use Rattle.listing.specs.Entries.{refusal, rows_after}
use Rattle.settings.specs.declared.refusals.Refusal.{Refusal as SettingsRefusal}
use Rattle.settings.specs.Kinds.{setting_of}
use Rattle.settings.specs.Tables.{Tables}
use Rattle.settings.specs.Loading.{line_after, line_refusal, offer_of}
use Rattle.sheets.specs.declared.refusal.Refusal.{Refusal}
use Rattle.sheets.specs.declared.refusal.Refusal.TheVariants.{Closed, Line, Listing, Setting}
use Rattle.sheets.specs.Refusals.{number}

-- a line with this head is one of the settings: a setting, or a flag
abbrev pub sets : Option Head → Bool
sets None = false
sets (Some h) = h.kind == 31 || is_some (setting_of h.kind)

-- why an entry is refused, in the words of who reads the sheet: for a bad line, for what the listing does not take, and for what the settings do not take
module _ {Why : Type 0} (bad_line : Why) (by_listing : ListingRefusal → Why) (by_settings : SettingsRefusal → Why) where
  -- why a line of the listing is refused; none if it is taken
  abbrev pub listing_fault : List Row → Option Content → Option Why
  listing_fault rs None = Some bad_line
  listing_fault rs (Some c) = option_map by_listing (refusal rs c.kind c.first c.second)

  -- why an entry is refused while the tables are open; none if it is taken
  abbrev pub entry_fault : List Row → Tables → Text → Option Why
  entry_fault rs t line =
      cond (sets (head_of line)) (option_map by_settings (line_refusal t (offer_of line))) (listing_fault rs (content_of line))

-- the same, as an answer tells it
abbrev pub listing_refusal : List Row → Option Content → Option Refusal
listing_refusal = listing_fault Line Listing Setting

abbrev pub entry_refusal : List Row → Tables → Text → Option Refusal
entry_refusal = entry_fault Line Listing Setting

-- the rows after a line of the listing
abbrev pub listed_with : List Row → Option Content → List Row
listed_with rs None = rs
listed_with rs (Some c) = rows_after rs c.kind c.first c.second

-- the rows after an entry
abbrev pub rows_with : List Row → Text → List Row
rows_with rs line = cond (sets (head_of line)) rs (listed_with rs (content_of line))

-- the tables after an entry
abbrev pub tables_with : Tables → Text → Tables
tables_with t line = cond (sets (head_of line)) (line_after t (offer_of line)) t

-- why an entry is refused once the tables are closed: what is told before 13 is still told, what would be taken or has no room is told by 13
abbrev pub closed_refusal : Option Refusal → Refusal
closed_refusal None = Closed
closed_refusal (Some r) = cond (number r == 12) Closed r
