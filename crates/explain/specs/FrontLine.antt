-- Why one line in front of the first that asks is refused, in the words of `explain`; what a line adds is what an entry of a sheet does. Assumes nothing.
use Rattle.std.specs.Prelude.{List, Option}
use Rattle.texts.specs.Texts.{Text}
use Rattle.lines.specs.Sheets.{Content}
use Rattle.listing.specs.Rows.{Row}
use Rattle.settings.specs.Tables.{Tables}
use Rattle.sheets.specs.Entries.{entry_fault, listing_fault}
use Rattle.explain.specs.declared.cause.Cause.{Cause}
use Rattle.explain.specs.declared.cause.Cause.TheVariants as cause
use Rattle.explain.specs.declared.refusal.Refusal.TheVariants.{Line}

-- why a line of the listing is refused; none if it is taken
abbrev pub listing_cause : List Row → Option Content → Option Cause
listing_cause = listing_fault (cause.Question Line) cause.Listing cause.Setting

-- why a line in front is refused; none if it is taken
abbrev pub front_cause : List Row → Tables → Text → Option Cause
front_cause = entry_fault (cause.Question Line) cause.Listing cause.Setting
