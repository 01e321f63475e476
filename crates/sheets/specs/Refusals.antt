-- The numbers of the refusals of a sheet's lines. Assumes nothing.
use Rattle.std.specs.Prelude.{ℕ}
use Rattle.listing.specs.Kinds.{number as listing_number}
use Rattle.settings.specs.Kinds.{number as settings_number}
use Rattle.sheets.specs.declared.refusal.Refusal.{Refusal}
use Rattle.sheets.specs.declared.refusal.Refusal.TheVariants.{Closed, Line, Listing, Setting, Texts}

-- the number that stands for a refusal
abbrev pub number : Refusal → ℕ
number Line = 15
number (Listing r) = listing_number r
number (Setting r) = settings_number r
number Texts = 11
number Closed = 13
