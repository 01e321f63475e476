-- Why a line of a sheet is refused: the number, the words and the sentence. Assumes nothing.
use Rattle.std.specs.Prelude.{[], ℕ, ◌∷◌, codes, decimal}
use Rattle.listing.specs.declared.refusals.Refusal.TheVariants as listing
use Rattle.listing.specs.declared.refusals.Refusal.{Refusal as ListingRefusal}
use Rattle.listing.specs.Kinds.{number as listing_number}
use Rattle.settings.specs.declared.refusals.Refusal.TheVariants as setting
use Rattle.settings.specs.declared.refusals.Refusal.{Refusal as SettingsRefusal}
use Rattle.settings.specs.Kinds.{number as settings_number}
use Rattle.texts.specs.Texts.{Text}
use Rattle.explain.specs.declared.refusal.Refusal.{Refusal}
use Rattle.explain.specs.declared.refusal.Refusal.TheVariants.{Line, Directory, Request, Empty, TooLong}
use Rattle.explain.specs.declared.cause.Cause.{Cause}
use Rattle.explain.specs.declared.cause.Cause.TheVariants as cause
use Rattle.explain.specs.Legible.{legible, phrase}
use Rattle.explain.specs.Refusals.{number_of}

-- the number that stands for a cause
abbrev pub cause_number : Cause → ℕ
cause_number (cause.Question r) = number_of r
cause_number (cause.Listing r) = listing_number r
cause_number (cause.Setting r) = settings_number r

-- what is wrong with a question, in words
abbrev pub question_words : Refusal → Text
question_words Line = codes "its columns or its kind are not those of a line"
question_words Directory = codes "the directory is no clean path of at most 80 bytes, each at most 127"
question_words Request = codes "the request has more than 96 bytes, or a byte above 127"
question_words Empty = codes "the request has no path"
question_words TooLong = codes "a text on the way has more than 255 bytes"

-- what is wrong with a line of the listing, in words
abbrev pub listing_words : ListingRefusal → Text
listing_words listing.Text = codes "a text has a wrong length, or a byte outside 32 to 126"
listing_words listing.Full = codes "the listing has 256 lines"
listing_words listing.Form = codes "the path is not clean"
listing_words listing.MainBeforeManifest = codes "no manifest stands before the main text"
listing_words listing.Kind = codes "no line of this kind is listed"

-- what is wrong with a line of the settings, in words
abbrev pub settings_words : SettingsRefusal → Text
settings_words setting.LabelLength = codes "the label has no character, or more than 32"
settings_words setting.Text = codes "a text has a wrong length, or a byte outside 32 to 126"
settings_words setting.Full = codes "its table is full"
settings_words setting.Form = codes "the text has not the form of its kind, or there is no such flag or setting of it"
settings_words setting.ValueBeforeLabel = codes "no label stands before the value"
settings_words setting.Kind = codes "its columns or its kind are not those of a line"

-- what is wrong, in words
abbrev pub cause_words : Cause → Text
cause_words (cause.Question r) = question_words r
cause_words (cause.Listing r) = listing_words r
cause_words (cause.Setting r) = settings_words r

-- the sentence on a line that is refused, with the text that is to blame
abbrev pub refused_sentence : ℕ → Cause → Text → Text
refused_sentence line why text =
    phrase (codes "Line " ∷ decimal line ∷ codes " is refused with " ∷ decimal (cause_number why) ∷ codes ", since " ∷ cause_words why ∷ codes ": " ∷ legible text ∷ [])
