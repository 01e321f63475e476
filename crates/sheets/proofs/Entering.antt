-- Entries that are taken, and entries that are refused. Assumes nothing.
use Rattle.std.proofs.Common.{◌≡◌, ℕ, Bool, true, false, List, [], ◌∷◌, ◌++◌, Some, None, Option, Ok, Err, eqb, sym, refl, ap, ◌∙◌}
use Rattle.std.specs.Option.{option_map}
use Rattle.std.proofs.lemmas.Bool.{cond-true, cond-false, false≢true, ne_eqb}
use Rattle.texts.specs.Taken.{taken_unless}
use Rattle.texts.specs.Texts.{Text}
use Rattle.lines.specs.Sheets.{content_of, head_of}
use Rattle.listing.specs.declared.refusals.Refusal.{Refusal as ListingRefusal}
use Rattle.listing.specs.Rows.{Row}
use Rattle.settings.specs.declared.refusals.Refusal.{Refusal as SettingsRefusal}
use Rattle.settings.specs.Loading.{line_refusal, offer_of}
use Rattle.settings.specs.Tables.{Tables}
use Rattle.sheets.specs.declared.refusal.Refusal.{Refusal}
use Rattle.sheets.specs.declared.refusal.Refusal.TheVariants.{Closed}
use Rattle.sheets.specs.Entries.{closed_refusal, entry_fault, entry_refusal, listing_fault, rows_with, sets, tables_with}
use Rattle.sheets.specs.Reading.{State, after_entry, leaving, telling}
use Rattle.sheets.specs.Refusals.{number}
use Rattle.sheets.specs.Tasks.{Todo, tell}

-- an entry of the settings that is refused, whatever the words
module _ {Why : Type 0} (bad_line : Why) (by_listing : ListingRefusal → Why) (by_settings : SettingsRefusal → Why) where
  in_words : (o : Option SettingsRefusal) (e : SettingsRefusal) → taken_unless o ≡ Err e → Err (by_settings e) ≡ taken_unless (option_map by_settings o)
  in_words None e h = cc
  in_words (Some r) e h = cc

  pub setting_refused : (rs : List Row) (t : Tables) (line : Text) (e : SettingsRefusal) → sets (head_of line) ≡ true → taken_unless (line_refusal t (offer_of line)) ≡ Err e
      → Err (by_settings e) ≡ taken_unless (entry_fault bad_line by_listing by_settings rs t line)
  setting_refused rs t line e is h = in_words _ e h ∙ sym (ap taken_unless (cond-true _ _ (listing_fault bad_line by_listing by_settings rs (content_of line)) is))

-- what is told of an entry once the tables are closed
pub closed_if_taken : (o : Option Refusal) → Ok tt ≡ taken_unless o → Closed ≡ closed_refusal o
closed_if_taken None h = refl
closed_if_taken (Some r) h = cc

pub closed_if_full : (o : Option Refusal) (r : Refusal) → Err r ≡ taken_unless o → number r ≡ 12 → Closed ≡ closed_refusal o
closed_if_full None r h full = cc
closed_if_full (Some s) r h full = let same : r ≡ s = cc in sym (cond-true (eqb (number s) 12) Closed s (ap (λ (n : ℕ). eqb n 12) (sym (ap number same) ∙ full)))

pub told_if_not_full : (o : Option Refusal) (r : Refusal) → Err r ≡ taken_unless o → (number r ≡ 12 → ⊥) → r ≡ closed_refusal o
told_if_not_full None r h other = cc
told_if_not_full (Some s) r h other = let same : r ≡ s = cc in same ∙ sym (cond-false (eqb (number s) 12) Closed s (ne_eqb (number s) 12 (λ e. other (ap number same ∙ e))))

-- what an entry leaves to do while the tables are open
pub tells_nothing : (o : Option Refusal) → Ok tt ≡ taken_unless o → leaving None ≡ telling o
tells_nothing None h = refl
tells_nothing (Some r) h = cc

pub tells_refusal : (o : Option Refusal) (r : Refusal) → Err r ≡ taken_unless o → leaving (Some (tell r)) ≡ telling o
tells_refusal None r h = cc
tells_refusal (Some s) r h = let same : r ≡ s = cc in ap (λ (q : Refusal). tell q ∷ []) same

pub open_entry : (rs rs' : List Row) (t t' : Tables) (closed : Bool) (done : List Todo) (line : Text) (o : Option Todo) → closed ≡ false
    → rs' ≡ rows_with rs line → t' ≡ tables_with t line → leaving o ≡ telling (entry_refusal rs t line)
    → ◌≡◌ {A = State} (record { rows = rs'; tables = t'; closed = closed; todo = done ++ leaving o }) (after_entry closed (record { rows = rs; tables = t; closed = closed; todo = done }) line)
open_entry rs rs' t t' true done line o h r u l = absurd (false≢true (sym h))
open_entry rs rs' t t' false done line o h r u l = (λ i. record { rows = r i; tables = u i; closed = false; todo = done ++ l i })
