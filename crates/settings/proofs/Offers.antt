-- What was read of a line, and what a refusal leaves. Assumes nothing.
use Rattle.std.proofs.Common.{◌≡◌, Bool, true, false, cond, Some, None, Ok, Err, Option, refl}
use Rattle.texts.specs.Taken.{taken_unless}
use Rattle.settings.specs.declared.refusals.Refusal.{Refusal}
use Rattle.settings.specs.declared.refusals.Refusal.TheVariants.{Form}
use Rattle.settings.specs.Entries.{flag_known, unless_refused}
use Rattle.settings.specs.Loading.{Offer, known}
use Rattle.settings.specs.Loading.Offer.{flag, texts}
use Rattle.settings.specs.Tables.{Tables}

-- an entry that was read is what the line offers
pub offer_read : (o : Option Offer) (x : Offer) → Ok x ≡ known o → o ≡ Some x
offer_read None x h = cc
offer_read (Some (texts k a b)) x h = cc
offer_read (Some (flag n s)) x h =
    elim (flag_known n s) as (λ (v : Bool). Ok x ≡ cond v (Ok (flag n s)) (Err Form) → Some (flag n s) ≡ Some x) [ true ↦ λ e. cc | false ↦ λ e. cc ] h

-- what is refused leaves the tables
pub left_alone : (o : Option Refusal) (e : Refusal) (before after : Tables) → Err e ≡ taken_unless o → before ≡ unless_refused o before after
left_alone None e before after h = cc
left_alone (Some r) e before after h = refl
