-- What the slots of the entries show, where an entry is added or changed. Assumes nothing.
use Rattle.std.proofs.Common.{◌≡◌, ◌≢◌, ℕ, ◌<◌, List, [], ◌∷◌, ◌++◌, map, length, get_or, set, sym, ap, ◌∙◌, arith}
use Rattle.std.proofs.Math.ListN.{get_or-append}
use Rattle.std.proofs.Math.Seq.{get_or-append_seam}
use Rattle.std.proofs.lemmas.List.{get_or-set_other, get_or-set_same, length-map, map-set, map_push}
use Rattle.tree.specs.declared.answers.Kind.TheVariants.{Nothing}
use Rattle.cache.specs.declared.recent.Entry.{Entry}
use Rattle.cache.specs.Held.{in_slot, seen}
use Rattle.cache.specs.Seen.{Seen, fresh}

abbrev blank : Seen
blank = fresh [] Nothing

module _ (es : List Entry) (x : Entry) where
  -- one more entry
  pub added_here : in_slot (es ++ x ∷ []) (length es) ≡ seen x
  added_here =
      (λ k. get_or (map_push seen es x k) (sym (length-map es seen) k) blank)
      ∙ get_or-append_seam (map seen es) (seen x) [] blank

  pub added_elsewhere : (i : ℕ) → i < length es → in_slot (es ++ x ∷ []) i ≡ in_slot es i
  added_elsewhere i low =
      ap (λ (ys : List Seen). get_or ys i blank) (map_push seen es x)
      ∙ get_or-append (map seen es) (seen x ∷ []) blank i (omega (arith, length-map es seen))

  -- one entry changed
  pub changed_here : (i : ℕ) → i < length es → in_slot (set es i x) i ≡ seen x
  changed_here i low =
      ap (λ (ys : List Seen). get_or ys i blank) (map-set seen es i x)
      ∙ get_or-set_same (map seen es) i (seen x) blank (omega (arith, length-map es seen))

  pub changed_elsewhere : (i j : ℕ) → j ≢ i → in_slot (set es i x) j ≡ in_slot es j
  changed_elsewhere i j apart =
      ap (λ (ys : List Seen). get_or ys j blank) (map-set seen es i x)
      ∙ get_or-set_other (map seen es) i j (seen x) blank apart
