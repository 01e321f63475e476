-- What a search among the rows of a listing finds. Assumes nothing.
use Rattle.std.specs.Prelude.{◌≡◌, ℕ, ◌+◌, ◌<◌, ◌≤◌, true, false, List, [], ◌∷◌, length, get_or, drop, Some, slice_index_or}
use Rattle.std.proofs.Common.{sym, ap, ◌∙◌, arith}
use Rattle.std.proofs.lemmas.List.{drop_all, drop_more, get_or-map, get_or-take, length-map, length-take-le}
use Rattle.std.proofs.lemmas.Bool.{cond-true, cond-false}
use Rattle.stack.specs.Held.{held}
use Rattle.tree.specs.Meanings.{mains}
use Rattle.listing.specs.declared.kinds.LineKind.{LineKind}
use Rattle.listing.specs.declared.kinds.LineKind.TheVariants.{Manifest}
use Rattle.listing.specs.declared.line.Line.{Line}
use Rattle.listing.specs.declared.listing.Listing.{Listing}
use Rattle.listing.specs.Entries.{has_manifest, rows}
use Rattle.listing.specs.Meanings.{Asked, deciding, fits, mains_behind, manifest_by, manifest_listed, place_from}
use Rattle.listing.specs.Rows.{Row, is_manifest, row}

pub length_rows : (s : Listing) → length (rows s) ≡ s.lines.len
length_rows s = length-map (held s.lines) row ∙ length-take-le s.lines.len s.lines.slots (omega (arith, s.lines.whole, s.lines.within))

pub few_lines : (s : Listing) → length (rows s) ≤ 256
few_lines s = omega (arith, length_rows s, s.lines.within)

pub counted : (s : Listing) (i : ℕ) → i < length (rows s) → i < s.lines.len
counted s i h = omega (arith, length_rows s)

-- the line at i, as the list of rows has it
pub row_at : (s : Listing) (i : ℕ) (d : Line) → i < s.lines.len → drop i (rows s) ≡ row (slice_index_or s.lines.slots i d) ∷ drop (i + 1) (rows s)
row_at s i d low =
    let many = length_rows s in
    let long : i < length (rows s) = omega arith in
    let few : i < length (held s.lines) = omega (arith, length-take-le s.lines.len s.lines.slots (omega (arith, s.lines.whole, s.lines.within))) in
    let at : get_or (rows s) i (row d) ≡ row (slice_index_or s.lines.slots i d) = get_or-map row (held s.lines) i d (row d) few ∙ ap row (get_or-take s.lines.len s.lines.slots i d low) in
    drop_more (rows s) i (row d) long ∙ ap (λ (r : Row). r ∷ drop (i + 1) (rows s)) at

pub none_left : (s : Listing) (i : ℕ) → s.lines.len ≤ i → drop i (rows s) ≡ []
none_left s i end = drop_all i (rows s) (omega (arith, length_rows s))

-- a search that has come to i, where r stands
module _ (rs : List Row) (i : ℕ) (r : Row) (step : drop i rs ≡ r ∷ drop (i + 1) rs) where
  module _ (q : Asked) where
    pub fits_there : (n : ℕ) → fits q r ≡ true → (place_from n q (drop i rs) ≡ Some n) × (deciding q (drop i rs) ≡ drop i rs)
    fits_there n h = (ap (place_from n q) step ∙ cond-true _ _ _ h, ap (deciding q) step ∙ cond-true _ _ _ h ∙ sym step)

    pub fits_later : (n : ℕ) → fits q r ≡ false → (place_from n q (drop i rs) ≡ place_from (n + 1) q (drop (i + 1) rs)) × (deciding q (drop i rs) ≡ deciding q (drop (i + 1) rs))
    fits_later n h = (ap (place_from n q) step ∙ cond-false _ _ _ h, ap (deciding q) step ∙ cond-false _ _ _ h)

  pub manifest_there : is_manifest r.kind ≡ true → has_manifest (drop i rs) ≡ true
  manifest_there h = ap has_manifest step ∙ cond-true _ _ _ h

  pub manifest_later : is_manifest r.kind ≡ false → has_manifest (drop i rs) ≡ has_manifest (drop (i + 1) rs)
  manifest_later h = ap has_manifest step ∙ cond-false _ _ _ h

-- the main texts of the manifest that decides
pub mains_decided : (q : Asked) (rs : List Row) (i : ℕ) (r : Row) → deciding q rs ≡ drop i rs → drop i rs ≡ r ∷ drop (i + 1) rs → r.kind ≡ Manifest → mains_behind (drop (i + 1) rs) ≡ mains (manifest_by (deciding q rs))
mains_decided q rs i r decides step kind =
    sym (ap (λ (ds : List Row). mains (manifest_by ds)) (decides ∙ step) ∙ ap (λ (k : LineKind). mains (manifest_listed k (mains_behind (drop (i + 1) rs)))) kind)
