-- What every kept row has, and what it gives the meaning of a listing. Assumes nothing.
use Rattle.std.specs.Prelude.{◌≡◌, ℕ, ◌+◌, ◌≤◌, Bool, true, false, cond, ◌&&◌, List, [], ◌∷◌, ◌++◌, length, ◌==◌, nat_le, refl}
use Rattle.std.proofs.Common.{sym, ap, ◌∙◌, arith}
use Rattle.std.specs.List.{AllByRecursion}
use Rattle.std.proofs.lemmas.Bool.{and_from, and_parts, cond-false, eqb-true, false≢true, leb-true}
use Rattle.texts.specs.Texts.{Text, SLASH, begins}
use Rattle.texts.specs.Parts.{clean, parts, pieces, same_parts, written}
use Rattle.texts.proofs.CleanPaths.{clean_names, clean_written}
use Rattle.tree.specs.Meanings.{FoundWell, Proper, mains}
use Rattle.listing.specs.declared.kinds.LineKind.{LineKind}
use Rattle.listing.specs.declared.kinds.LineKind.TheVariants.{File, Directory, BrokenManifest, Manifest, Main, Package, Hash}
use Rattle.listing.specs.Kinds.{formed, sized}
use Rattle.listing.specs.Meanings.{Asked, deciding, finding_by, fits, kind_at, kind_by, listed, lists_kind, mains_behind, mains_with, manifest_at, manifest_by, manifest_listed, path_listed, way_of}
use Rattle.listing.specs.Rows.{Row, all_fit, fit}

-- the texts of a row that fits
pub sized_short : (k : LineKind) (a b : ℕ) → sized k a b ≡ true → (a ≤ 255) × (b ≤ 255)
sized_short k a b h = by_kind k h
  where
    path : (nat_le a 255 && b == 0) ≡ true → (a ≤ 255) × (b ≤ 255)
    path e = let p = and_parts (nat_le a 255) (b == 0) e in (leb-true a 255 p.0, omega (arith, eqb-true b 0 p.1))

    request : (nat_le 1 a && (nat_le a 96 && nat_le b 255)) ≡ true → (a ≤ 255) × (b ≤ 255)
    request e =
        let p = and_parts (nat_le 1 a) (nat_le a 96 && nat_le b 255) e in
        let q = and_parts (nat_le a 96) (nat_le b 255) p.1 in
        (omega (arith, leb-true a 96 q.0), leb-true b 255 q.1)

    by_kind : (j : LineKind) → sized j a b ≡ true → (a ≤ 255) × (b ≤ 255)
    by_kind File e = path e
    by_kind Directory e = path e
    by_kind BrokenManifest e = path e
    by_kind Manifest e = path e
    by_kind Main e = let p = and_parts (nat_le a 32) (b == 0) e in (omega (arith, leb-true a 32 p.0), omega (arith, eqb-true b 0 p.1))
    by_kind Package e = request e
    by_kind Hash e = request e

pub fit_pushed : (rs : List Row) (r : Row) → all_fit rs ≡ true → fit r ≡ true → all_fit (rs ++ r ∷ []) ≡ true
fit_pushed [] r h e = and_from _ _ e refl
fit_pushed (x ∷ rs) r h e = let p = and_parts (fit x) (all_fit rs) h in and_from _ _ p.0 (fit_pushed rs r p.1 e)

fit_decides : (q : Asked) (rs : List Row) → all_fit rs ≡ true → all_fit (deciding q rs) ≡ true
fit_decides q [] h = refl
fit_decides q (r ∷ rs) h = at (fits q r) (fit_decides q rs (and_parts (fit r) (all_fit rs) h).1)
  where
    at : (v : Bool) → all_fit (deciding q rs) ≡ true → all_fit (cond v (r ∷ rs) (deciding q rs)) ≡ true
    at true e = h
    at false e = e

-- the empty list of parts
unclean_nothing : clean [] ≡ false
unfolding clean pieces
unclean_nothing = refl

clean_somewhere : (t : Text) → clean t ≡ true → same_parts (parts t) [] ≡ false
clean_somewhere t h = at (parts t) refl
  where
    at : (ps : List Text) → parts t ≡ ps → same_parts ps [] ≡ false
    at [] e = absurd (false≢true (sym unclean_nothing ∙ ap clean (sym (ap written e) ∙ clean_written t h) ∙ h))
    at (p ∷ ps) e = refl

no_kind_nowhere : (k : LineKind) (a b : Text) → formed k a b ≡ true → (lists_kind k && same_parts (parts a) []) ≡ false
no_kind_nowhere File a b h = clean_somewhere a h
no_kind_nowhere Directory a b h = clean_somewhere a h
no_kind_nowhere BrokenManifest a b h = refl
no_kind_nowhere Manifest a b h = refl
no_kind_nowhere Main a b h = refl
no_kind_nowhere Package a b h = refl
no_kind_nowhere Hash a b h = refl

nothing_nowhere : (rs : List Row) → all_fit rs ≡ true → deciding (kind_at []) rs ≡ []
nothing_nowhere [] h = refl
nothing_nowhere (r ∷ rs) h =
    let p = and_parts (fit r) (all_fit rs) h in
    cond-false _ _ _ (no_kind_nowhere r.kind r.first r.second (and_parts _ _ p.0).1) ∙ nothing_nowhere rs p.1

-- main texts
with_few : (k : LineKind) (t : Text) (ts : List Text) (n : ℕ) → length ts ≤ n → length (mains_with k t ts) ≤ n + 1
with_few File t ts n h = omega arith
with_few Directory t ts n h = omega arith
with_few BrokenManifest t ts n h = omega arith
with_few Manifest t ts n h = omega arith
with_few Main t ts n h = omega arith
with_few Package t ts n h = omega arith
with_few Hash t ts n h = omega arith

behind_few : (rs : List Row) → length (mains_behind rs) ≤ length rs
behind_few [] = omega arith
behind_few (r ∷ rs) = let h = with_few r.kind r.first (mains_behind rs) (length rs) (behind_few rs) in omega arith

decides_few : (q : Asked) (rs : List Row) → length (deciding q rs) ≤ length rs
decides_few q [] = omega arith
decides_few q (r ∷ rs) = at (fits q r) (decides_few q rs)
  where
    at : (v : Bool) → length (deciding q rs) ≤ length rs → length (cond v (r ∷ rs) (deciding q rs)) ≤ length (r ∷ rs)
    at true e = omega arith
    at false e = omega arith

-- a manifest has the main texts behind it, or none
listed_mains : (P : List Text → Type 0) (k : LineKind) (ts : List Text) → P [] → P ts → P (mains (manifest_listed k ts))
listed_mains P File ts none some = none
listed_mains P Directory ts none some = none
listed_mains P BrokenManifest ts none some = none
listed_mains P Manifest ts none some = some
listed_mains P Main ts none some = none
listed_mains P Package ts none some = none
listed_mains P Hash ts none some = none

few_by : (ds : List Row) → length ds ≤ 256 → length (mains (manifest_by ds)) ≤ 255
few_by [] h = omega arith
few_by (r ∷ rs) h = listed_mains (λ ts. length ts ≤ 255) r.kind (mains_behind rs) (omega arith) (omega (arith, behind_few rs))

with_short : (k : LineKind) (t u : Text) (ts : List Text) → sized k (length t) (length u) ≡ true → AllByRecursion (λ s. length s ≤ 32) ts → AllByRecursion (λ s. length s ≤ 32) (mains_with k t ts)
with_short File t u ts e h = h
with_short Directory t u ts e h = h
with_short BrokenManifest t u ts e h = h
with_short Manifest t u ts e h = tt
with_short Main t u ts e h = (leb-true (length t) 32 (and_parts (nat_le (length t) 32) (length u == 0) e).0, h)
with_short Package t u ts e h = h
with_short Hash t u ts e h = h

behind_short : (rs : List Row) → all_fit rs ≡ true → AllByRecursion (λ s. length s ≤ 32) (mains_behind rs)
behind_short [] h = tt
behind_short (r ∷ rs) h =
    let p = and_parts (fit r) (all_fit rs) h in
    with_short r.kind r.first r.second (mains_behind rs) (and_parts _ _ p.0).0 (behind_short rs p.1)

short_by : (ds : List Row) → all_fit ds ≡ true → AllByRecursion (λ s. length s ≤ 32) (mains (manifest_by ds))
short_by [] h = tt
short_by (r ∷ rs) h = listed_mains (AllByRecursion (λ s. length s ≤ 32)) r.kind (mains_behind rs) tt (behind_short rs (and_parts (fit r) (all_fit rs) h).1)

-- found paths
clean_begins : (t : Text) → clean t ≡ true → begins SLASH t ≡ true
clean_begins t h = ap (begins SLASH) (clean_names t h).2

path_well : (k : LineKind) (a b : Text) → sized k (length a) (length b) ≡ true → formed k a b ≡ true → FoundWell (path_listed b)
path_well k a [] s f = tt
path_well k a (x ∷ b) s f = (clean_begins (x ∷ b) (by_kind k s f), (sized_short k (length a) (length (x ∷ b)) s).1)
  where
    never : (v : Bool) → (v && length (x ∷ b) == 0) ≡ true → clean (x ∷ b) ≡ true
    never v e = absurd (omega (arith, eqb-true (length (x ∷ b)) 0 (and_parts v (length (x ∷ b) == 0) e).1))

    by_kind : (j : LineKind) → sized j (length a) (length (x ∷ b)) ≡ true → formed j a (x ∷ b) ≡ true → clean (x ∷ b) ≡ true
    by_kind File e c = never _ e
    by_kind Directory e c = never _ e
    by_kind BrokenManifest e c = never _ e
    by_kind Manifest e c = never _ e
    by_kind Main e c = never _ e
    by_kind Package e c = c
    by_kind Hash e c = c

well_by : (ds : List Row) → all_fit ds ≡ true → FoundWell (finding_by ds)
well_by [] h = tt
well_by (r ∷ rs) h =
    let e = and_parts _ _ (and_parts (fit r) (all_fit rs) h).0 in
    path_well r.kind r.first r.second e.0 e.1

pub listed_proper : (rs : List Row) → length rs ≤ 256 → all_fit rs ≡ true → Proper (listed rs)
listed_proper rs few h = record {
  nowhere = ap kind_by (nothing_nowhere rs h);
  few_mains = λ p. few_by (deciding (manifest_at p) rs) (omega (arith, decides_few (manifest_at p) rs));
  short_mains = λ p. short_by (deciding (manifest_at p) rs) (fit_decides (manifest_at p) rs h);
  found_well = λ w q d. well_by (deciding (way_of w q) rs) (fit_decides (way_of w q) rs h);
}
