-- Searches among the lines of a listing, in the library's words. Assumes nothing.
use Rattle.std.proofs.Common.{◌≡◌, ℕ, zero, suc, ◌+◌, ◌-◌, ◌<◌, ◌≤◌, Bool, true, false, cond, not, ◌||◌, List, [], ◌∷◌, map, length, take, drop, Some, None, Option, MatchOption, sym, refl, ap, ◌∙◌, arith}
use Rattle.std.specs.List.{filter, list_any, position_from, prefix_len, slice_get}
use Rattle.std.proofs.lemmas.List.Recursion.{same_from_clauses}
use Rattle.stack.specs.Items.{item_at}
use Rattle.texts.specs.Held.{bytes_of}
use Rattle.texts.specs.Texts.{Text}
use Rattle.listing.specs.declared.kinds.LineKind.{LineKind}
use Rattle.listing.specs.declared.kinds.LineKind.TheVariants.{File, Directory, BrokenManifest, Manifest, Main, Package, Hash}
use Rattle.listing.specs.declared.line.Line.{Line}
use Rattle.listing.specs.Entries.{has_manifest}
use Rattle.listing.specs.Meanings.{Asked, DecidesAt, deciding, fits, mains_behind, mains_with, place, place_from}
use Rattle.listing.specs.Rows.{Row, is_main, is_manifest, row}

or_cond : (a b : Bool) → (a || b) ≡ cond a true b
or_cond true b = refl
or_cond false b = refl

pub manifest_among : (ls : List Line) → list_any (λ l. is_manifest l.kind) ls ≡ has_manifest (map row ls)
manifest_among ls = same_from_clauses (list_any (λ l. is_manifest l.kind)) (λ ms. has_manifest (map row ms)) (λ l b. is_manifest l.kind || b) refl (λ _ _. refl) (λ l ms. sym (or_cond (is_manifest l.kind) (has_manifest (map row ms)))) ls

-- the first row that fits
pub place_is : (q : Asked) (n : ℕ) (ls : List Line) → position_from (λ l. fits q (row l)) n ls ≡ place_from n q (map row ls)
place_is q n [] = refl
place_is q n (l ∷ ls) = ap (cond (fits q (row l)) (Some n)) (place_is q (n + 1) ls)

decides_from : (q : Asked) (n : ℕ) (rs : List Row) → MatchOption (place_from n q rs) (deciding q rs ≡ []) (λ i. (n ≤ i) × (i - n < length rs) × (deciding q rs ≡ drop (i - n) rs))
decides_from q n [] = refl
decides_from q n (r ∷ rs) = at (fits q r) (decides_from q (n + 1) rs)
  where
    later : (o : Option ℕ) → MatchOption o (deciding q rs ≡ []) (λ i. (n + 1 ≤ i) × (i - (n + 1) < length rs) × (deciding q rs ≡ drop (i - (n + 1)) rs)) → MatchOption o (deciding q rs ≡ []) (λ i. (n ≤ i) × (i - n < length (r ∷ rs)) × (deciding q rs ≡ drop (i - n) (r ∷ rs)))
    later None h = h
    later (Some i) h =
        let low : n + 1 ≤ i = h.0 in
        let next : suc (i - (n + 1)) ≡ i - n = omega arith in
        (omega arith, omega (arith, h.1), h.2 ∙ ap (λ (k : ℕ). drop k (r ∷ rs)) next)

    at : (v : Bool) → MatchOption (place_from (n + 1) q rs) (deciding q rs ≡ []) (λ i. (n + 1 ≤ i) × (i - (n + 1) < length rs) × (deciding q rs ≡ drop (i - (n + 1)) rs)) → MatchOption (cond v (Some n) (place_from (n + 1) q rs)) (cond v (r ∷ rs) (deciding q rs) ≡ []) (λ i. (n ≤ i) × (i - n < length (r ∷ rs)) × (cond v (r ∷ rs) (deciding q rs) ≡ drop (i - n) (r ∷ rs)))
    at true h = let none : 0 ≡ n - n = omega arith in (omega arith, omega arith, ap (λ (k : ℕ). drop k (r ∷ rs)) none)
    at false h = later (place_from (n + 1) q rs) h

pub decides_there : (q : Asked) (rs : List Row) → MatchOption (place q rs) (deciding q rs ≡ []) (DecidesAt q rs)
decides_there q rs = at (place q rs) (decides_from q 0 rs)
  where
    at : (o : Option ℕ) → MatchOption o (deciding q rs ≡ []) (λ i. (0 ≤ i) × (i - 0 < length rs) × (deciding q rs ≡ drop (i - 0) rs)) → MatchOption o (deciding q rs ≡ []) (DecidesAt q rs)
    at None h = h
    at (Some i) h = let same : i - 0 ≡ i = omega arith in (omega (arith, h.1), h.2 ∙ ap (λ (k : ℕ). drop k rs) same)

-- the lines with the main texts of a manifest, by the lines behind it
abbrev pub main_lines : List Line → List Line
main_lines ls = filter (λ l. is_main l.kind) (take (prefix_len (λ l. not (is_manifest l.kind)) ls) ls)

module _ (l : Line) (ls : List Line) where
  first_line : main_lines (l ∷ ls) ≡ cond (not (is_manifest l.kind)) (cond (is_main l.kind) (l ∷ main_lines ls) (main_lines ls)) []
  first_line = at (not (is_manifest l.kind))
    where
      at : (v : Bool) → filter (λ m. is_main m.kind) (take (cond v (1 + prefix_len (λ m. not (is_manifest m.kind)) ls) 0) (l ∷ ls)) ≡ cond v (cond (is_main l.kind) (l ∷ main_lines ls) (main_lines ls)) []
      at true = let one : 1 + prefix_len (λ m. not (is_manifest m.kind)) ls ≡ suc (prefix_len (λ m. not (is_manifest m.kind)) ls) = omega arith in ap (λ (n : ℕ). filter (λ m. is_main m.kind) (take n (l ∷ ls))) one
      at false = refl

pub mains_are : (ls : List Line) → map (λ l. bytes_of l.first) (main_lines ls) ≡ mains_behind (map row ls)
mains_are [] = refl
mains_are (l ∷ ls) = ap (map (λ m. bytes_of m.first)) (first_line l ls) ∙ by_kind l.kind (mains_are ls)
  where
    by_kind : (k : LineKind) → map (λ m. bytes_of m.first) (main_lines ls) ≡ mains_behind (map row ls) → map (λ m. bytes_of m.first) (cond (not (is_manifest k)) (cond (is_main k) (l ∷ main_lines ls) (main_lines ls)) []) ≡ mains_with k (bytes_of l.first) (mains_behind (map row ls))
    by_kind File h = h
    by_kind Directory h = h
    by_kind BrokenManifest h = h
    by_kind Manifest h = refl
    by_kind Main h = ap (λ (ts : List Text). bytes_of l.first ∷ ts) h
    by_kind Package h = h
    by_kind Hash h = h

pub item_is : {X : Type 0} (xs : List X) (i : ℕ) → slice_get xs i ≡ item_at xs i
item_is [] i = refl
item_is (x ∷ xs) zero = refl
item_is (x ∷ xs) (suc i) = item_is xs i
