-- A line that is offered: what is returned, and the rows then. Assumes nothing.
use Rattle.std.proofs.Common.{◌≡◌, ℕ, ◌+◌, ◌<◌, ◌≤◌, Bool, true, false, cond, not, leb, ltb, List, [], ◌∷◌, ◌++◌, map, length, Some, None, Option, Ok, Err, sym, refl, ap, ◌∙◌, arith}
use Rattle.std.specs.Option.{ok_or}
use Rattle.std.proofs.lemmas.List.{length-map, map_push}
use Rattle.std.proofs.lemmas.Bool.{and_from, and_parts, cond-true, cond-false, le-leb, lt-leb, ltb-true, ltb-false, not-false}
use Rattle.texts.specs.Taken.{taken_unless}
use Rattle.texts.specs.Texts.{Text}
use Rattle.listing.specs.declared.kinds.LineKind.{LineKind}
use Rattle.listing.specs.declared.line.Line.{Line}
use Rattle.listing.specs.declared.refusals.Refusal.{Refusal}
use Rattle.listing.specs.declared.refusals.Refusal.TheVariants as refusals
use Rattle.listing.specs.Entries.{headless, new_row, refusal, refusal_by, refusal_of, rows_after, spelled, unlisted, with_row}
use Rattle.listing.specs.Kinds.{formed, line_kind}
use Rattle.listing.specs.Meanings.{Asked, fits, place, place_from}
use Rattle.listing.specs.Rows.{Row, all_fit, fit, row, row_of}
use Rattle.listing.specs.Kept.{fit_pushed, sized_short}

-- the answer and the rows, once the kind and the refusal are known
module _ (rs : List Row) (n : ℕ) (a b : Text) (o : Option LineKind) (e : Option Refusal) (kind : line_kind n ≡ o) (is : refusal_by rs o a b ≡ e) where
  known : refusal rs n a b ≡ e
  unfolding refusal
  known = ap (λ (k : Option LineKind). refusal_by rs k a b) kind ∙ is

  pub answer_is : taken_unless e ≡ taken_unless (refusal rs n a b)
  answer_is = ap taken_unless (sym known)

  pub rows_are : with_row e rs (new_row o a b) ≡ rows_after rs n a b
  unfolding rows_after
  rows_are = (λ i. with_row (sym known i) rs (new_row (sym kind i) a b))

-- the place that decides stays where it is when rows follow
pub place_before : (q : Asked) (rs new : List Row) (n i : ℕ) → place_from n q rs ≡ Some i → place_from n q (rs ++ new) ≡ Some i
place_before q [] new n i h = cc
place_before q (r ∷ rs) new n i h = at (fits q r) h (place_before q rs new (n + 1) i)
  where
    at : (v : Bool) → cond v (Some n) (place_from (n + 1) q rs) ≡ Some i → (place_from (n + 1) q rs ≡ Some i → place_from (n + 1) q (rs ++ new) ≡ Some i) → cond v (Some n) (place_from (n + 1) q (rs ++ new)) ≡ Some i
    at true e more = e
    at false e more = more e

-- a number that is none of a kind
no_kind : (o : Option LineKind) (e : Refusal) → Err e ≡ ok_or o refusals.Kind → (o ≡ None) × (Some refusals.Kind ≡ Some e)
no_kind None e h = (refl, cc)
no_kind (Some k) e h = cc

a_kind : (o : Option LineKind) (k : LineKind) → Ok k ≡ ok_or o refusals.Kind → o ≡ Some k
a_kind None k h = cc
a_kind (Some j) k h = cc

pub kind_refused : (rs : List Row) (n : ℕ) (a b : Text) (e : Refusal) → Err e ≡ ok_or (line_kind n) refusals.Kind → (Err e ≡ taken_unless (refusal rs n a b)) × (rs ≡ rows_after rs n a b)
kind_refused rs n a b e h =
    let none = no_kind (line_kind n) e h in
    (answer_is rs n a b None (Some e) none.0 none.1, rows_are rs n a b None (Some e) none.0 none.1)

-- a line that is taken passed the checks before the one for room
passed : (h t f : Bool) (r s u : Refusal) (o : Option Refusal) → Ok tt ≡ taken_unless (cond h (Some r) (cond t (Some s) (cond f (Some u) o))) → Ok tt ≡ taken_unless (cond h (Some r) (cond t (Some s) (cond f (Some u) None)))
passed true t f r s u o x = cc
passed false true f r s u o x = cc
passed false false true r s u o x = cc
passed false false false r s u o x = refl

-- a line that is refused changes nothing
pub refused_rows : (rs : List Row) (n : ℕ) (a b : Text) (e : Refusal) → Err e ≡ taken_unless (refusal rs n a b) → rs ≡ rows_after rs n a b
unfolding rows_after
refused_rows rs n a b e h = at (refusal rs n a b) h
  where
    at : (o : Option Refusal) → Err e ≡ taken_unless o → rs ≡ with_row o rs (new_row (line_kind n) a b)
    at None x = cc
    at (Some f) x = refl

-- which check fails
checked : (h t f : Bool) (r s u : Refusal) (o : Option Refusal) → ((e : Refusal) → Err e ≡ taken_unless (cond h (Some r) (cond t (Some s) (cond f (Some u) None))) → cond h (Some r) (cond t (Some s) (cond f (Some u) o)) ≡ Some e) × (Ok tt ≡ taken_unless (cond h (Some r) (cond t (Some s) (cond f (Some u) None))) → (t ≡ false) × (f ≡ false) × (cond h (Some r) (cond t (Some s) (cond f (Some u) o)) ≡ o))
checked true t f r s u o = (λ e x. cc, λ x. cc)
checked false true f r s u o = (λ e x. cc, λ x. cc)
checked false false true r s u o = (λ e x. cc, λ x. cc)
checked false false false r s u o = (λ e x. cc, λ x. (refl, refl, refl))

module _ (rs : List Row) (n : ℕ) (k : LineKind) (a b : Text) (kind : Ok k ≡ ok_or (line_kind n) refusals.Kind) where
  passes : Ok tt ≡ taken_unless (unlisted rs k a b) → (not (spelled k a b) ≡ false) × (not (formed k a b) ≡ false) × (refusal_of rs k a b ≡ cond (leb 256 (length rs)) (Some refusals.Full) None)
  passes = (checked (headless k rs) (not (spelled k a b)) (not (formed k a b)) refusals.MainBeforeManifest refusals.Text refusals.Form (cond (leb 256 (length rs)) (Some refusals.Full) None)).1

  fails : (e : Refusal) → Err e ≡ taken_unless (unlisted rs k a b) → refusal_of rs k a b ≡ Some e
  fails = (checked (headless k rs) (not (spelled k a b)) (not (formed k a b)) refusals.MainBeforeManifest refusals.Text refusals.Form (cond (leb 256 (length rs)) (Some refusals.Full) None)).0

  is_kind : line_kind n ≡ Some k
  is_kind = a_kind (line_kind n) k kind

  -- a line that is taken
  pub well_taken : Ok tt ≡ taken_unless (refusal rs n a b) → Ok tt ≡ taken_unless (unlisted rs k a b)
  well_taken h = passed (headless k rs) (not (spelled k a b)) (not (formed k a b)) refusals.MainBeforeManifest refusals.Text refusals.Form (cond (leb 256 (length rs)) (Some refusals.Full) None) (h ∙ sym (answer_is rs n a b (Some k) (refusal_of rs k a b) is_kind refl))

  pub line_refused : (e : Refusal) → Err e ≡ taken_unless (unlisted rs k a b) → (Err e ≡ taken_unless (refusal rs n a b)) × (rs ≡ rows_after rs n a b)
  line_refused e h = (answer_is rs n a b (Some k) (Some e) is_kind (fails e h), rows_are rs n a b (Some k) (Some e) is_kind (fails e h))

  module _ (well : Ok tt ≡ taken_unless (unlisted rs k a b)) where
    pub fit_row : fit (row_of k a b) ≡ true
    fit_row = let c = passes well in and_from _ _ (and_parts _ _ (not-false (spelled k a b) c.0)).0 (not-false (formed k a b) c.1)

    pub short_texts : (length a ≤ 255) × (length b ≤ 255)
    short_texts = sized_short k (length a) (length b) (and_parts _ _ fit_row).0

    -- a line that is only checked
    pub full_now : 256 ≤ length rs → Err refusals.Full ≡ taken_unless (refusal rs n a b)
    full_now h = answer_is rs n a b (Some k) (Some refusals.Full) is_kind ((passes well).2 ∙ cond-true (leb 256 (length rs)) (Some refusals.Full) None (le-leb 256 (length rs) h))

    pub room_now : length rs < 256 → Ok tt ≡ taken_unless (refusal rs n a b)
    room_now h = answer_is rs n a b (Some k) None is_kind ((passes well).2 ∙ cond-false (leb 256 (length rs)) (Some refusals.Full) None (lt-leb 256 (length rs) h))

    -- the line was put behind the others, or there was no room
    module _ (ls ms : List Line) (l : Line) (v : Bool) (before : rs ≡ map row ls) (tested : v ≡ ltb (length ls) 256) (after : ms ≡ cond v (ls ++ l ∷ []) ls) (new : row l ≡ row_of k a b) where
      rows_now : map row ms ≡ cond v (rs ++ row_of k a b ∷ []) rs
      rows_now = ap (map row) after ∙ at v
        where
          at : (w : Bool) → map row (cond w (ls ++ l ∷ []) ls) ≡ cond w (rs ++ row_of k a b ∷ []) rs
          at true = map_push row ls l ∙ (λ i. sym before i ++ new i ∷ [])
          at false = sym before

      same_length : length ls ≡ length rs
      same_length = sym (ap length before ∙ length-map ls row)

      refused_without_room : cond v None (Some refusals.Full) ≡ cond (leb 256 (length rs)) (Some refusals.Full) None
      refused_without_room = at v tested
        where
          at : (w : Bool) → w ≡ ltb (length ls) 256 → cond w None (Some refusals.Full) ≡ cond (leb 256 (length rs)) (Some refusals.Full) None
          at true e = sym (cond-false (leb 256 (length rs)) (Some refusals.Full) None (lt-leb 256 (length rs) (omega (arith, same_length, ltb-true (length ls) 256 (sym e)))))
          at false e = sym (cond-true (leb 256 (length rs)) (Some refusals.Full) None (le-leb 256 (length rs) (omega (arith, same_length, ltb-false (length ls) 256 (sym e)))))

      refusal_is : refusal_by rs (Some k) a b ≡ cond v None (Some refusals.Full)
      refusal_is = (passes well).2 ∙ sym refused_without_room

      pub answer_then : taken_unless (cond v None (Some refusals.Full)) ≡ taken_unless (refusal rs n a b)
      answer_then = answer_is rs n a b (Some k) (cond v None (Some refusals.Full)) is_kind refusal_is

      pub rows_then : map row ms ≡ rows_after rs n a b
      rows_then = rows_now ∙ at v ∙ rows_are rs n a b (Some k) (cond v None (Some refusals.Full)) is_kind refusal_is
        where
          at : (w : Bool) → cond w (rs ++ row_of k a b ∷ []) rs ≡ with_row (cond w None (Some refusals.Full)) rs (row_of k a b ∷ [])
          at true = refl
          at false = refl

      pub fit_then : all_fit rs ≡ true → all_fit (map row ms) ≡ true
      fit_then h = ap all_fit rows_now ∙ at v
        where
          at : (w : Bool) → all_fit (cond w (rs ++ row_of k a b ∷ []) rs) ≡ true
          at true = fit_pushed rs (row_of k a b) h fit_row
          at false = h

      pub places_then : (q : Asked) (i : ℕ) → place q rs ≡ Some i → place q (map row ms) ≡ Some i
      places_then q i h = ap (place q) rows_now ∙ at v
        where
          at : (w : Bool) → place q (cond w (rs ++ row_of k a b ∷ []) rs) ≡ Some i
          at true = place_before q rs (row_of k a b ∷ []) 0 i h
          at false = h
