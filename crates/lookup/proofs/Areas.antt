-- Texts in the work text stay where others are written. Assumes nothing.
use Rattle.std.proofs.Common.{◌≡◌, ℕ, suc, ◌+◌, ◌*◌, ◌-◌, ◌<◌, ◌≤◌, Bool, true, false, cond, eqb, ◌&&◌, List, [], ◌∷◌, ◌++◌, length, take, drop, ◌⊎◌, inl, inr, IsSome, MatchOption, Some, None, Option, rules, sym, refl, ap, ◌∙◌, append_assoc, arith}
use Rattle.std.proofs.lemmas.List.{drop_at, drop-drop, drop-take, length-append, length-drop, length-take, length-take-le, take_at, take-append-le, take-take}
use borrow.Rule.Slice.PartMut.{put_mid}
use Rattle.std.specs.Option.{option_map}
use Rattle.std.proofs.lemmas.Bool.{cases_lt}
use Rattle.texts.specs.declared.place.Place.{Place}
use Rattle.texts.specs.Texts.{SLASH, Text, empty, unslashed}
use Rattle.texts.specs.declared.text.Text.{Text as Held}
use Rattle.texts.specs.Held.{bytes_of}
use Rattle.texts.specs.Parts.{text_at}
use Rattle.lookup.specs.Areas.{Before, OnlyIn, placed}
use Rattle.lookup.specs.Opened.{MarkIn, MarksIn}

-- what stands in front of a byte depends on the bytes in front alone
pub text_before : (w u : List ℕ) (n : ℕ) (p : Place) → take n u ≡ take n w → Before n p → text_at u p ≡ text_at w p
text_before w u n p e h = to u ∙ ap (λ (s : List ℕ). drop p.start (take (p.start + p.len) s)) e ∙ sym (to w)
  where
    to : (s : List ℕ) → text_at s p ≡ drop p.start (take (p.start + p.len) (take n s))
    to s = sym (drop-take p.start p.len s) ∙ ap (drop p.start) (sym (take-take (p.start + p.len) n s h))

module _ (at : ℕ) (t w : List ℕ) (room : at + length t ≤ length w) where
  front : length (take at w) ≡ at
  front = length-take-le at w (omega (arith, room))

  both : length (take at w ++ t) ≡ at + length t
  both = length-append (take at w) t ∙ ap (λ (n : ℕ). n + length t) front

  parted : placed at t w ≡ take at w ++ (t ++ drop (at + length t) w)
  parted = append_assoc (take at w) t (drop (at + length t) w)

  -- writing changes no length
  pub placed_length : length (placed at t w) ≡ length w
  placed_length = omega (arith, room, length-append (take at w ++ t) (drop (at + length t) w), both, length-drop (at + length t) w)

  -- the bytes in front stay
  pub placed_before : (n : ℕ) → n ≤ at → take n (placed at t w) ≡ take n w
  placed_before n h = ap (take n) parted ∙ take-append-le n (take at w) (t ++ drop (at + length t) w) (omega (arith, front, h)) ∙ take-take n at w h

  -- a text is read where it was written
  pub placed_here : take (length t) (drop at (placed at t w)) ≡ t
  placed_here = ap (take (length t)) (ap (drop at) parted ∙ drop_at (take at w) (t ++ drop (at + length t) w) at front) ∙ take_at t (drop (at + length t) w) (length t) refl

  -- the bytes behind stay
  placed_behind : (n : ℕ) → at + length t ≤ n → drop n (placed at t w) ≡ drop n w
  placed_behind n h =
      let more : at + length t + (n - (at + length t)) ≡ n = omega (arith, h) in
      ap (λ (k : ℕ). drop k (placed at t w)) (sym more)
      ∙ sym (drop-drop (n - (at + length t)) (at + length t) (placed at t w))
      ∙ ap (drop (n - (at + length t))) (drop_at (take at w ++ t) (drop (at + length t) w) (at + length t) both)
      ∙ drop-drop (n - (at + length t)) (at + length t) w
      ∙ ap (λ (k : ℕ). drop k w) more

  pub text_behind : (p : Place) → at + length t ≤ p.start → text_at (placed at t w) p ≡ text_at w p
  text_behind p h = ap (take p.len) (placed_behind p.start h)

  pub text_in_front : (p : Place) → Before at p → text_at (placed at t w) p ≡ text_at w p
  text_in_front p h = text_before w (placed at t w) at p (placed_before at (omega arith)) h

-- a text in a unit changes nothing outside of it
pub only_there : (unit : ℕ) (t w : List ℕ) → length t ≤ 256 → 256 * unit + 256 ≤ length w → OnlyIn unit w (placed (256 * unit) t w)
only_there unit t w short room =
    let there : 256 * unit + length t ≤ length w = omega (arith, short, room) in record {
      long = placed_length (256 * unit) t w there;
      front = placed_before (256 * unit) t w there (256 * unit) (omega arith);
      behind = placed_behind (256 * unit) t w there (256 * unit + 256) (omega (arith, short));
    }

-- what stands in front of a unit, and what stands behind it, stays
pub front_stays : (unit n : ℕ) (w u : List ℕ) → OnlyIn unit w u → n ≤ 256 * unit → take n u ≡ take n w
front_stays unit n w u o h = sym (take-take n (256 * unit) u h) ∙ ap (take n) o.front ∙ take-take n (256 * unit) w h

pub text_in_front_stays : (unit : ℕ) (w u : List ℕ) (p : Place) → OnlyIn unit w u → Before (256 * unit) p → text_at u p ≡ text_at w p
text_in_front_stays unit w u p o h = text_before w u (256 * unit) p o.front h

pub text_behind_stays : (unit : ℕ) (w u : List ℕ) (p : Place) → OnlyIn unit w u → 256 * unit + 256 ≤ p.start → text_at u p ≡ text_at w p
text_behind_stays unit w u p o h =
    let more : 256 * unit + 256 + (p.start - (256 * unit + 256)) ≡ p.start = omega (arith, h) in
    let to : (s : List ℕ) → drop p.start s ≡ drop (p.start - (256 * unit + 256)) (drop (256 * unit + 256) s) =
    λ s. ap (λ (k : ℕ). drop k s) (sym more) ∙ sym (drop-drop (p.start - (256 * unit + 256)) (256 * unit + 256) s) in
    ap (take p.len) (to u ∙ ap (drop (p.start - (256 * unit + 256))) o.behind ∙ sym (to w))

-- a query or fragment stands in the first unit of a round, so it stays where a text goes to another unit of any round
pub mark_stays : (rounds n k : ℕ) (w u : List ℕ) (p : Place) → 0 < k → k < 6 → OnlyIn (2 + 6 * n + k) w u → MarkIn rounds p → text_at u p ≡ text_at w p
mark_stays rounds n k w u p low high o h = by (cases_lt n h.round)
  where
    by : (n < h.round) ⊎ (h.round ≤ n) → text_at u p ≡ text_at w p
    by (inl e) = text_behind_stays (2 + 6 * n + k) w u p o (omega (arith, h.there.0, h.there.1, e, high))
    by (inr e) = text_in_front_stays (2 + 6 * n + k) w u p o (omega (arith, h.there.0, h.there.1, e, low))

pub marks_stay : (rounds n k : ℕ) (w u : List ℕ) (p : Option Place) → 0 < k → k < 6 → OnlyIn (2 + 6 * n + k) w u → MarksIn rounds p → option_map (text_at u) p ≡ option_map (text_at w) p
marks_stay rounds n k w u None low high o h = refl
marks_stay rounds n k w u (Some p) low high o h = ap Some (mark_stays rounds n k w u p low high o h)

-- writing to a part of the work text places a text there
pub put_placed : (at n : ℕ) (t ys w : List ℕ) → ys ≡ t → n ≡ length t → put_mid at n w ys ≡ placed at t w
put_placed at n t ys w e size =
    ap (put_mid at n w) e
    ∙ sym (append_assoc (take at w) t _)
    ∙ ap (λ (s : List ℕ). (take at w ++ t) ++ s) (drop-drop n at w ∙ ap (λ (k : ℕ). drop (at + k) w) size)

-- final slashes make a text no shorter than what is left of it
pub unslashed_short : (s : Text) → length (unslashed s) ≤ length s
unslashed_short [] = omega arith
unslashed_short (b ∷ s) = by (empty (unslashed s) && eqb b SLASH) (unslashed_short s)
  where
    by : (v : Bool) → length (unslashed s) ≤ length s → length (cond v [] (b ∷ unslashed s)) ≤ suc (length s)
    by true h = omega arith
    by false h = omega (arith, h)

-- a text that is short enough can be held by value
pub text_made : {N : ℕ} (o : Option (Held N)) (s : Text) → MatchOption o (N < length s) (λ t. bytes_of t ≡ s) → length s ≤ N → IsSome o
text_made None s h l = absurd (omega (arith, h, l))
text_made (Some t) s h l = search rules

-- a text has at most the bytes of its place
pub length_text_at : (w : List ℕ) (p : Place) → length (text_at w p) ≤ p.len
length_text_at w p = omega (arith, length-take p.len (drop p.start w))

-- fewer bytes in front stay too
pub fewer_stay : (n k : ℕ) (w u : List ℕ) → take n u ≡ take n w → k ≤ n → take k u ≡ take k w
fewer_stay n k w u e h = sym (take-take k n u h) ∙ ap (take k) e ∙ take-take k n w h

-- a mark stays where a text starts a round
pub old_marks_stay : (rounds : ℕ) (w u : List ℕ) (p : Option Place) → OnlyIn (2 + 6 * rounds) w u → MarksIn rounds p → option_map (text_at u) p ≡ option_map (text_at w) p
old_marks_stay rounds w u None o h = refl
old_marks_stay rounds w u (Some p) o h = ap Some (text_in_front_stays (2 + 6 * rounds) w u p o (omega (arith, h.there.0, h.there.1, h.begun)))
