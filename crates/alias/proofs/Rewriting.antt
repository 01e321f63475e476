-- Where lies what is made of a request. Assumes nothing.
use Rattle.std.proofs.Common.{◌≡◌, ℕ, Bool, true, false, cond, not, ◌||◌, eqb, [], ◌∷◌, ◌++◌, ◌≤◌, length, Some, None, Option, Ok, Err, drop, take, List, leb, arith, sym, refl, ap, subst, ◌∙◌}
use Rattle.std.proofs.Math.Seq.{take-append_seam}
use Rattle.std.proofs.lemmas.List.{append-nil}
use Rattle.std.proofs.lemmas.Bool.{leb-true, not_from_false, or_parts, le-leb}
use Rattle.texts.specs.Texts.{Text, SLASH, buffer_with, fits, fronted, has, length_in}
use Rattle.texts.specs.Parts.{clean, parts}
use Rattle.paths.specs.Joins.{climbs, join, joined, joins, normalize, relative}
use Rattle.paths.proofs.JoinLaws.{join_below, join_fits, normalize_clean}
use Rattle.tree.specs.Meanings.{Meaning, is_file}
use Rattle.alias.specs.Answers.{held_request, new_request, text_made, told}
use Rattle.alias.specs.declared.rewrite.NewRequest.TheVariants.{Made}
use Rattle.alias.specs.Attempts.{Attempt, ignored, ignoring, overlong}
use Rattle.alias.specs.Forms.{BACKSLASH, STAR, Form, before_star, behind, behind_star, exact, form, goes_on, key, plain, wildcard}
use Rattle.alias.specs.Laws.{LiesBelow, is_plain}
use Rattle.alias.specs.Rewrites.{Rewritten, ahead, as_written, by_suffix, continued, continued_if, fitting, form_rewrites, made, returns_to, rewritten, skipped, starred, starred_if, tailed_normal, too_long, trimmed}
use Rattle.alias.proofs.Touching.{behind_there, plain_form}

-- what stands behind leading slashes is relative
trimmed_relative : (t u : Text) (c : ℕ) → trimmed t ≡ c ∷ u → relative (c ∷ u) ≡ true
trimmed_relative [] u c e = absurd (let h : [] ≡ c ∷ u = e in cc)
trimmed_relative (b ∷ t) u c e = at (goes_on (b ∷ t)) refl e (trimmed_relative t u c)
  where
    slash_first : (x : Bool) → (x || eqb b BACKSLASH) ≡ false → not x ≡ true
    slash_first x f = not_from_false x (or_parts x (eqb b BACKSLASH) f).0

    at : (g : Bool) → goes_on (b ∷ t) ≡ g → cond g (trimmed t) (b ∷ t) ≡ c ∷ u → (trimmed t ≡ c ∷ u → relative (c ∷ u) ≡ true) → relative (c ∷ u) ≡ true
    at true g f ih = ih f
    at false g f ih = ap relative (sym f) ∙ slash_first (eqb b SLASH) g

some_is : {x y : Text} → Some x ≡ Some y → x ≡ y
some_is e = cc

module _ (m : Meaning) (l v r tail : Text) (p : is_plain l ≡ true) (c : clean v ≡ true) (is : r ≡ l ++ tail) (low : climbs (parts (trimmed tail)) ≡ false) where
  itself : (t : Text) → Some v ≡ Some t → LiesBelow v t
  itself t e = ([], ap parts (sym (some_is e)) ∙ sym (append-nil (parts v)))

  tailed_below : (u t : Text) → trimmed tail ≡ u → new_request v (tailed_normal (normalize v) u) ≡ Some t → LiesBelow v t
  tailed_below [] t f e = itself t e
  tailed_below (b ∷ u) t f e = at (joins (normalize v) (b ∷ u)) e
    where
      n : normalize v ≡ v
      n = normalize_clean v c

      at : (j : Bool) → new_request v (cond j (made (join (normalize v) (b ∷ u))) too_long) ≡ Some t → LiesBelow v t
      at false g = absurd (let h : None ≡ Some t = g in cc)
      at true g =
          let b_low = join_below v (b ∷ u) c (trimmed_relative tail u b f) (ap (λ (s : Text). climbs (parts s)) (sym f) ∙ low) in
          (b_low.0, ap parts (sym (some_is g) ∙ ap (λ (s : Text). join s (b ∷ u)) n) ∙ b_low.1)

  continued_below : (s t : Text) → tail ≡ s → new_request v (continued m v s) ≡ Some t → LiesBelow v t
  continued_below [] t f e = itself t e
  continued_below (b ∷ s) t f e = at (is_file (m.kind (parts (normalize v)))) e
    where
      at : (k : Bool) → new_request v (cond k skipped (tailed_normal (normalize v) (trimmed (b ∷ s)))) ≡ Some t → LiesBelow v t
      at true g = absurd (let h : None ≡ Some t = g in cc)
      at false g = tailed_below (trimmed (b ∷ s)) t (ap trimmed f) g

  pub lies_below : (t : Text) → new_request v (rewritten m l v r) ≡ Some t → LiesBelow v t
  unfolding rewritten
  lies_below t e = at (returns_to v r) (ap (λ (f : Form). form_rewrites m f v r) (plain_form l p) ∙ ap (continued_if m v) (behind_there l r tail is)) e
    where
      at : (b : Bool) → form_rewrites m (form l) v r ≡ continued m v tail → new_request v (cond b skipped (form_rewrites m (form l) v r)) ≡ Some t → LiesBelow v t
      at true f g = absurd (let h : None ≡ Some t = g in cc)
      at false f g = continued_below tail t refl (ap (new_request v) (sym f) ∙ g)

-- a text that is made has at most 255 bytes
abbrev pub Short : Rewritten → Type 0
Short x = (t : Text) → text_made x ≡ Some t → length t ≤ 255

nothing_made : {t : Text} → None ≡ Some t → length t ≤ 255
nothing_made e = absurd (let h : None ≡ Some _ = e in cc)

short_if : (b : Bool) (s : Text) → (b ≡ true → length s ≤ 255) → Short (cond b (made s) too_long)
short_if true s h = λ t e. subst (λ (u : Text). length u ≤ 255) (some_is e) (h refl)
short_if false s h = λ t e. nothing_made e

short_unless : (b : Bool) (x : Rewritten) → Short x → Short (cond b skipped x)
short_unless true x h = λ t e. nothing_made e
short_unless false x h = h

short_starred : (v middle : Text) → Short (starred v middle)
short_starred v middle = at (has STAR v)
  where
    at : (b : Bool) → Short (cond b (fitting (before_star v ++ (middle ++ behind_star v))) as_written)
    at true = short_if _ _ (λ e. leb-true _ _ e)
    at false = λ t e. nothing_made e

short_starred_if : (v : Text) (middle : Option Text) → Short (starred_if v middle)
short_starred_if v None = λ t e. nothing_made e
short_starred_if v (Some middle) = short_starred v middle

short_by_suffix : (v suffix : Text) (rest : Option Text) → Short (by_suffix v suffix rest)
short_by_suffix v suffix None = λ t e. nothing_made e
short_by_suffix v suffix (Some rest) = short_starred_if v (ahead suffix rest)

short_tailed : (n tail : Text) → Short (tailed_normal n tail)
short_tailed n [] = λ t e. nothing_made e
short_tailed n (b ∷ tail) = short_if (joins n (b ∷ tail)) (join n (b ∷ tail)) (join_fits n (b ∷ tail))

short_continued : (m : Meaning) (v : Text) (tail : Option Text) → Short (continued_if m v tail)
short_continued m v None = λ t e. nothing_made e
short_continued m v (Some []) = λ t e. nothing_made e
short_continued m v (Some (b ∷ tail)) = short_unless (is_file (m.kind (parts (normalize v)))) _ (short_tailed (normalize v) (trimmed (b ∷ tail)))

short_by_form : (m : Meaning) (f : Form) (v r : Text) → Short (form_rewrites m f v r)
short_by_form m (exact k) v r = λ t e. nothing_made e
short_by_form m (wildcard prefix suffix) v r = short_by_suffix v suffix (behind prefix r)
short_by_form m (plain k) v r = short_continued m v (behind k r)

made_short : (m : Meaning) (l v r : Text) → Short (rewritten m l v r)
unfolding rewritten
made_short m l v r = short_unless (returns_to v r) (form_rewrites m (form l) v r) (short_by_form m (form l) v r)

-- the path of an ignored request, at the front of a work text
abbrev pub path_said : Option ℕ → List ℕ → Attempt
path_said None work = overlong
path_said (Some n) work = ignored (take n work)

-- what has at most 255 bytes goes into a work text with room for any text
module _ (work : List ℕ) (room : 255 ≤ length work) where
  goes_in : (t : Text) → length t ≤ 255 → leb (length t) (length work) ≡ true
  goes_in t h = le-leb _ _ (omega (arith, h, room))

  held : (v : Text) (x : Rewritten) → Short x → held_request (told x (length work)) v (buffer_with (text_made x) work) ≡ new_request v x
  held v skipped h = refl
  held v as_written h = refl
  held v too_long h = refl
  held v (made t) h =
      (λ k. held_request (cond (goes_in t (h t refl) k) (Ok (Some (Made (length t)))) (Err (record {}))) v (cond (goes_in t (h t refl) k) (fronted t work) work))
      ∙ ap Some (take-append_seam t (drop (length t) work))

  pub request_held : (m : Meaning) (l v r : Text) → held_request (told (rewritten m l v r) (length work)) v (buffer_with (text_made (rewritten m l v r)) work) ≡ new_request v (rewritten m l v r)
  request_held m l v r = held v (rewritten m l v r) (made_short m l v r)

  pub path_held : (dir l : Text) → path_said (length_in (joined dir (key l)) (length work)) (buffer_with (joined dir (key l)) work) ≡ ignoring dir l
  path_held dir l = at (joins dir (key l)) refl
    where
      t : Text
      t = join dir (key l)

      at : (b : Bool) → joins dir (key l) ≡ b → path_said (length_in (cond b (Some t) None) (length work)) (buffer_with (cond b (Some t) None) work) ≡ cond b (ignored t) overlong
      at false e = refl
      at true e =
          (λ k. path_said (cond (goes_in t (join_fits dir (key l) e) k) (Some (length t)) None) (cond (goes_in t (join_fits dir (key l) e) k) (fronted t work) work))
          ∙ ap ignored (take-append_seam t (drop (length t) work))
