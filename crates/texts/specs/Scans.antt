-- A scan over the parts of a text: where it may stand, and which parts are left from there. Assumes nothing.
use Rattle.std.specs.Prelude.{◌≡◌, ℕ, ◌+◌, ◌<◌, ◌≤◌, Bool, true, cond, ◌&&◌, ◌||◌, List, ◌∷◌, length, drop, ◌==◌, nat_le, nat_lt, slice_index}
use Rattle.texts.specs.declared.place.Place.{Place}
use Rattle.texts.specs.Texts.{Text, SLASH}
use Rattle.texts.specs.Parts.{Mark, root, pieces, placed, inner, marks, text_at}

-- the parts from a place on: all from 0, else those behind a slash
abbrev pub marks_left : Text → ℕ → List Mark
marks_left t at = cond (at == 0) (marks t) (inner (placed at (pieces (drop at t))))

-- a scan stands at the text's start or end, at a slash, or behind the root
abbrev pub stands : Text → ℕ → Bool
stands t at = nat_le at (length t) && (at == 0 || (at == length t || (slice_index t at == SLASH || (at == 1 && slice_index t 0 == SLASH))))

-- the next part from `at` on stands at the place p
pub record Next (t : Text) (at : ℕ) (p : Place) : Type 0 where
  pub low : at ≤ p.start
  pub some : 0 < p.len
  pub stop : stands t (p.start + p.len) ≡ true
  pub is : marks_left t at ≡ (text_at t p, p.start + p.len) ∷ marks_left t (p.start + p.len)

-- what stands behind a part that ended at n, as a path of its own: from its slash on, the root if nothing is left, and the whole text behind the root
abbrev pub rest_text : Text → ℕ → Text
rest_text t n = cond (nat_lt n (length t)) (cond (slice_index t n == SLASH) (drop n t) t) root
