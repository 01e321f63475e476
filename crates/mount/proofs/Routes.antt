-- How a path is compared with the mount, part for part. Assumes nothing.
use Rattle.std.proofs.Common.{◌≡◌, ℕ, ◌≤◌, max, Bool, true, false, cond, eqb, ltb, List, [], ◌∷◌, length, get_or, drop, Some, None, sym, refl, ap, ◌∙◌, arith}
use Rattle.std.specs.Str.{bytes_eq}
use Rattle.std.proofs.lemmas.List.{length-drop}
use Rattle.std.proofs.lemmas.Bool.{cond_both}
use Rattle.texts.specs.Parts.{Mark, root, texts_of}
use Rattle.texts.specs.Scans.{rest_text}
use Rattle.texts.specs.Texts.{Text, SLASH}
use Rattle.texts.specs.Walks.{but_first, first_place, first_text}
use Rattle.texts.proofs.PartLoops.{some≢none}
use Rattle.tree.specs.Meanings.{Path}
use Rattle.mount.specs.Mounts.{stripped}

strip_on : (ms ns : List Mark) (p q : Text) → Some p ≡ first_text ms → Some q ≡ first_text ns → stripped (texts_of ms) (texts_of ns) ≡ cond (bytes_eq p q) (stripped (texts_of (but_first ms)) (texts_of (but_first ns))) None
strip_on [] ns p q e f = absurd (some≢none e)
strip_on (m ∷ ms) [] p q e f = absurd (some≢none f)
strip_on (m ∷ ms) (n ∷ ns) p q e f =
    let e' : m.0 ≡ p = cc in
    let f' : n.0 ≡ q = cc in
    λ i. cond (bytes_eq (e' i) (f' i)) (stripped (texts_of ms) (texts_of ns)) None

module _ (ms ns : List Mark) (p q : Text) (e : Some p ≡ first_text ms) (f : Some q ≡ first_text ns) (r : Bool) (tested : r ≡ bytes_eq p q) where
  pub strip_differs : r ≡ false → stripped (texts_of ms) (texts_of ns) ≡ None
  strip_differs other = strip_on ms ns p q e f ∙ ap (λ (v : Bool). cond v (stripped (texts_of (but_first ms)) (texts_of (but_first ns))) None) (sym tested ∙ other)

  pub strip_goes_on : r ≡ true → stripped (texts_of ms) (texts_of ns) ≡ stripped (texts_of (but_first ms)) (texts_of (but_first ns))
  strip_goes_on same = strip_on ms ns p q e f ∙ ap (λ (v : Bool). cond v (stripped (texts_of (but_first ms)) (texts_of (but_first ns))) None) (sym tested ∙ same)

pub strip_short : (ms ns : List Mark) (p : Text) → Some p ≡ first_text ms → None ≡ first_place ns → stripped (texts_of ms) (texts_of ns) ≡ None
strip_short [] ns p e f = absurd (some≢none e)
strip_short (m ∷ ms) [] p e f = refl
strip_short (m ∷ ms) (n ∷ ns) p e f = absurd (some≢none (sym f))

pub strip_done : (ms : List Mark) (qs : Path) → None ≡ first_place ms → stripped (texts_of ms) qs ≡ Some (root ∷ qs)
strip_done [] qs e = refl
strip_done (m ∷ ms) qs e = absurd (some≢none (sym e))

pub none_first : (ms : List Mark) → None ≡ first_place ms → length ms ≡ 0
none_first [] e = refl
none_first (m ∷ ms) e = absurd (some≢none (sym e))

pub rest_short : (t : Text) (n : ℕ) → length (rest_text t n) ≤ max 1 (length t)
rest_short t n =
    cond_both (ltb n (length t)) (cond (eqb (get_or t n 0) SLASH) (drop n t) t) root (λ (s : Text). length s ≤ max 1 (length t))
    (λ _. cond_both (eqb (get_or t n 0) SLASH) (drop n t) t (λ (s : Text). length s ≤ max 1 (length t)) (λ _. simp length-drop (omega arith)) (λ _. omega arith))
    (λ _. omega arith)
