-- Paths spelled by their names: the pieces and parts of such a text. Assumes nothing.
use Rattle.std.proofs.Common.{◌≡◌, ℕ, ◌+◌, ◌<◌, Bool, true, false, cond, eqb, List, [], ◌∷◌, ◌++◌, length, sym, refl, ap, ◌∙◌, arith}
use Rattle.std.specs.List.{AllByRecursion}
use Rattle.std.proofs.lemmas.Bool.{and_parts, cond-true, cond-false, eqb-true, false≢true, true≢false}
use Rattle.texts.specs.Texts.{Text, SLASH, empty, has}
use Rattle.texts.specs.Parts.{Mark, root, pieces, before, solid, named, placed, inner, headed, marks, texts_of, slash_between}
use Rattle.texts.proofs.Scans.{pieces_slash, pieces_split}

pub either_false : (v w : Bool) → cond v true w ≡ false → (v ≡ false) × (w ≡ false)
either_false true w h = absurd (true≢false h)
either_false false w h = (refl, h)

-- a text without a slash
abbrev pub Free : Text → Type 0
Free p = has SLASH p ≡ false

pub free_first : (b : ℕ) (p : Text) → Free (b ∷ p) → eqb b SLASH ≡ false
free_first b p h = (either_false (eqb b SLASH) (has SLASH p) h).0

-- a name that a clean path may have
abbrev pub Name : Text → Type 0
Name p = (named p ≡ true) × Free p

-- a text without a slash is one piece
pub pieces_free : (p : Text) → Free p → pieces p ≡ p ∷ []
unfolding pieces
pieces_free [] h = refl
pieces_free (b ∷ p) h =
    let e = either_false (eqb b SLASH) (has SLASH p) h in
    cond-false _ _ _ e.0 ∙ ap (before b) (pieces_free p e.1)

pub pieces_join : (p s : Text) → Free p → pieces (p ++ SLASH ∷ s) ≡ p ∷ pieces s
unfolding pieces
pieces_join [] s h = refl
pieces_join (b ∷ p) s h =
    let e = either_false (eqb b SLASH) (has SLASH p) h in
    cond-false _ _ _ e.0 ∙ ap (before b) (pieces_join p s e.1)

pub pieces_between : (p : Text) (ps : List Text) → AllByRecursion Free (p ∷ ps) → pieces (slash_between (p ∷ ps)) ≡ p ∷ ps
pieces_between p [] h = pieces_free p h.0
pieces_between p (q ∷ ps) h = pieces_join p (slash_between (q ∷ ps)) h.0 ∙ ap (λ (qs : List Text). p ∷ qs) (pieces_between q ps h.1)

between_more : (p : Text) (ps : List Text) → 0 < length ps → slash_between (p ∷ ps) ≡ p ++ SLASH ∷ slash_between ps
between_more p [] h = absurd (omega arith)
between_more p (q ∷ ps) h = refl

between_before : (b : ℕ) (ps : List Text) → 0 < length ps → slash_between (before b ps) ≡ b ∷ slash_between ps
between_before b [] h = absurd (omega arith)
between_before b (p ∷ []) h = refl
between_before b (p ∷ q ∷ ps) h = refl

pub pieces_some : (s : Text) → 0 < length (pieces s)
pieces_some s = omega (arith, ap length (pieces_split s))

-- the pieces put together again
pub pieces_back : (s : Text) → slash_between (pieces s) ≡ s
unfolding pieces
pieces_back [] = refl
pieces_back (b ∷ s) = at (eqb b SLASH) refl (pieces_back s)
  where
    at : (v : Bool) → eqb b SLASH ≡ v → slash_between (pieces s) ≡ s → slash_between (cond v ([] ∷ pieces s) (before b (pieces s))) ≡ b ∷ s
    at true e ih = between_more [] (pieces s) (pieces_some s) ∙ (λ i. sym (eqb-true b SLASH e) i ∷ ih i)
    at false e ih = between_before b (pieces s) (pieces_some s) ∙ ap (λ (r : Text). b ∷ r) ih

before_free : (b : ℕ) (ps : List Text) → eqb b SLASH ≡ false → AllByRecursion Free ps → AllByRecursion Free (before b ps)
before_free b [] e h = (cond-false _ _ _ e, tt)
before_free b (p ∷ ps) e h = (cond-false _ _ _ e ∙ h.0, h.1)

-- no piece has a slash
pub pieces_each_free : (s : Text) → AllByRecursion Free (pieces s)
unfolding pieces
pieces_each_free [] = (refl, tt)
pieces_each_free (b ∷ s) = at (eqb b SLASH) refl (pieces_each_free s)
  where
    at : (v : Bool) → eqb b SLASH ≡ v → AllByRecursion Free (pieces s) → AllByRecursion Free (cond v ([] ∷ pieces s) (before b (pieces s)))
    at true e ih = (refl, ih)
    at false e ih = before_free b (pieces s) e ih

-- the path with these names, behind the root or not
abbrev pub spelled : Bool → List Text → Text
spelled r ns = cond r (SLASH ∷ slash_between ns) (slash_between ns)

pub name_solid : (p : Text) → Name p → solid p ≡ true
name_solid p n = (and_parts (solid p) _ n.0).0

pub name_some : (p : Text) → Name p → empty p ≡ false
name_some [] n = absurd (false≢true (name_solid [] n))
name_some (b ∷ p) n = refl

pub names_free : (ns : List Text) → AllByRecursion Name ns → AllByRecursion Free ns
names_free [] h = tt
names_free (p ∷ ps) h = (h.0.1, names_free ps h.1)

pub inner_all : (n : ℕ) (ps : List Text) → AllByRecursion Name ps → inner (placed n ps) ≡ placed n ps
inner_all n [] h = refl
inner_all n (p ∷ ps) h = cond-true _ _ _ (name_solid p h.0) ∙ ap (λ (ms : List Mark). (p, n + length p) ∷ ms) (inner_all (n + length p + 1) ps h.1)

pub texts_placed : (n : ℕ) (ps : List Text) → texts_of (placed n ps) ≡ ps
texts_placed n [] = refl
texts_placed n (p ∷ ps) = ap (λ (qs : List Text). p ∷ qs) (texts_placed (n + length p + 1) ps)

-- the parts of such a path, with their ends
abbrev pub spelled_marks : Bool → List Text → List Mark
spelled_marks r ns = cond r ((root, 1) ∷ placed 1 ns) (placed 0 ns)

pub marks_spelled : (r : Bool) (ns : List Text) → AllByRecursion Name ns → marks (spelled r ns) ≡ spelled_marks r ns
unfolding marks pieces
marks_spelled true [] h = refl
marks_spelled true (p ∷ ps) h =
    ap (λ (qs : List Text). headed (placed 0 qs)) (pieces_slash (slash_between (p ∷ ps)) ∙ ap (λ (qs : List Text). [] ∷ qs) (pieces_between p ps (names_free (p ∷ ps) h)))
    ∙ ap (λ (ms : List Mark). (root, 1) ∷ ms) (inner_all 1 (p ∷ ps) h)
marks_spelled false [] h = refl
marks_spelled false (p ∷ []) h =
    ap (λ (qs : List Text). headed (placed 0 qs)) (pieces_between p [] (names_free (p ∷ []) h)) ∙ cond-false _ _ _ (name_some p h.0)
marks_spelled false (p ∷ q ∷ ps) h =
    ap (λ (qs : List Text). headed (placed 0 qs)) (pieces_between p (q ∷ ps) (names_free (p ∷ q ∷ ps) h))
    ∙ cond-false _ _ _ (name_some p h.0)
    ∙ ap (λ (ms : List Mark). (p, 0 + length p) ∷ ms) (inner_all (0 + length p + 1) (q ∷ ps) h.1)
