-- How a path spelled by its names grows and is cut. Assumes nothing.
use Rattle.std.proofs.Common.{◌≡◌, ℕ, suc, ◌+◌, ◌≤◌, Bool, true, false, ◌&&◌, eqb, List, [], ◌∷◌, ◌++◌, length, take, sym, refl, ap, ◌∙◌, arith}
use Rattle.std.specs.List.{AllByRecursion}
use Rattle.std.specs.Str.{bytes_eq}
use Rattle.std.proofs.lemmas.List.{append_assoc, length-append, take_at}
use Rattle.std.proofs.lemmas.Bool.{cond-false, or_from, true≢false}
use Rattle.texts.specs.Texts.{Text, SLASH, empty, begins, ends, has}
use Rattle.texts.specs.Parts.{Mark, root, placed, slash_between}
use Rattle.texts.proofs.Names.{Free, Name, either_false, free_first, marks_spelled, name_some, spelled}
use Rattle.texts.proofs.Weights.{weight}
use Rattle.paths.specs.Joins.{last_but_one, cut_length, cut, slashed}

-- what ends in a name does not end in a slash
ends_later : (b : ℕ) (s : Text) (c : ℕ) (t : Text) → ends b (s ++ c ∷ t) ≡ ends b (c ∷ t)
ends_later b [] c t = refl
ends_later b (a ∷ []) c t = refl
ends_later b (a ∷ d ∷ s) c t = ends_later b (d ∷ s) c t

free_end : (p : Text) → Free p → ends SLASH p ≡ false
free_end [] h = refl
free_end (b ∷ []) h = (either_false (eqb b SLASH) false h).0
free_end (b ∷ c ∷ p) h = free_end (c ∷ p) (either_false (eqb b SLASH) (has SLASH (c ∷ p)) h).1

some_first : (p : Text) → empty p ≡ false → (b : ℕ) × (s : Text) × (p ≡ b ∷ s)
some_first [] h = absurd (true≢false h)
some_first (b ∷ s) h = (b, s, refl)

between_some : (p : Text) (ps : List Text) → AllByRecursion Name (p ∷ ps) → empty (slash_between (p ∷ ps)) ≡ false
between_some p [] h = name_some p h.0
between_some [] (q ∷ ps) h = absurd (true≢false (name_some [] h.0))
between_some (b ∷ p) (q ∷ ps) h = refl

between_end : (p : Text) (ps : List Text) → AllByRecursion Name (p ∷ ps) → ends SLASH (slash_between (p ∷ ps)) ≡ false
between_end p [] h = free_end p h.0.1
between_end p (q ∷ ps) h =
    let f = some_first (slash_between (q ∷ ps)) (between_some q ps h.1) in
    ends_later SLASH p SLASH (slash_between (q ∷ ps))
    ∙ ap (λ (s : Text). ends SLASH (SLASH ∷ s)) f.2
    ∙ ap (ends SLASH) (sym f.2)
    ∙ between_end q ps h.1

between_push : (p : Text) (ps : List Text) (n : Text) → slash_between (p ∷ ps) ++ (SLASH ∷ n) ≡ slash_between (p ∷ ps ++ n ∷ [])
between_push p [] n = refl
between_push p (q ∷ ps) n =
    append_assoc p (SLASH ∷ slash_between (q ∷ ps)) (SLASH ∷ n)
    ∙ ap (λ (s : Text). p ++ (SLASH ∷ s)) (between_push q ps n)

-- one more name
pub slashed_name : (r : Bool) (ns : List Text) (n : Text) → AllByRecursion Name ns → slashed (spelled r ns) ++ n ≡ spelled r (ns ++ n ∷ [])
slashed_name true [] n h = refl
slashed_name false [] n h = refl
slashed_name true (p ∷ ps) n h =
    let f = some_first (slash_between (p ∷ ps)) (between_some p ps h) in
    let open_end : ends SLASH (SLASH ∷ slash_between (p ∷ ps)) ≡ false =
    ap (λ (s : Text). ends SLASH (SLASH ∷ s)) f.2 ∙ ap (ends SLASH) (sym f.2) ∙ between_end p ps h in
    ap (λ (s : Text). (SLASH ∷ slash_between (p ∷ ps) ++ s) ++ n) (cond-false _ _ _ open_end)
    ∙ ap (λ (s : Text). SLASH ∷ s) (append_assoc (slash_between (p ∷ ps)) root n ∙ between_push p ps n)
slashed_name false (p ∷ ps) n h =
    ap (λ (s : Text). (slash_between (p ∷ ps) ++ s) ++ n) (cond-false _ _ _ (or_from _ _ (between_some p ps h) (between_end p ps h)))
    ∙ append_assoc (slash_between (p ∷ ps)) root n
    ∙ between_push p ps n

-- all names but the last
abbrev pub but_last : List Text → List Text
but_last [] = []
but_last (p ∷ []) = []
but_last (p ∷ q ∷ ps) = p ∷ but_last (q ∷ ps)

pub but_last_names : (ns : List Text) → AllByRecursion Name ns → AllByRecursion Name (but_last ns)
but_last_names [] h = tt
but_last_names (p ∷ []) h = tt
but_last_names (p ∷ q ∷ ps) h = (h.0, but_last_names (q ∷ ps) h.1)

pub but_last_weight : (ns : List Text) → weight (but_last ns) ≤ weight ns
but_last_weight [] = omega arith
but_last_weight (p ∷ []) = omega arith
but_last_weight (p ∷ q ∷ ps) = let h = but_last_weight (q ∷ ps) in omega arith

-- where the last name but one ends, behind a first part m
name_ends : (m : Mark) (k : ℕ) (p q : Text) (ps : List Text) → last_but_one m (placed k (p ∷ q ∷ ps)) ≡ k + length (slash_between (but_last (p ∷ q ∷ ps)))
name_ends m k p q [] = refl
name_ends m k p q (o ∷ ps) =
    name_ends (p, k + length p) (k + length p + 1) q o ps
    ∙ omega (arith, length-append p (SLASH ∷ slash_between (but_last (q ∷ o ∷ ps))))

front_names : (ns : List Text) → take (length (slash_between (but_last ns))) (slash_between ns) ≡ slash_between (but_last ns)
front_names [] = refl
front_names (p ∷ []) = refl
front_names (p ∷ q ∷ []) = take_at p (SLASH ∷ q) (length p) refl
front_names (p ∷ q ∷ o ∷ ps) = take_front p (SLASH ∷ slash_between (q ∷ o ∷ ps)) (SLASH ∷ slash_between (but_last (q ∷ o ∷ ps))) (ap (λ (s : Text). SLASH ∷ s) (front_names (q ∷ o ∷ ps)))
  where
    take_front : (p s t : Text) → take (length t) s ≡ t → take (length (p ++ t)) (p ++ s) ≡ p ++ t
    take_front [] s t e = e
    take_front (b ∷ p) s t e = ap (λ (r : Text). b ∷ r) (take_front p s t e)

pub free_no_root : (p : Text) → Free p → bytes_eq p root ≡ false
free_no_root [] h = refl
free_no_root (b ∷ p) h = ap (λ (v : Bool). v && bytes_eq p []) (either_false (eqb b SLASH) (has SLASH p) h).0

free_begins : (p : Text) → Free p → begins SLASH p ≡ false
free_begins [] h = refl
free_begins (b ∷ p) h = free_first b p h

-- one name less; the root stays
pub cut_name : (r : Bool) (ns : List Text) → AllByRecursion Name ns → cut (spelled r ns) ≡ spelled r (but_last ns)
unfolding cut
cut_name true [] h = ap (λ (ms : List Mark). take (cut_length (spelled true []) ms) (spelled true [])) (marks_spelled true [] h)
cut_name true (p ∷ []) h = ap (λ (ms : List Mark). take (cut_length (spelled true (p ∷ [])) ms) (spelled true (p ∷ []))) (marks_spelled true (p ∷ []) h)
cut_name true (p ∷ q ∷ ps) h =
    let up : 1 + length (slash_between (but_last (p ∷ q ∷ ps))) ≡ suc (length (slash_between (but_last (p ∷ q ∷ ps)))) = omega arith in
    ap (λ (ms : List Mark). take (cut_length (spelled true (p ∷ q ∷ ps)) ms) (spelled true (p ∷ q ∷ ps))) (marks_spelled true (p ∷ q ∷ ps) h)
    ∙ ap (λ (n : ℕ). take n (spelled true (p ∷ q ∷ ps))) (name_ends (root, 1) 1 p q ps ∙ up)
    ∙ ap (λ (s : Text). SLASH ∷ s) (front_names (p ∷ q ∷ ps))
cut_name false [] h = ap (λ (ms : List Mark). take (cut_length (spelled false []) ms) (spelled false [])) (marks_spelled false [] h)
cut_name false (p ∷ []) h =
    ap (λ (ms : List Mark). take (cut_length p ms) p) (marks_spelled false (p ∷ []) h)
    ∙ ap (λ (n : ℕ). take n p) (cond-false _ _ _ (free_begins p h.0.1))
cut_name false (p ∷ q ∷ []) h =
    let at : 0 + length p ≡ length p = omega arith in
    ap (λ (ms : List Mark). take (cut_length (spelled false (p ∷ q ∷ [])) ms) (spelled false (p ∷ q ∷ []))) (marks_spelled false (p ∷ q ∷ []) h)
    ∙ ap (λ (n : ℕ). take n (spelled false (p ∷ q ∷ []))) at
    ∙ front_names (p ∷ q ∷ [])
cut_name false (p ∷ q ∷ o ∷ ps) h =
    let at : 0 + length p + 1 + length (slash_between (but_last (q ∷ o ∷ ps))) ≡ length (slash_between (but_last (p ∷ q ∷ o ∷ ps))) =
    omega (arith, length-append p (SLASH ∷ slash_between (but_last (q ∷ o ∷ ps)))) in
    ap (λ (ms : List Mark). take (cut_length (spelled false (p ∷ q ∷ o ∷ ps)) ms) (spelled false (p ∷ q ∷ o ∷ ps))) (marks_spelled false (p ∷ q ∷ o ∷ ps) h)
    ∙ ap (λ (n : ℕ). take n (spelled false (p ∷ q ∷ o ∷ ps))) (name_ends (p, 0 + length p) (0 + length p + 1) q o ps ∙ at)
    ∙ front_names (p ∷ q ∷ o ∷ ps)
