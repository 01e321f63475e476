-- Clean paths are the root and names. Assumes nothing.
use Rattle.std.proofs.Common.{◌≡◌, Bool, true, false, cond, List, [], ◌∷◌, ◌++◌, sym, refl, ap, ◌∙◌}
use Rattle.std.specs.List.{AllByRecursion}
use Rattle.std.specs.Str.{bytes_eq}
use Rattle.std.proofs.lemmas.Slice.Eq.{bytes_eq-Decides}
use Rattle.std.proofs.lemmas.Bool.{and_from, and_parts, false≢true}
use Rattle.texts.specs.Texts.{Text, SLASH, empty}
use Rattle.texts.specs.Parts.{root, pieces, named, every, texts_of, parts, clean, clean_pieces, slash_between, written}
use Rattle.texts.proofs.Names.{Free, Name, spelled, marks_spelled, names_free, pieces_back, pieces_between, pieces_each_free, texts_placed}
use Rattle.texts.proofs.Scans.{pieces_slash}

every_names : (ps : List Text) → every named ps ≡ true → AllByRecursion Free ps → AllByRecursion Name ps
every_names [] h f = tt
every_names (p ∷ ps) h f = let e = and_parts (named p) (every named ps) h in ((e.0, f.0), every_names ps e.1 f.1)

names_every : (ps : List Text) → AllByRecursion Name ps → every named ps ≡ true
names_every [] h = refl
names_every (p ∷ ps) h = and_from _ _ h.0.0 (names_every ps h.1)

empty_nil : (p : Text) → empty p ≡ true → p ≡ []
empty_nil [] h = refl
empty_nil (b ∷ p) h = absurd (false≢true h)

-- a clean path is the root and names
pub clean_names : (s : Text) → clean s ≡ true → (ns : List Text) × AllByRecursion Name ns × (s ≡ spelled true ns)
unfolding clean
clean_names s h = at (bytes_eq s root) refl h
  where
    by_pieces : (ps : List Text) → AllByRecursion Free ps → s ≡ slash_between ps → clean_pieces ps ≡ true → (ns : List Text) × AllByRecursion Name ns × (s ≡ spelled true ns)
    by_pieces [] f e c = absurd (false≢true c)
    by_pieces (p ∷ []) f e c = absurd (false≢true c)
    by_pieces (p ∷ q ∷ ps) f e c =
        let b = and_parts (empty p) (every named (q ∷ ps)) c in
        (q ∷ ps, every_names (q ∷ ps) b.1 f.1, e ∙ ap (λ (o : Text). o ++ SLASH ∷ slash_between (q ∷ ps)) (empty_nil p b.0))

    at : (v : Bool) → bytes_eq s root ≡ v → cond v true (clean_pieces (pieces s)) ≡ true → (ns : List Text) × AllByRecursion Name ns × (s ≡ spelled true ns)
    at true e c = ([], tt, (bytes_eq-Decides s root).0 e)
    at false e c = by_pieces (pieces s) (pieces_each_free s) (sym (pieces_back s)) c

pub clean_spelled : (ns : List Text) → AllByRecursion Name ns → clean (spelled true ns) ≡ true
unfolding clean
clean_spelled [] h = refl
clean_spelled (p ∷ ps) h =
    cond_either (bytes_eq (spelled true (p ∷ ps)) root) (clean_pieces (pieces (spelled true (p ∷ ps))))
    (ap clean_pieces (pieces_slash (slash_between (p ∷ ps)) ∙ ap (λ (qs : List Text). [] ∷ qs) (pieces_between p ps (names_free (p ∷ ps) h))) ∙ names_every (p ∷ ps) h)
  where
    cond_either : (v w : Bool) → w ≡ true → cond v true w ≡ true
    cond_either true w e = refl
    cond_either false w e = e

pub parts_spelled : (r : Bool) (ns : List Text) → AllByRecursion Name ns → parts (spelled r ns) ≡ cond r (root ∷ ns) ns
unfolding parts
parts_spelled true ns h = ap texts_of (marks_spelled true ns h) ∙ ap (λ (ps : List Text). root ∷ ps) (texts_placed 1 ns)
parts_spelled false ns h = ap texts_of (marks_spelled false ns h) ∙ texts_placed 0 ns

-- the parts of a clean path written with slashes give the path back
pub clean_written : (s : Text) → clean s ≡ true → written (parts s) ≡ s
clean_written s h =
    let n = clean_names s h in
    ap (λ (t : Text). written (parts t)) n.2 ∙ ap written (parts_spelled true n.0 n.1) ∙ sym n.2
