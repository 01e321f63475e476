-- When paths are the same; of clean ones their bytes decide. Assumes nothing.
use Rattle.std.proofs.Common.{◌≡◌, ℕ, Bool, true, false, eqb, List, [], ◌∷◌, sym, refl, ap, ◌∙◌}
use Rattle.std.specs.Str.{bytes_eq}
use Rattle.std.proofs.lemmas.Bool.{and_from, and_parts, cond-false, eqb-false, false≢true}
use Rattle.std.proofs.lemmas.Slice.Eq.{bytes_eq-Decides}
use Rattle.texts.specs.Hashes.{path_hash}
use Rattle.texts.specs.Texts.{Text}
use Rattle.texts.specs.Parts.{clean, parts, same_parts, written}
use Rattle.texts.proofs.CleanPaths.{clean_written}

pub same_means_equal : (ps qs : List Text) → same_parts ps qs ≡ true → ps ≡ qs
same_means_equal [] [] h = refl
same_means_equal [] (q ∷ qs) h = cc
same_means_equal (p ∷ ps) [] h = cc
same_means_equal (p ∷ ps) (q ∷ qs) h =
    let t = and_parts (bytes_eq p q) (same_parts ps qs) h in
    let e : p ≡ q = (bytes_eq-Decides p q).0 t.0 in
    let f : ps ≡ qs = same_means_equal ps qs t.1 in
    cc

same_as_itself : (ps : List Text) → same_parts ps ps ≡ true
same_as_itself [] = refl
same_as_itself (p ∷ ps) = and_from (bytes_eq p p) (same_parts ps ps) ((bytes_eq-Decides p p).1 refl) (same_as_itself ps)

-- clean paths are the same exactly if their bytes are
pub clean_same : (a b : Text) → clean a ≡ true → clean b ≡ true → bytes_eq a b ≡ same_parts (parts a) (parts b)
clean_same a b ca cb = at (bytes_eq a b) (same_parts (parts a) (parts b)) refl refl
  where
    at : (v w : Bool) → bytes_eq a b ≡ v → same_parts (parts a) (parts b) ≡ w → v ≡ w
    at true true e f = refl
    at false false e f = refl
    at true false e f =
        let same : a ≡ b = (bytes_eq-Decides a b).0 e in
        absurd (false≢true (sym f ∙ sym (ap (λ (t : Text). same_parts (parts a) (parts t)) same) ∙ same_as_itself (parts a)))
    at false true e f =
        let same : parts a ≡ parts b = same_means_equal (parts a) (parts b) f in
        let bytes : a ≡ b = sym (clean_written a ca) ∙ ap written same ∙ clean_written b cb in
        absurd (false≢true (sym e ∙ (bytes_eq-Decides a b).1 bytes))

-- a path that has a hash is clean
hash_clean : (t : Text) (n : ℕ) → n ≡ path_hash t → eqb n 0 ≡ false → clean t ≡ true
hash_clean t n e h = at (clean t) refl
  where
    at : (v : Bool) → clean t ≡ v → clean t ≡ true
    at true c = c
    at false c = absurd (eqb-false n 0 h (e ∙ cond-false _ _ _ c))

module _ (a b : Text) (m n : ℕ) (ha : eqb m 0 ≡ false → m ≡ path_hash a) (hb : eqb n 0 ≡ false → n ≡ path_hash b) (fa : eqb m 0 ≡ false) (fb : eqb n 0 ≡ false) where
  -- paths of one hash are the same exactly if their bytes are
  pub hashed_same : bytes_eq a b ≡ same_parts (parts a) (parts b)
  hashed_same = clean_same a b (hash_clean a m (ha fa) fa) (hash_clean b n (hb fb) fb)

  -- paths of two hashes are not the same
  pub hashed_apart : eqb m n ≡ false → false ≡ same_parts (parts a) (parts b)
  hashed_apart f = at (bytes_eq a b) refl ∙ hashed_same
    where
      at : (v : Bool) → bytes_eq a b ≡ v → false ≡ bytes_eq a b
      at false e = sym e
      at true e = absurd (eqb-false m n f (ha fa ∙ ap path_hash ((bytes_eq-Decides a b).0 e) ∙ sym (hb fb)))
