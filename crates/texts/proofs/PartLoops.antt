-- What a loop over the parts of a text keeps. Assumes nothing.
use Rattle.std.proofs.Common.{◌≡◌, ℕ, suc, ◌+◌, ◌<◌, ◌≤◌, Bool, true, false, cond, eqb, not, ◌&&◌, List, [], ◌∷◌, ◌++◌, map, length, get_or, take, is_some, Some, None, Option, sym, refl, ap, ◌∙◌, arith}
use Rattle.std.specs.Str.{bytes_eq}
use Rattle.std.proofs.lemmas.List.{append_assoc, append-nil, length-append, take-append-le, take_at}
use Rattle.std.specs.List.{between, onto_first, slice_split}
use Rattle.std.proofs.lemmas.Slice.{first_rest}
use Rattle.std.proofs.lemmas.Bool.{and_left, not-false, not-true, ne_eqb}
use Rattle.texts.specs.declared.place.Place.{Place}
use Rattle.texts.specs.Texts.{Text, SLASH, empty, until}
use Rattle.texts.specs.Parts.{Mark, before, pieces, clean_pieces, named, every, texts_of, place_of, same_parts}
use Rattle.std.proofs.lemmas.Iterator.{YieldsList}
use Rattle.std.proofs.lemmas.Iterator.Consumers.{YieldsList-from_shown}
use Rattle.texts.specs.declared.components.Components.{Components}
use Rattle.texts.specs.Walks.{PartGiven, first_place, first_text, but_first, left, places_left}
use Rattle.texts.proofs.Scans.{others, pieces_slash, pieces_split}

pub some≢none : {X : Type 0} {x : X} → Some x ≡ None → ⊥
some≢none {X} {x} e = let z : ◌≡◌ {A = ℕ} 0 1 = cc in omega arith

-- the pieces of a text are what stands between its slashes
before_is : (b : ℕ) (ps : List Text) → before b ps ≡ onto_first b ps
before_is b [] = refl
before_is b (p ∷ ps) = refl

pub pieces_between : (s : Text) → pieces s ≡ slice_split (λ b. eqb b SLASH) s
unfolding pieces
pieces_between [] = refl
pieces_between (b ∷ s) =
    ap (λ (ps : List Text). cond (eqb b SLASH) ([] ∷ ps) (before b ps)) (pieces_between s)
    ∙ ap (λ (ps : List Text). cond (eqb b SLASH) ([] ∷ slice_split (λ c. eqb c SLASH) s) ps) (before_is b (slice_split (λ c. eqb c SLASH) s))

-- a slash leads a clean path, and names follow
pub rooted_names : (s : Text) → clean_pieces (pieces (SLASH ∷ s)) ≡ every named (pieces s)
rooted_names s = ap clean_pieces (pieces_slash s ∙ ap (λ (ps : List Text). [] ∷ ps) (pieces_split s)) ∙ ap (every named) (sym (pieces_split s))

pub unrooted : (t : Text) → (0 < length t → get_or t 0 0 ≡ SLASH → ⊥) → clean_pieces (pieces t) ≡ false
unrooted t other = ap clean_pieces (pieces_split t) ∙ at (others t) (take (until SLASH t) t) (λ h. first_some t other h)
  where
    first_some : (s : Text) → (0 < length s → get_or s 0 0 ≡ SLASH → ⊥) → 0 < length (others s) → empty (take (until SLASH s) s) ≡ false
    first_some [] differs h = absurd (omega arith)
    first_some (b ∷ s) differs h = ap (λ (v : Bool). empty (take (cond v 0 (suc (until SLASH s))) (b ∷ s))) (ne_eqb b SLASH (differs (omega arith)))

    at : (ps : List Text) (p : Text) → (0 < length ps → empty p ≡ false) → clean_pieces (p ∷ ps) ≡ false
    at [] p h = refl
    at (q ∷ ps) p h = and_left _ _ (h (omega arith))

-- two scans side by side
same_on : (ms ns : List Mark) (p q : Text) → Some p ≡ first_text ms → Some q ≡ first_text ns → same_parts (texts_of ms) (texts_of ns) ≡ (bytes_eq p q && same_parts (texts_of (but_first ms)) (texts_of (but_first ns)))
same_on [] ns p q e f = absurd (some≢none e)
same_on (m ∷ ms) [] p q e f = absurd (some≢none f)
same_on (m ∷ ms) (n ∷ ns) p q e f =
    let e' : m.0 ≡ p = cc in
    let f' : n.0 ≡ q = cc in
    λ i. bytes_eq (e' i) (f' i) && same_parts (texts_of ms) (texts_of ns)

pub same_longer : (ms ns : List Mark) (p : Text) → Some p ≡ first_text ms → None ≡ first_place ns → same_parts (texts_of ms) (texts_of ns) ≡ false
same_longer [] ns p e f = absurd (some≢none e)
same_longer (m ∷ ms) [] p e f = refl
same_longer (m ∷ ms) (n ∷ ns) p e f = absurd (some≢none (sym f))

pub same_ends : (ms ns : List Mark) (r : Option Place) (none : Bool) → None ≡ first_place ms → r ≡ first_place ns → not none ≡ is_some r → none ≡ same_parts (texts_of ms) (texts_of ns)
same_ends [] [] r none e f t = not-false none (t ∙ ap is_some f)
same_ends [] (n ∷ ns) r none e f t = not-true none (t ∙ ap is_some f)
same_ends (m ∷ ms) ns r none e f t = absurd (some≢none (sym e))

module _ (ms ns : List Mark) (p q : Text) (e : Some p ≡ first_text ms) (f : Some q ≡ first_text ns) (r : Bool) (tested : r ≡ bytes_eq p q) where
  pub same_differs : r ≡ false → same_parts (texts_of ms) (texts_of ns) ≡ false
  same_differs no_match = same_on ms ns p q e f ∙ ap (λ (v : Bool). v && same_parts (texts_of (but_first ms)) (texts_of (but_first ns))) (sym tested ∙ no_match)

  pub same_goes_on : r ≡ true → same_parts (texts_of ms) (texts_of ns) ≡ same_parts (texts_of (but_first ms)) (texts_of (but_first ns))
  same_goes_on match = same_on ms ns p q e f ∙ ap (λ (v : Bool). v && same_parts (texts_of (but_first ms)) (texts_of (but_first ns))) (sym tested ∙ match)

-- the parts that are left, one less
pub one_less : (ms : List Mark) (p : Place) → Some p ≡ first_place ms → map place_of ms ≡ p ∷ map place_of (but_first ms)
one_less [] p e = absurd (some≢none e)
one_less (m ∷ ms) p e = let e' : place_of m ≡ p = cc in ap (λ (q : Place). q ∷ map place_of ms) e'

pub none_left : (ms : List Mark) → None ≡ first_place ms → ms ≡ []
none_left [] e = refl
none_left (m ∷ ms) e = absurd (some≢none (sym e))

-- the same of a text that is taken apart into its first byte and the rest
pub rooted_split : (t : Text) → 0 < length t → get_or t 0 0 ≡ SLASH → every named (pieces (between 1 (length t) t)) ≡ clean_pieces (pieces t)
rooted_split t some slash =
    sym (rooted_names (between 1 (length t) t))
    ∙ ap (λ (b : ℕ). clean_pieces (pieces (b ∷ between 1 (length t) t))) (sym slash)
    ∙ ap (λ (s : Text). clean_pieces (pieces s)) (sym (first_rest t 0 some))

-- parts pushed on a stack that had `had`, of which `ps` are still to come and `all` will have come
module _ (had held ps all : List Place) (inv : held ++ ps ≡ had ++ all) (kept : length had ≤ length held) where
  pub push_done : ps ≡ [] → held ≡ had ++ all
  push_done none = sym (append-nil held) ∙ ap (λ (qs : List Place). held ++ qs) (sym none) ∙ inv

  pub push_counts : length held + length ps ≡ length had + length all
  push_counts = sym (length-append held ps) ∙ ap length inv ∙ length-append had all

  pub push_undone : take (length had) held ≡ had
  push_undone =
      sym (take-append-le (length had) held ps kept)
      ∙ ap (take (length had)) inv
      ∙ take_at had all (length had) refl

  pub push_more : (p : Place) (rest held' : List Place) → ps ≡ p ∷ rest → held' ≡ held ++ p ∷ [] → held' ++ rest ≡ had ++ all
  push_more p rest held' e h =
      ap (λ (qs : List Place). qs ++ rest) h
      ∙ append_assoc held (p ∷ []) rest
      ∙ ap (λ (qs : List Place). held ++ qs) (sym e)
      ∙ inv

-- a scan gives the places of the parts that are left
pub parts_given : (s : Components) → YieldsList PartGiven (λ p. p) s (places_left s)
parts_given s = YieldsList-from_shown PartGiven (λ p. p) places_left
    (λ t u g. ap (λ (ms : List Mark). length (map place_of ms)) (none_left (left t) g.place_of_the_next_part))
    (λ t p u g. one_less (left t) p g.place_of_the_next_part ∙ ap (λ (ms : List Mark). p ∷ map place_of ms) (sym g.others_are_left))
    s
