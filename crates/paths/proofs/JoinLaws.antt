-- The laws of joining and normalizing. Assumes nothing.
use Rattle.std.proofs.Common.{◌≡◌, ℕ, zero, suc, ◌+◌, ◌-◌, ◌<◌, ◌≤◌, Bool, true, false, cond, not, ◌&&◌, ◌||◌, leb, ◌⊎◌, List, [], ◌∷◌, ◌++◌, length, take, Some, sym, refl, ap, ◌∙◌, inl, inr, ⊎_elim, arith}
use Rattle.std.specs.List.{AllByRecursion}
use Rattle.std.specs.Str.{bytes_eq}
use Rattle.std.proofs.ByRecursion.{All-append}
use Rattle.std.proofs.lemmas.Slice.Eq.{bytes_eq-Decides}
use Rattle.std.proofs.lemmas.List.{append_assoc, append-nil, length-append, length-take, take_at}
use Rattle.std.proofs.lemmas.Bool.{and_from, and_parts, and_right, cases_Bool, cond-true, cond-false, cond_both, eqb-true, false≢true, le-leb, leb-true, not-false, not_from_false, not_from_true, not-true, or_parts, true≢false}
use Rattle.paths.specs.declared.path_util.Component.{Component}
use Rattle.paths.specs.declared.path_util.Component.TheVariants.{CurDir, ParentDir, Normal}
use Rattle.texts.specs.Texts.{Text, SLASH, DOT, empty, begins, ends, fits}
use Rattle.texts.specs.Parts.{Mark, root, here, above, pieces, solid, placed, inner, headed, marks, texts_of, parts, clean, slash_between}
use Rattle.paths.specs.Joins.{component, cut_length, cut, separator, slashed, grown, grown_by, walked, peak, replaces, join, joins, normal, normalize, normalized, relative, climbs, walked_within}
use Rattle.texts.specs.Walks.{but_first}
use Rattle.texts.proofs.CleanPaths.{clean_names, clean_spelled, parts_spelled}
use Rattle.texts.proofs.Names.{Free, Name, free_first, pieces_back, pieces_each_free, spelled}
use Rattle.texts.proofs.Weights.{weight, inner_weight, pieces_weight}
use Rattle.paths.proofs.Cuts.{grown_is}
use Rattle.paths.proofs.Growth.{but_last, but_last_names, but_last_weight, cut_name, free_no_root, slashed_name}

-- a part that is no root
abbrev pub Step : Text → Type 0
Step p = (p ≡ here) ⊎ ((p ≡ above) ⊎ Name p)

solid_step : (p : Text) → solid p ≡ true → Free p → Step p
solid_step p s f = ⊎_elim
    (λ (e : bytes_eq p above ≡ true). inr (inl ((bytes_eq-Decides p above).0 e)))
    (λ (e : bytes_eq p above ≡ false). inr (inr (and_from _ _ s (not_from_false _ e), f)))
    (cases_Bool (bytes_eq p above))

first_step : (b : ℕ) (p : Text) → Free (b ∷ p) → Step (b ∷ p)
first_step b p f = ⊎_elim (λ (s : solid (b ∷ p) ≡ true). solid_step (b ∷ p) s f) (λ (s : solid (b ∷ p) ≡ false). inl (dull b p s)) (cases_Bool (solid (b ∷ p)))
  where
    dull : (b : ℕ) (p : Text) → solid (b ∷ p) ≡ false → b ∷ p ≡ here
    dull b [] s = ap (λ (c : ℕ). c ∷ []) (eqb-true b DOT (not-false _ s))
    dull b (c ∷ p) s = absurd (true≢false s)

inner_steps : (n : ℕ) (ps : List Text) → AllByRecursion Free ps → AllByRecursion Step (texts_of (inner (placed n ps)))
inner_steps n [] f = tt
inner_steps n (p ∷ ps) f = at (solid p) refl (inner_steps (n + length p + 1) ps f.1)
  where
    at : (v : Bool) → solid p ≡ v → AllByRecursion Step (texts_of (inner (placed (n + length p + 1) ps)))
        → AllByRecursion Step (texts_of (cond v ((p, n + length p) ∷ inner (placed (n + length p + 1) ps)) (inner (placed (n + length p + 1) ps))))
    at true e ih = (solid_step p e f.0, ih)
    at false e ih = ih

-- the parts of a text: the root or not, and steps
pub record Steps (s : Text) : Type 0 where
  pub rooted : Bool
  pub steps : List Text
  pub each : AllByRecursion Step steps
  pub are : parts s ≡ cond rooted (root ∷ steps) steps
  pub light : weight steps + cond rooted 1 0 ≤ length s + 1
  pub leads : rooted ≡ begins SLASH s
  pub some : 0 < length s → rooted ≡ false → 0 < length steps

pub steps_of : (s : Text) → Steps s
unfolding parts marks
steps_of s = at (pieces s) refl (pieces_each_free s) (sym (pieces_back s)) (pieces_weight s)
  where
    at : (ps : List Text) → pieces s ≡ ps → AllByRecursion Free ps → s ≡ slash_between ps → weight ps ≡ length s + 1 → Steps s
    at [] e f b w = absurd (omega arith)
    at ([] ∷ []) e f b w = record {
      rooted = false;
      steps = [];
      each = tt;
      are = ap (λ (ps : List Text). texts_of (headed (placed 0 ps))) e;
      light = omega arith;
      leads = ap (begins SLASH) (sym b);
      some = λ h _. absurd (omega (arith, ap length b));
    }
    at ((c ∷ p) ∷ []) e f b w = record {
      rooted = false;
      steps = (c ∷ p) ∷ [];
      each = (first_step c p f.0, tt);
      are = ap (λ (ps : List Text). texts_of (headed (placed 0 ps))) e;
      light = omega arith;
      leads = sym (ap (begins SLASH) b ∙ free_first c p f.0);
      some = λ _ _. omega arith;
    }
    at ([] ∷ q ∷ ps) e f b w = record {
      rooted = true;
      steps = texts_of (inner (placed 1 (q ∷ ps)));
      each = inner_steps 1 (q ∷ ps) f.1;
      are = ap (λ (qs : List Text). texts_of (headed (placed 0 qs))) e;
      light = omega (arith, (inner_weight 1 (q ∷ ps)).0);
      leads = sym (ap (begins SLASH) b);
      some = λ _ z. absurd (true≢false z);
    }
    at ((c ∷ p) ∷ q ∷ ps) e f b w = record {
      rooted = false;
      steps = (c ∷ p) ∷ texts_of (inner (placed (0 + length (c ∷ p) + 1) (q ∷ ps)));
      each = (first_step c p f.0, inner_steps (0 + length (c ∷ p) + 1) (q ∷ ps) f.1);
      are = ap (λ (qs : List Text). texts_of (headed (placed 0 qs))) e;
      light = omega (arith, (inner_weight (0 + length (c ∷ p) + 1) (q ∷ ps)).0);
      leads = sym (ap (begins SLASH) b ∙ free_first c p f.0);
      some = λ _ _. omega arith;
    }

-- how long a path with names of that weight can be
abbrev size : Bool → ℕ → ℕ
size r w = cond r 1 0 + (w - 1)

between_size : (ns : List Text) → length (slash_between ns) ≤ weight ns - 1
between_size [] = omega arith
between_size (p ∷ []) = omega arith
between_size (p ∷ q ∷ ps) = omega (arith, between_size (q ∷ ps), length-append p (SLASH ∷ slash_between (q ∷ ps)))

spelled_size : (r : Bool) (ns : List Text) → length (spelled r ns) ≤ size r (weight ns)
spelled_size true ns = omega (arith, between_size ns)
spelled_size false ns = omega (arith, between_size ns)

not_here : (p : Text) → solid p ≡ true → bytes_eq p here ≡ false
not_here p s = ⊎_elim
    (λ (e : bytes_eq p here ≡ true). absurd (true≢false (sym s ∙ ap solid ((bytes_eq-Decides p here).0 e))))
    (λ (e : bytes_eq p here ≡ false). e)
    (cases_Bool (bytes_eq p here))

grown_name : (a p : Text) → Name p → grown a p ≡ slashed a ++ p
unfolding grown
grown_name a p n =
    let e = and_parts (solid p) (not (bytes_eq p above)) n.0 in
    ap (λ (k : Component). grown_by k a p) (cond-false _ _ _ (not_here p e.0) ∙ cond-false _ _ _ (not-true _ e.1))

grown_here : (a : Text) → grown a here ≡ a
unfolding grown
grown_here a = refl

grown_above : (a : Text) → grown a above ≡ cut a
unfolding grown
grown_above a = refl

-- a path with names after one more part
record Grown (r : Bool) (ns : List Text) (p : Text) : Type 0 where
  names : List Text
  each : AllByRecursion Name names
  is : grown (spelled r ns) p ≡ spelled r names
  light : weight names ≤ weight ns + weight (p ∷ [])

weight_append : (ps qs : List Text) → weight (ps ++ qs) ≡ weight ps + weight qs
weight_append [] qs = omega arith
weight_append (p ∷ ps) qs = omega (arith, weight_append ps qs)

grow : (r : Bool) (ns : List Text) (p : Text) → AllByRecursion Name ns → Step p → Grown r ns p
grow r ns p h (inl e) = record {
  names = ns;
  each = h;
  is = ap (grown (spelled r ns)) e ∙ grown_here (spelled r ns);
  light = omega arith;
}
grow r ns p h (inr (inl e)) = record {
  names = but_last ns;
  each = but_last_names ns h;
  is = ap (grown (spelled r ns)) e ∙ grown_above (spelled r ns) ∙ cut_name r ns h;
  light = omega (arith, but_last_weight ns);
}
grow r ns p h (inr (inr n)) = record {
  names = ns ++ p ∷ [];
  each = All-append Name ns (p ∷ []) h (n, tt);
  is = grown_name (spelled r ns) p n ∙ slashed_name r ns p h;
  light = omega (arith, weight_append ns (p ∷ []));
}

-- a path with names after more parts
pub record Walk (r : Bool) (ns ps : List Text) : Type 0 where
  pub names : List Text
  pub each : AllByRecursion Name names
  pub is : walked (spelled r ns) ps ≡ spelled r names
  pub light : weight names ≤ weight ns + weight ps
  pub low : peak (spelled r ns) ps ≤ size r (weight ns + weight ps)

pub walk : (r : Bool) (ns ps : List Text) → AllByRecursion Name ns → AllByRecursion Step ps → Walk r ns ps
unfolding walked peak
walk r ns [] h s = record { names = ns; each = h; is = refl; light = omega arith; low = omega (arith, spelled_size r ns) }
walk r ns (p ∷ ps) h s =
    let g = grow r ns p h s.0 in
    let w = walk r g.names ps g.each s.1 in
    let same = ap (λ (a : Text). peak a ps) g.is in
    record {
      names = w.names;
      each = w.each;
      is = ap (λ (a : Text). walked a ps) g.is ∙ w.is;
      light = omega (arith, w.light, g.light);
      low = omega (arith, same, w.low, g.light, spelled_size r ns);
    }

step_no_root : (p : Text) → Step p → bytes_eq p root ≡ false
step_no_root p (inl e) = ap (λ (q : Text). bytes_eq q root) e
step_no_root p (inr (inl e)) = ap (λ (q : Text). bytes_eq q root) e
step_no_root p (inr (inr n)) = free_no_root p n.1

-- normalizing, by the parts of the text
normal_steps : (r : Bool) (ps : List Text) → AllByRecursion Step ps → normal (cond r (root ∷ ps) ps) ≡ walked (spelled r []) ps
unfolding walked
normal_steps true ps s = refl
normal_steps false [] s = refl
normal_steps false (p ∷ ps) s = cond-false _ _ _ (step_no_root p s.0)

module _ (s : Text) where
  abbrev at : Steps s
  at = steps_of s

  abbrev way : Walk at.rooted [] at.steps
  way = walk at.rooted [] at.steps tt at.each

  normalize_names : normalize s ≡ spelled at.rooted way.names
  unfolding normalize
  normalize_names = ap normal at.are ∙ normal_steps at.rooted at.steps at.each ∙ way.is

-- names joined to a path with names
walked_names : (r : Bool) (xs ns : List Text) → AllByRecursion Name xs → AllByRecursion Name ns → walked (spelled r xs) ns ≡ spelled r (xs ++ ns)
unfolding walked
walked_names r xs [] h k = ap (spelled r) (sym (append-nil xs))
walked_names r xs (n ∷ ns) h k =
    ap (λ (a : Text). walked a ns) (grown_name (spelled r xs) n k.0 ∙ slashed_name r xs n h)
    ∙ walked_names r (xs ++ n ∷ []) ns (All-append Name xs (n ∷ []) h (k.0, tt)) k.1
    ∙ ap (spelled r) (append_assoc xs (n ∷ []) ns)

names_steps : (ns : List Text) → AllByRecursion Name ns → AllByRecursion Step ns
names_steps [] h = tt
names_steps (n ∷ ns) h = (inr (inr h.0), names_steps ns h.1)

normalize_spelled : (r : Bool) (ns : List Text) → AllByRecursion Name ns → normalize (spelled r ns) ≡ spelled r ns
unfolding normalize
normalize_spelled r ns h = ap normal (parts_spelled r ns h) ∙ normal_steps r ns (names_steps ns h) ∙ walked_names r [] ns tt h

-- normalizing twice is normalizing once
pub normalize_twice : (s : Text) → normalize (normalize s) ≡ normalize s
normalize_twice s = ap normalize (normalize_names s) ∙ normalize_spelled (steps_of s).rooted (way s).names (way s).each ∙ sym (normalize_names s)

-- a normalized text is no longer than the text
pub normalize_short : (s : Text) → length (normalize s) ≤ length s
normalize_short s = at_most (steps_of s).rooted (way s).names (normalize_names s) (steps_of s).leads (omega (arith, (way s).light, (steps_of s).light))
  where
    led : (t : Text) → true ≡ begins SLASH t → 1 ≤ length t
    led [] e = absurd (true≢false e)
    led (b ∷ t) e = omega arith

    at_most : (r : Bool) (ns : List Text) → normalize s ≡ spelled r ns → r ≡ begins SLASH s → weight ns + cond r 1 0 ≤ length s + 1 → length (normalize s) ≤ length s
    at_most true ns e b l = omega (arith, ap length e, spelled_size true ns, led s b)
    at_most false ns e b l = omega (arith, ap length e, spelled_size false ns)

parts_some : (t p : Text) (ps : List Text) → parts t ≡ p ∷ ps → 0 < length t
unfolding parts marks pieces
parts_some [] p ps e = let z = ap length e in absurd (omega arith)
parts_some (c ∷ t) p ps e = omega arith

-- a text takes the place of another unless it is relative
pub replaces_is : (b : Text) → replaces (parts b) ≡ not (relative b)
replaces_is b = at (steps_of b).rooted (steps_of b).steps (steps_of b).each (steps_of b).are (steps_of b).leads (steps_of b).some
  where
    led : (t : Text) → true ≡ begins SLASH t → relative t ≡ false
    led t e = and_right _ _ (not_from_true _ (sym e))

    unled : (t : Text) → false ≡ begins SLASH t → 0 < length t → relative t ≡ true
    unled [] e h = absurd (omega arith)
    unled (c ∷ t) e h = not_from_false _ (sym e)

    nothing : (t : Text) → length t ≤ 0 → relative t ≡ false
    nothing [] h = refl
    nothing (c ∷ t) h = absurd (omega arith)

    at : (r : Bool) (ps : List Text) → AllByRecursion Step ps → parts b ≡ cond r (root ∷ ps) ps → r ≡ begins SLASH b → (0 < length b → r ≡ false → 0 < length ps) → replaces (parts b) ≡ not (relative b)
    at true ps s e l some = ap replaces e ∙ sym (ap not (led b l))
    at false (p ∷ ps) s e l some = ap replaces e ∙ step_no_root p s.0 ∙ sym (ap not (unled b l (parts_some b p ps e)))
    at false [] s e l some = ap replaces e ∙ sym (ap not (nothing b (few (length b) refl)))
      where
        few : (n : ℕ) → length b ≡ n → length b ≤ 0
        few zero f = omega arith
        few (suc n) f = absurd (let h = some (omega arith) refl in omega arith)

module _ (a b : Text) where
  pub join_whole : relative b ≡ false → (join a b ≡ b) × (joins a b ≡ fits b)
  unfolding join joins
  join_whole e =
      let whole : replaces (parts b) ≡ true = replaces_is b ∙ ap not e in
      (cond-true _ _ _ whole, cond-true _ _ _ whole)

  pub join_walk : relative b ≡ true → (join a b ≡ walked a (parts b)) × (joins a b ≡ leb (peak a (parts b)) 255)
  unfolding join joins
  join_walk e =
      let part : replaces (parts b) ≡ false = replaces_is b ∙ ap not e in
      (cond-false _ _ _ part, cond-false _ _ _ part)

relative_steps : (b : Text) → relative b ≡ true → (parts b ≡ (steps_of b).steps) × (weight (parts b) ≤ length b + 1)
relative_steps b e = at (steps_of b).rooted (steps_of b).are (steps_of b).leads (steps_of b).light
  where
    unled : (v w : Bool) → (v && not w) ≡ true → w ≡ false
    unled v w h = not-true w (and_parts v (not w) h).1

    at : (r : Bool) → parts b ≡ cond r (root ∷ (steps_of b).steps) (steps_of b).steps → r ≡ begins SLASH b → weight (steps_of b).steps + cond r 1 0 ≤ length b + 1 → (parts b ≡ (steps_of b).steps) × (weight (parts b) ≤ length b + 1)
    at true p l w = absurd (true≢false (l ∙ unled (not (empty b)) (begins SLASH b) e))
    at false p l w = (p, omega (arith, ap weight p))

-- a relative text joined to a clean path gives a clean path
pub join_clean : (dir more : Text) → clean dir ≡ true → relative more ≡ true → (clean (join dir more) ≡ true) × (begins SLASH (join dir more) ≡ true)
join_clean dir more c r =
    let n = clean_names dir c in
    let st = relative_steps more r in
    let w = walk true n.0 (steps_of more).steps n.1 (steps_of more).each in
    let is : join dir more ≡ spelled true w.names =
    (join_walk dir more r).0 ∙ (λ i. walked (n.2 i) (st.0 i)) ∙ w.is in
    (ap clean is ∙ clean_spelled w.names w.each, ap (begins SLASH) is)

-- a text without `..` keeps what it is joined to in front
grown_keeps : (a p : Text) → bytes_eq p above ≡ false → (rest : Text) × (grown a p ≡ a ++ rest)
unfolding grown
grown_keeps a p e = at (bytes_eq p here)
  where
    at : (v : Bool) → (rest : Text) × (grown_by (cond v CurDir (cond (bytes_eq p above) ParentDir Normal)) a p ≡ a ++ rest)
    at true = ([], sym (append-nil a))
    at false = (separator a ++ p, ap (λ (w : Bool). grown_by (cond w ParentDir Normal) a p) e ∙ append_assoc a (separator a) p)

walked_keeps : (a : Text) (ps : List Text) → climbs ps ≡ false → (rest : Text) × (walked a ps ≡ a ++ rest)
unfolding walked
walked_keeps a [] h = ([], sym (append-nil a))
walked_keeps a (p ∷ ps) h =
    let e = or_parts (bytes_eq p above) (climbs ps) h in
    let g = grown_keeps a p e.0 in
    let w = walked_keeps (grown a p) ps e.1 in
    (g.0 ++ w.0, w.1 ∙ ap (λ (s : Text). s ++ w.0) g.1 ∙ append_assoc a g.0 w.0)

pub join_keeps : (dir more : Text) → relative more ≡ true → climbs (parts more) ≡ false → take (length dir) (join dir more) ≡ dir
join_keeps dir more r c =
    let w = walked_keeps dir (parts more) c in
    ap (take (length dir)) ((join_walk dir more r).0 ∙ w.1) ∙ take_at dir w.0 (length dir) refl

-- how long a joined text can be
take_short : (n : ℕ) (s : Text) → length (take n s) ≤ length s
take_short n s = simp length-take (omega arith)

cut_short : (s : Text) → length (cut s) ≤ length s
unfolding cut
cut_short s = take_short (cut_length s (marks s)) s

separator_short : (s : Text) → length (separator s) ≤ 1
separator_short s = cond_both (empty s || ends SLASH s) [] root (λ t. length t ≤ 1) (λ _. omega arith) (λ _. omega arith)

grown_short : (a p : Text) → length (grown a p) ≤ length a + length p + 1
unfolding grown
grown_short a p = by_kind (component p)
  where
    by_kind : (k : Component) → length (grown_by k a p) ≤ length a + length p + 1
    by_kind CurDir = omega arith
    by_kind ParentDir = omega (arith, cut_short a)
    by_kind Normal = omega (arith, length-append (slashed a) p, length-append a (separator a), separator_short a)

peak_short : (a : Text) (ps : List Text) → peak a ps ≤ length a + weight ps
unfolding peak
peak_short a [] = omega arith
peak_short a (p ∷ ps) = omega (arith, peak_short (grown a p) ps, grown_short a p)

walked_short : (a : Text) (ps : List Text) → length (walked a ps) ≤ length a + weight ps
unfolding walked
walked_short a [] = omega arith
walked_short a (p ∷ ps) = omega (arith, walked_short (grown a p) ps, grown_short a p)

pub join_short : (dir more : Text) → (length (join dir more) ≤ length dir + length more + 1) × (length dir + length more + 1 ≤ 255 → joins dir more ≡ true)
join_short dir more = ⊎_elim
    (λ (r : relative more ≡ true).
    let j = join_walk dir more r in
    let light = (relative_steps more r).1 in
    (omega (arith, ap length j.0, walked_short dir (parts more)), λ h. j.1 ∙ le-leb (peak dir (parts more)) 255 (omega (arith, peak_short dir (parts more)))))
    (λ (r : relative more ≡ false).
    let j = join_whole dir more r in
    (omega (arith, ap length j.0), λ h. j.1 ∙ le-leb (length more) 255 (omega arith)))
    (cases_Bool (relative more))

-- normalizing, as a walk within 255 bytes
tail_texts : (ms : List Mark) (p : Text) (ps : List Text) → texts_of ms ≡ p ∷ ps → texts_of (but_first ms) ≡ ps
tail_texts [] p ps e = let z = ap length e in absurd (omega arith)
tail_texts (m ∷ ms) p ps e = cc

normal_walk : (t : Text) → length t ≤ 255 → walked_within (spelled (steps_of t).rooted []) (steps_of t).steps ≡ normalized t
normal_walk t h =
    let low : peak (spelled (steps_of t).rooted []) (steps_of t).steps ≤ 255 = bounded (steps_of t).rooted (way t).low (steps_of t).light in
    cond-true _ _ _ (le-leb (peak (spelled (steps_of t).rooted []) (steps_of t).steps) 255 low)
    ∙ ap Some ((way t).is ∙ sym (normalize_names t))
    ∙ sym (cond-true _ _ _ (le-leb (length t) 255 h))
  where
    bounded : (r : Bool) → peak (spelled r []) (steps_of t).steps ≤ size r (0 + weight (steps_of t).steps) → weight (steps_of t).steps + cond r 1 0 ≤ length t + 1 → peak (spelled r []) (steps_of t).steps ≤ 255
    bounded true low light = omega arith
    bounded false low light = omega arith

pub normal_rooted : (t : Text) → length t ≤ 255 → begins SLASH t ≡ true → walked_within root (texts_of (but_first (marks t))) ≡ normalized t
unfolding parts
normal_rooted t h b = at (steps_of t).rooted (steps_of t).are ((steps_of t).leads ∙ b) (normal_walk t h)
  where
    at : (r : Bool) → texts_of (marks t) ≡ cond r (root ∷ (steps_of t).steps) (steps_of t).steps → r ≡ true → walked_within (spelled r []) (steps_of t).steps ≡ normalized t → walked_within root (texts_of (but_first (marks t))) ≡ normalized t
    at true e r w = ap (walked_within root) (tail_texts (marks t) root (steps_of t).steps e) ∙ w
    at false e r w = absurd (false≢true r)

pub normal_unrooted : (t : Text) → length t ≤ 255 → begins SLASH t ≡ false → walked_within [] (texts_of (marks t)) ≡ normalized t
unfolding parts
normal_unrooted t h b = at (steps_of t).rooted (steps_of t).are ((steps_of t).leads ∙ b) (normal_walk t h)
  where
    at : (r : Bool) → texts_of (marks t) ≡ cond r (root ∷ (steps_of t).steps) (steps_of t).steps → r ≡ false → walked_within (spelled r []) (steps_of t).steps ≡ normalized t → walked_within [] (texts_of (marks t)) ≡ normalized t
    at true e r w = absurd (true≢false r)
    at false e r w = ap (walked_within []) e ∙ w

-- a clean path is normal
pub normalize_clean : (s : Text) → clean s ≡ true → normalize s ≡ s
normalize_clean s h = let n = clean_names s h in ap normalize n.2 ∙ normalize_spelled true n.0 n.1 ∙ sym n.2

-- a path with names after more parts, where the names that were there stay in front
abbrev Down : Bool → List Text → List Text → Type 0
Down r ns ps = (more : List Text) × AllByRecursion Name more × (walked (spelled r ns) ps ≡ spelled r (ns ++ more))

-- steps without `..` put names behind those that are there
walk_down : (r : Bool) (ns ps : List Text) → AllByRecursion Name ns → AllByRecursion Step ps → climbs ps ≡ false → Down r ns ps
unfolding walked
walk_down r ns [] h s c = ([], tt, ap (spelled r) (sym (append-nil ns)))
walk_down r ns (p ∷ ps) h s c =
    let low = or_parts (bytes_eq p above) (climbs ps) c in
    by_step s.0 low.0 (λ (ms : List Text) (k : AllByRecursion Name ms). walk_down r ms ps k s.1 low.1)
  where
    by_step : Step p → bytes_eq p above ≡ false → ((ms : List Text) → AllByRecursion Name ms → Down r ms ps) → Down r ns (p ∷ ps)
    by_step (inl e) low ih =
        let w = ih ns h in
        (w.0, w.1, ap (λ (a : Text). walked a ps) (grown_is CurDir (spelled r ns) p (sym (cond-true _ _ _ ((bytes_eq-Decides p here).1 e)))) ∙ w.2)
    by_step (inr (inl e)) low ih = absurd (true≢false (sym ((bytes_eq-Decides p above).1 e) ∙ low))
    by_step (inr (inr n)) low ih =
        let w = ih (ns ++ p ∷ []) (All-append Name ns (p ∷ []) h (n, tt)) in (
          p ∷ w.0,
          (n, w.1),
          ap (λ (a : Text). walked a ps) (grown_name (spelled r ns) p n ∙ slashed_name r ns p h) ∙ w.2 ∙ ap (spelled r) (append_assoc ns (p ∷ []) w.0),
        )

-- a relative text without `..` joined to a clean path: its parts begin with those of the path
pub join_below : (dir more : Text) → clean dir ≡ true → relative more ≡ true → climbs (parts more) ≡ false → (rest : List Text) × (parts (join dir more) ≡ parts dir ++ rest)
join_below dir more c r low =
    let n = clean_names dir c in
    let st = relative_steps more r in
    let w = walk_down true n.0 (steps_of more).steps n.1 (steps_of more).each (ap climbs (sym st.0) ∙ low) in (
      w.0,
      ap parts ((join_walk dir more r).0 ∙ (λ i. walked (n.2 i) (st.0 i)) ∙ w.2)
          ∙ parts_spelled true (n.0 ++ w.0) (All-append Name n.0 w.0 n.1 w.1)
          ∙ ap (λ (ps : List Text). ps ++ w.0) (sym (ap parts n.2 ∙ parts_spelled true n.0 n.1)),
    )

walked_low : (a : Text) (ps : List Text) → length (walked a ps) ≤ peak a ps
unfolding walked peak
walked_low a [] = omega arith
walked_low a (p ∷ ps) = omega (arith, walked_low (grown a p) ps)

-- a text that can be joined gives one of at most 255 bytes
pub join_fits : (a b : Text) → joins a b ≡ true → length (join a b) ≤ 255
unfolding join joins
join_fits a b h = at (replaces (parts b)) h
  where
    at : (v : Bool) → cond v (fits b) (leb (peak a (parts b)) 255) ≡ true → length (cond v b (walked a (parts b))) ≤ 255
    at true e = leb-true (length b) 255 e
    at false e = omega (arith, walked_low a (parts b), leb-true (peak a (parts b)) 255 e)
