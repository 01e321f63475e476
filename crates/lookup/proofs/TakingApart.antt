-- A round's text, taken apart in its first unit. Assumes nothing.
use Rattle.std.proofs.Common.{◌≡◌, ℕ, suc, ◌+◌, ◌*◌, ◌-◌, ◌≤◌, Bool, true, false, cond, ltb, List, length, take, drop, IfSome, IsSome, rules, Some, None, Ok, Err, Option, sym, refl, ap, subst, ◌∙◌, arith}
use Rattle.std.proofs.lemmas.Bool.{cond-true, le-leb, ltb-true}
use Rattle.std.proofs.lemmas.List.{drop-drop, drop-take, length-drop, length-take-le, take-take}
use Rattle.std.specs.Option.{option_map}
use Rattle.texts.specs.declared.place.Place.{Place}
use Rattle.texts.specs.Texts.{Text, empty, length_in}
use Rattle.texts.specs.Parts.{text_at}
use Rattle.specifier.specs.declared.request.Specifier.{Specifier}
use Rattle.specifier.specs.declared.request.SpecifierError.{SpecifierError}
use Rattle.specifier.specs.declared.request.SpecifierError.TheVariants.{Empty}
use Rattle.specifier.specs.Requests.{fragment_at, fragment_of, fragment_place, path_of, path_place, piece_at, place_between, query_at, query_of, query_place, specifier_of, unescaped}
use Rattle.specifier.proofs.Copies.{unescaped_le}
use Rattle.specifier.proofs.Readings.{fragment_le, query_le}
use Rattle.lookup.specs.declared.calls.ResolveContext.{ResolveContext}
use Rattle.lookup.specs.declared.calls.Asked.{Asked}
use Rattle.lookup.specs.Areas.{OnlyIn}
use Rattle.lookup.specs.Lookups.{counted, newer, taking}
use Rattle.lookup.specs.Marks.{counted_context, newer_mark, shifted, taking_context}
use Rattle.lookup.specs.Opened.{MarkIn, MarksIn, context_of, first_unit}
use Rattle.lookup.proofs.Areas.{length_text_at, mark_stays, marks_stay}

-- how a request is read
abbrev pub read_as : Text → Specifier
read_as s = record { path = path_place s; query = query_place s; fragment = fragment_place s }

abbrev none : Specifier
none = record { path = record { start = 0; len = 0 }; query = None; fragment = None }

pub read_path : (s : Text) (p : Specifier) → Ok p ≡ specifier_of s → (empty (path_of s) ≡ false) × (p ≡ read_as s)
unfolding specifier_of
read_path s p h = at (empty (path_of s)) h refl
  where
    at : (v : Bool) → Ok p ≡ cond v (Err Empty) (Ok (read_as s)) → empty (path_of s) ≡ v → (empty (path_of s) ≡ false) × (p ≡ read_as s)
    at true e n = absurd cc
    at false e n = (n, cc)

pub read_none : (s : Text) (f : SpecifierError) → Err f ≡ specifier_of s → empty (path_of s) ≡ true
unfolding specifier_of
read_none s f h = at (empty (path_of s)) h refl
  where
    at : (v : Bool) → Err f ≡ cond v (Err Empty) (Ok (read_as s)) → empty (path_of s) ≡ v → empty (path_of s) ≡ true
    at true e n = n
    at false e n = absurd cc

-- a place between two others ends at the second
pub between_ends : (a e n : ℕ) → e ≤ n → IfSome (place_between a e) (λ p. p.start + p.len ≤ n)
between_ends a e n h = at (ltb a e) refl
  where
    at : (v : Bool) → ltb a e ≡ v → IfSome {T = Place} (cond v (Some (record { start = a; len = e - a })) None) (λ p. p.start + p.len ≤ n)
    at true l = omega (arith, h, ltb-true a e l)
    at false l = tt

pub query_ends : (s : Text) → IfSome (query_place s) (λ p. p.start + p.len ≤ length s)
query_ends s = between_ends (query_at s) (fragment_at s) (length s) (fragment_le s)

pub fragment_ends : (s : Text) → IfSome (fragment_place s) (λ p. p.start + p.len ≤ length s)
fragment_ends s = between_ends (fragment_at s) (length s) (length s) (omega arith)

module _ (w : List ℕ) (a : Asked) (start : a.text.start ≡ 256 * first_unit a.round) (short : a.text.len ≤ 255) (room : 256 * first_unit a.round + 256 ≤ length w) where
  abbrev s : Text
  s = text_at w a.text

  pub size : length s ≡ a.text.len
  size = length-take-le a.text.len (drop a.text.start w) (omega (arith, length-drop a.text.start w, start, short, room))

  -- a part of the text is read off the work text
  part_of : (p : Place) → p.start + p.len ≤ length s → text_at w (record { start = a.text.start + p.start; len = p.len }) ≡ text_at s p
  part_of p h =
      let l = a.text.len - p.start in
      let more : p.start + l ≡ a.text.len = omega (arith, h, size) in
      ap (take p.len) (sym (drop-drop p.start a.text.start w))
      ∙ sym (take-take p.len l (drop p.start (drop a.text.start w)) (omega (arith, h, size)))
      ∙ ap (take p.len) (sym (drop-take p.start l (drop a.text.start w)))
      ∙ ap (λ (n : ℕ). take p.len (drop p.start (take n (drop a.text.start w)))) more

  module _ (rounds : ℕ) (its : rounds ≡ a.round + 1) where
    mark_there : (p : Place) → p.start + p.len ≤ length s → MarkIn rounds (record { start = a.text.start + p.start; len = p.len })
    mark_there p h = record { round = a.round; begun = omega (arith, its); there = (omega (arith, start), omega (arith, start, h, size, short)); short = omega (arith, h, size, short) }

    pub marks_there : (q old : Option Place) → IfSome q (λ p. p.start + p.len ≤ length s) → MarksIn rounds old → MarksIn rounds (newer_mark (shifted a.text.start q) old)
    marks_there None old h o = o
    marks_there (Some p) old h o = mark_there p h

    module _ (u : List ℕ) (only : OnlyIn (first_unit a.round + 1) w u) where
      newer_marks : (q old : Option Place) → IfSome q (λ p. p.start + p.len ≤ length s) → MarksIn rounds old → option_map (text_at u) (newer_mark (shifted a.text.start q) old) ≡ newer (piece_at s q) (option_map (text_at w) old)
      newer_marks None old h o = marks_stay rounds a.round 1 w u old (omega arith) (omega arith) only o
      newer_marks (Some p) old h o = ap Some (mark_stays rounds a.round 1 w u (record { start = a.text.start + p.start; len = p.len }) (omega arith) (omega arith) only (mark_there p h) ∙ part_of p h)

      read_query : (c : ResolveContext) → MarksIn rounds c.query → option_map (text_at u) (newer_mark (shifted a.text.start (query_place s)) c.query) ≡ newer (query_of s) (option_map (text_at w) c.query)
      unfolding query_of
      read_query c o = newer_marks (query_place s) c.query (query_ends s) o

      read_fragment : (c : ResolveContext) → MarksIn rounds c.fragment → option_map (text_at u) (newer_mark (shifted a.text.start (fragment_place s)) c.fragment) ≡ newer (fragment_of s) (option_map (text_at w) c.fragment)
      unfolding fragment_of
      read_fragment c o = newer_marks (fragment_place s) c.fragment (fragment_ends s) o

      pub takes : (c : ResolveContext) → MarksIn rounds c.query → MarksIn rounds c.fragment → context_of u (taking_context c (read_as s) a.text.start) ≡ taking s (context_of w c)
      takes c q f =
          let query = read_query c q in
          let fragment = read_fragment c f in
          λ i. record { rounds = c.rounds; fully = c.fully_specified; query = query i; fragment = fragment i }

-- a path without its escapes
pub path_is : (s : Text) → unescaped (text_at s (path_place s)) ≡ path_of s
unfolding path_of
path_is s = refl

-- a context with one more round
pub counts : (w : List ℕ) (c : ResolveContext) → context_of w (counted_context c) ≡ counted (context_of w c)
counts w c = ap (λ (n : ℕ). record { rounds = n; fully = c.fully_specified; query = option_map (text_at w) c.query; fragment = option_map (text_at w) c.fragment }) (let e : c.rounds + 1 ≡ suc c.rounds = omega arith in e)

-- the path of a text is no longer than the text
pub path_short : (s : Text) → length (path_of s) ≤ length s
path_short s = omega (arith, ap length (path_is s), unescaped_le (text_at s (path_place s)), length_text_at s (path_place s), query_le s, fragment_le s)

-- the marks of a short text start early
pub early : (q : Option Place) (n : ℕ) → n ≤ 255 → IfSome q (λ p. p.start + p.len ≤ n) → IfSome q (λ p. p.start ≤ 255)
early None n h e = tt
early (Some p) n h e = omega (arith, h, e)

-- a text that fits a buffer is written to it
pub goes_in : (o : Option ℕ) (xs : List ℕ) (n : ℕ) → length xs ≤ n → o ≡ length_in (Some xs) n → IsSome o
goes_in o xs n h e = subst (λ (z : Option ℕ). IsSome z) (sym (e ∙ cond-true _ _ _ (le-leb (length xs) n h))) (search rules)
