-- Where the pieces of a request stand, and the laws of reading. Assumes nothing.
use Rattle.std.proofs.Common.{◌≡◌, ℕ, zero, suc, ◌+◌, ◌-◌, ◌<◌, ◌≤◌, true, false, cond, ◌&&◌, eqb, ltb, [], ◌∷◌, ◌++◌, length, get_or, take, drop, IfOk, Some, None, Ok, Err, Option, Result, sym, refl, ap, ◌∙◌, subst, arith}
use Rattle.std.proofs.lemmas.List.{take_rest, length-take, length-drop, take-append-drop, drop-drop, take_all, take-take}
use Rattle.std.proofs.lemmas.Slice.{between_is}
use Rattle.std.proofs.lemmas.Bool.{cond-true, cond-false, cond_both, and_right, le-ltb, ltb-true, ltb-false}
use Rattle.specifier.specs.declared.request.Specifier.{Specifier}
use Rattle.specifier.specs.declared.request.SpecifierError.{SpecifierError}
use Rattle.specifier.specs.declared.request.SpecifierError.TheVariants.{Empty}
use Rattle.specifier.specs.Requests.{passed, skip, until_hash, fragment_at, query_at, escapes, unescaped, place_between, path_place, query_place, fragment_place, piece_at, raw_path, path_of, query_of, fragment_of, specifier_of}
use Rattle.specifier.specs.Rules.{AllPath, Holds, bytes_of, marked, together}
use Rattle.specifier.proofs.Scans.{until_hash_le, until_finds, until_hash_finds, has_before, has_drop, hasnt_head, hasnt_tail, until_all, until_hash_all}
use Rattle.texts.proofs.ByteLoops.{until_le}
use Rattle.texts.specs.declared.place.Place.{Place}
use Rattle.texts.specs.Texts.{Text, NUL, HASH, QUESTION, begins, empty, has, until}

pub skip_le : (s : Text) → skip s ≤ length s
skip_le [] = omega arith
skip_le (b ∷ s) = cond_both (passed b) 1 0 (λ n. n ≤ suc (length s)) (λ _. omega arith) (λ _. omega arith)

-- the pieces stand in their order
module _ (s : Text) where
  pub skip_fragment : skip s ≤ fragment_at s
  unfolding fragment_at
  skip_fragment = omega arith

  pub fragment_le : fragment_at s ≤ length s
  unfolding fragment_at
  fragment_le = omega (arith, until_hash_le (get_or s 0 NUL) (drop (skip s) s), length-drop (skip s) s, skip_le s)

  pub skip_query : skip s ≤ query_at s
  unfolding query_at
  skip_query = omega arith

  pub query_le : query_at s ≤ fragment_at s
  unfolding query_at
  query_le =
      let fits = until_le QUESTION (drop (skip s) (take (fragment_at s) s)) in
      omega (arith, simp (length-drop, length-take) at fits, skip_fragment, fragment_le)

-- what the code adds up
pub fragment_start : (s : Text) (k n : ℕ) → k ≡ skip s → n ≡ until_hash (get_or s 0 0) (take (length s - k) (drop k s)) → k + n ≡ fragment_at s
unfolding fragment_at
fragment_start s k n e h = let rest = take_rest s k in cc

pub query_start : (s : Text) (k e n : ℕ) → k ≡ skip s → e ≡ fragment_at s → n ≡ until QUESTION (take (e - k) (drop k s)) → k + n ≡ query_at s
unfolding query_at
query_start s k e n ek ee h = let part = between_is s k e in cc

-- the bytes of a piece are those from its start to its end
piece_bytes : (s : Text) (a e : ℕ) → bytes_of (piece_at s (place_between a e)) ≡ take (e - a) (drop a s)
piece_bytes s a e =
    elim (ltb a e) as (λ t. ltb a e ≡ t → bytes_of (piece_at s (cond t (Some (record { start = a; len = e - a })) None)) ≡ take (e - a) (drop a s)) [
      | true ↦ λ _. refl
      | false ↦ λ h. let none : 0 ≡ e - a = omega (arith, ltb-false a e h) in ap (λ n. take n (drop a s)) none
    ] refl

-- a piece begins with b if its bytes do
piece_marked : (b : ℕ) (s : Text) (a e : ℕ) → (a < e → begins b (take (e - a) (drop a s)) ≡ true) → marked b (piece_at s (place_between a e)) ≡ true
piece_marked b s a e h =
    elim (ltb a e) as (λ t. ltb a e ≡ t → marked b (piece_at s (cond t (Some (record { start = a; len = e - a })) None)) ≡ true) [
      | true ↦ λ k. h (ltb-true a e k)
      | false ↦ λ _. refl
    ] refl

-- there is no piece where nothing stands
no_piece : (s : Text) (a e : ℕ) → e ≤ a → piece_at s (place_between a e) ≡ None
no_piece s a e h = ap (piece_at s) (cond-false _ _ _ (le-ltb a e h))

-- a text in three pieces
three_pieces : (s : Text) (a e : ℕ) → a ≤ e → take a s ++ (take (e - a) (drop a s) ++ take (length s - e) (drop e s)) ≡ s
three_pieces s a e h =
    let end : take (length s - e) (drop e s) ≡ drop (e - a) (drop a s) =
    take_rest s e ∙ ap (λ k. drop k s) (omega arith) ∙ sym (drop-drop (e - a) a s) in
    ap (λ t. take a s ++ (take (e - a) (drop a s) ++ t)) end
    ∙ ap (λ t. take a s ++ t) (take-append-drop (e - a) (drop a s))
    ∙ take-append-drop a s

begins_not : (b : ℕ) (s : Text) → has b s ≡ false → begins b s ≡ false
begins_not b [] h = refl
begins_not b (c ∷ s) h = hasnt_head b c s h

-- without a `#` there is no escape
pub unescaped_same : (s : Text) → has HASH s ≡ false → unescaped s ≡ s
unescaped_same [] h = refl
unescaped_same (b ∷ s) h =
    let more = hasnt_tail HASH b s h in
    cond-false _ _ _ (and_right _ _ (begins_not HASH s more)) ∙ ap (λ t. b ∷ t) (unescaped_same s more)

-- a text is not emptied by taking escapes out
pub unescaped_some : (s : Text) → empty (unescaped s) ≡ empty s
unescaped_some [] = refl
unescaped_some (b ∷ []) = elim (eqb b NUL) as (λ t. empty (cond (t && false) [] (b ∷ [])) ≡ false) [ true ↦ refl | false ↦ refl ]
unescaped_some (b ∷ c ∷ s) =
    elim (escapes (b ∷ c ∷ s)) as (λ t. empty (cond t (unescaped (c ∷ s)) (b ∷ unescaped (c ∷ s))) ≡ false) [
      | true ↦ unescaped_some (c ∷ s)
      | false ↦ refl
    ]

module _ (s : Text) where
  back : together s ≡ s
  unfolding query_of fragment_of
  back =
      (λ i. raw_path s ++ (piece_bytes s (query_at s) (fragment_at s) i ++ piece_bytes s (fragment_at s) (length s) i))
      ∙ three_pieces s (query_at s) (fragment_at s) (query_le s)

  query_marked : marked QUESTION (query_of s) ≡ true
  unfolding query_at query_of
  query_marked = piece_marked QUESTION s (query_at s) (fragment_at s) (λ h.
      let scanned = drop (skip s) (take (fragment_at s) s) in
      let long : length scanned ≡ fragment_at s - skip s = simp (length-drop, length-take) (omega (arith, fragment_le s)) in
      let n = until QUESTION scanned in
      ap (begins QUESTION) (between_is s (query_at s) (fragment_at s) ∙ sym (drop-drop n (skip s) (take (fragment_at s) s)))
      ∙ until_finds QUESTION scanned (omega arith))

  fragment_marked : marked HASH (fragment_of s) ≡ true
  unfolding fragment_at fragment_of
  fragment_marked = piece_marked HASH s (fragment_at s) (length s) (λ h.
      let scanned = drop (skip s) s in
      let first = get_or s 0 NUL in
      let n = until_hash first scanned in
      ap (begins HASH) (take_rest s (fragment_at s) ∙ sym (drop-drop n (skip s) s))
      ∙ until_hash_finds first scanned (omega (arith, length-drop (skip s) s)))

  no_mark : has QUESTION (drop (skip s) (raw_path s)) ≡ false
  unfolding query_at
  no_mark =
      let scanned = drop (skip s) (take (fragment_at s) s) in
      let n = until QUESTION scanned in
      let same : drop (skip s) (raw_path s) ≡ take n scanned =
      sym (between_is s (skip s) (query_at s))
      ∙ ap (λ k. take k (drop (skip s) s)) (omega arith)
      ∙ sym (take-take n (fragment_at s - skip s) (drop (skip s) s) (omega (arith, query_le s)))
      ∙ ap (take n) (between_is s (skip s) (fragment_at s)) in
      ap (has QUESTION) same ∙ has_before QUESTION scanned

  module _ (no_query : has QUESTION s ≡ false) (no_fragment : has HASH s ≡ false) where
    fragment_last : fragment_at s ≡ length s
    unfolding fragment_at
    fragment_last =
        omega (arith, until_hash_all (get_or s 0 NUL) (drop (skip s) s) (has_drop HASH (skip s) s no_fragment), length-drop (skip s) s, skip_le s)

    query_last : query_at s ≡ length s
    unfolding query_at
    query_last =
        let all : take (fragment_at s) s ≡ s = take_all (fragment_at s) s (omega (arith, fragment_last)) in
        let none : has QUESTION (drop (skip s) (take (fragment_at s) s)) ≡ false = has_drop QUESTION (skip s) _ (ap (has QUESTION) all ∙ no_query) in
        omega (arith, until_all QUESTION (drop (skip s) (take (fragment_at s) s)) none, ap (λ t. length (drop (skip s) t)) all, length-drop (skip s) s, skip_le s)

    all_path : AllPath s
    unfolding path_of query_of fragment_of
    all_path = record {
      path = ap unescaped (take_all (query_at s) s (omega (arith, query_last))) ∙ unescaped_same s no_fragment;
      no_query = no_piece s (query_at s) (fragment_at s) (omega (arith, query_last, fragment_last));
      no_fragment = no_piece s (fragment_at s) (length s) (omega (arith, fragment_last));
    }

  holds : IfOk (specifier_of s) (Holds s)
  unfolding specifier_of path_of query_of fragment_of
  holds = cond_both (empty (path_of s)) (Err Empty) (Ok (record { path = path_place s; query = query_place s; fragment = fragment_place s })) (λ r. IfOk r (Holds s)) (λ _. tt) (λ e. record { raw = refl; path = refl; query = refl; fragment = refl; not_empty = e })

-- what the contract of `parse` says, of any result that is what the request is read as
pub reading : (s : Text) (r : Result Specifier SpecifierError) → r ≡ specifier_of s → record {
  reads_the_request : r ≡ specifier_of s;
  places_hold_the_pieces : IfOk r (Holds s);
  all_path_without_marks : has QUESTION s ≡ false → has HASH s ≡ false → AllPath s;
  pieces_give_the_request_back : together s ≡ s;
  query_begins_with_its_mark : marked QUESTION (query_of s) ≡ true;
  fragment_begins_with_its_mark : marked HASH (fragment_of s) ≡ true;
  no_query_mark_in_the_path : has QUESTION (drop (skip s) (raw_path s)) ≡ false;
}
reading s r e = record {
  reads_the_request = e;
  places_hold_the_pieces = subst (λ x. IfOk x (Holds s)) (sym e) (holds s);
  all_path_without_marks = all_path s;
  pieces_give_the_request_back = back s;
  query_begins_with_its_mark = query_marked s;
  fragment_begins_with_its_mark = fragment_marked s;
  no_query_mark_in_the_path = no_mark s;
}

-- the first n bytes, if there are any
abbrev front : ℕ → Place
front n = record { start = 0; len = n }

no_front : (n : ℕ) → None ≡ place_between 0 n → n ≡ 0
no_front n h =
    elim (ltb 0 n) as (λ t. ltb 0 n ≡ t → None ≡ cond t (Some (front (n - 0))) None → n ≡ 0) [
      | true ↦ λ _ k. let z : ◌≡◌ {A = ℕ} 0 1 = cc in absurd (omega arith)
      | false ↦ λ e _. omega (arith, ltb-false 0 n e)
    ] refl h

front_is : (p : Place) (n : ℕ) → Some p ≡ place_between 0 n → (p ≡ front n) × (0 < n)
front_is p n h =
    elim (ltb 0 n) as (λ t. ltb 0 n ≡ t → Some p ≡ cond t (Some (front (n - 0))) None → (p ≡ front n) × (0 < n)) [
      | true ↦ λ e k. let same : p ≡ front (n - 0) = cc in (same ∙ ap front (omega arith), ltb-true 0 n e)
      | false ↦ λ _ k. let z : ◌≡◌ {A = ℕ} 0 1 = cc in absurd (omega arith)
    ] refl h

empty_take : (n : ℕ) (s : Text) → 0 < n → 0 < length s → empty (take n s) ≡ false
empty_take zero s h k = absurd (omega arith)
empty_take (suc n) [] h k = absurd (omega arith)
empty_take (suc n) (b ∷ s) h k = refl

-- a request with nothing before its query is refused
pub refused : (s : Text) → None ≡ place_between 0 (query_at s) → Err Empty ≡ specifier_of s
unfolding specifier_of path_of
refused s h = sym (cond-true _ _ _ (unescaped_some (raw_path s) ∙ ap (λ n. empty (take n s)) (no_front (query_at s) h)))

-- and any other is read
pub accepted : (s : Text) (p : Place) (q f : Option Place) → Some p ≡ place_between 0 (query_at s) → q ≡ query_place s → f ≡ fragment_place s → Ok (record { path = p; query = q; fragment = f }) ≡ specifier_of s
unfolding specifier_of path_of
accepted s p q f ep eq ef =
    let path = front_is p (query_at s) ep in
    let some = empty_take (query_at s) s path.1 (omega (arith, path.1, query_le s, fragment_le s)) in
    (λ i. Ok (record { path = path.0 i; query = eq i; fragment = ef i }))
    ∙ sym (cond-false _ _ _ (unescaped_some (raw_path s) ∙ some))

-- a request with no byte is refused
pub refused_empty : (s : Text) → length s ≡ 0 → Err Empty ≡ specifier_of s
refused_empty s h = refused s (sym (cond-false _ _ _ (le-ltb 0 (query_at s) (omega (arith, query_le s, fragment_le s)))))
