-- How a scan of a text finds its parts. Assumes nothing.
use Rattle.std.proofs.Common.{◌≡◌, ℕ, zero, suc, ◌+◌, ◌-◌, ◌<◌, ◌≤◌, Bool, true, false, cond, eqb, ltb, leb, List, [], ◌∷◌, length, get_or, take, drop, Some, sym, refl, ap, ◌∙◌, subst, ⊎_elim, arith}
use Rattle.std.proofs.lemmas.List.{drop-drop, drop_more, drop_all, get_or-drop, length-drop, length-take-le}
use Rattle.std.proofs.lemmas.Bool.{and_parts, cases_eq, cases_lt, cond-true, cond-false, eq-eqb, eqb-true, false≢true, ne_eqb, leb-true, lt-ltb, le-ltb}
use Rattle.std.proofs.lemmas.Bool.Decides.{nat_tests}
use Rattle.texts.specs.declared.place.Place.{Place}
use Rattle.texts.specs.Texts.{Text, SLASH, empty, until}
use Rattle.texts.specs.Parts.{Mark, root, pieces, before, solid, placed, inner, headed, marks, parts, texts_of, text_at}
use Rattle.texts.specs.Scans.{marks_left, stands, rest_text, Next}
use Rattle.texts.specs.Walks.{first_place, first_text, but_first}
use Rattle.texts.proofs.ByteLoops.{until_le}

-- what stands behind the first piece
abbrev pub others : Text → List Text
others s = cond (ltb (until SLASH s) (length s)) (pieces (drop (until SLASH s + 1) s)) []

less_suc : (a b : ℕ) → ltb a b ≡ ltb (suc a) (suc b)
less_suc a b = grind (arith, nat_tests)

split_more : (b : ℕ) (s : Text) → pieces s ≡ take (until SLASH s) s ∷ others s → (v : Bool) → cond v ([] ∷ pieces s) (before b (pieces s)) ≡ take (cond v 0 (suc (until SLASH s))) (b ∷ s) ∷ cond (ltb (cond v 0 (suc (until SLASH s))) (suc (length s))) (pieces (drop (cond v 0 (suc (until SLASH s)) + 1) (b ∷ s))) []
split_more b s ih true = ap (λ (v : Bool). [] ∷ cond v (pieces s) []) (sym (lt-ltb 0 (suc (length s)) (omega arith)))
split_more b s ih false =
    let more : suc (until SLASH s) + 1 ≡ suc (until SLASH s + 1) = omega arith in
    ap (before b) ih
    ∙ ap (λ (n : ℕ). (b ∷ take (until SLASH s) s) ∷ cond (ltb (until SLASH s) (length s)) (pieces (drop n (b ∷ s))) []) (sym more)
    ∙ ap (λ (v : Bool). (b ∷ take (until SLASH s) s) ∷ cond v (pieces (drop (suc (until SLASH s) + 1) (b ∷ s))) []) (less_suc (until SLASH s) (length s))

-- the first piece goes up to the first slash
pub pieces_split : (s : Text) → pieces s ≡ take (until SLASH s) s ∷ others s
unfolding pieces
pieces_split [] = refl
pieces_split (b ∷ s) = split_more b s (pieces_split s) (eqb b SLASH)

pub until_there : (b : ℕ) (s : Text) → until b s < length s → get_or s (until b s) 0 ≡ b
until_there b [] h = absurd (omega arith)
until_there b (c ∷ s) h = at (eqb c b) refl h (until_there b s)
  where
    at : (v : Bool) → eqb c b ≡ v → cond v 0 (suc (until b s)) < suc (length s) → (until b s < length s → get_or s (until b s) 0 ≡ b) → get_or (c ∷ s) (cond v 0 (suc (until b s))) 0 ≡ b
    at true e h ih = eqb-true c b e
    at false e h ih = ih (omega arith)

-- parts behind a slash
pub left_later : (t : Text) (at : ℕ) → 0 < at → marks_left t at ≡ inner (placed at (pieces (drop at t)))
left_later t at h = cond-false _ _ _ (ne_eqb at 0 (λ e. omega arith))

pub pieces_slash : (s : Text) → pieces (SLASH ∷ s) ≡ [] ∷ pieces s
unfolding pieces
pieces_slash s = refl

pieces_none : pieces [] ≡ [] ∷ []
unfolding pieces
pieces_none = refl

-- a slash alone adds no part
pub over_slash : (t : Text) (at : ℕ) → 0 < at → at < length t → get_or t at 0 ≡ SLASH → marks_left t at ≡ marks_left t (at + 1)
over_slash t at some inside slash =
    let here : pieces (drop at t) ≡ [] ∷ pieces (drop (at + 1) t) =
    ap pieces (drop_more t at 0 inside ∙ ap (λ (b : ℕ). b ∷ drop (at + 1) t) slash) ∙ pieces_slash (drop (at + 1) t) in
    let next : at + 0 + 1 ≡ at + 1 = omega arith in
    left_later t at some
    ∙ ap (λ (ps : List Text). inner (placed at ps)) here
    ∙ ap (λ (n : ℕ). inner (placed n (pieces (drop (at + 1) t)))) next
    ∙ sym (left_later t (at + 1) (omega arith))

-- no part is left at the end
pub at_end : (t : Text) (at : ℕ) → 0 < at → length t ≤ at → marks_left t at ≡ []
at_end t at some end = left_later t at some ∙ ap (λ (ps : List Text). inner (placed at ps)) (ap pieces (drop_all at t end) ∙ pieces_none)

stands_at_slash : (t : Text) (at : ℕ) → at ≤ length t → get_or t at 0 ≡ SLASH → stands t at ≡ true
stands_at_slash t at h e = grind (arith, nat_tests)

stands_at_end : (t : Text) (at : ℕ) → at ≡ length t → stands t at ≡ true
stands_at_end t at e = grind (arith, nat_tests)

pub stands_behind_root : (s : Text) → stands (SLASH ∷ s) 1 ≡ true
stands_behind_root s = grind (arith, nat_tests)

-- the piece that begins at `start`
module _ (t : Text) (start : ℕ) (inside : start ≤ length t) where
  abbrev piece_length : ℕ
  piece_length = until SLASH (drop start t)

  pub piece_within : start + piece_length ≤ length t
  piece_within = omega (arith, until_le SLASH (drop start t), length-drop start t)

  piece_size : length (take piece_length (drop start t)) ≡ piece_length
  piece_size = length-take-le piece_length (drop start t) (until_le SLASH (drop start t))

  pub slash_behind : start + piece_length < length t → get_or t (start + piece_length) 0 ≡ SLASH
  slash_behind h = sym (get_or-drop start t piece_length 0) ∙ until_there SLASH (drop start t) (omega (arith, length-drop start t))

  pub stands_behind : stands t (start + piece_length) ≡ true
  stands_behind = ⊎_elim
      (λ (h : start + piece_length < length t). stands_at_slash t (start + piece_length) piece_within (slash_behind h))
      (λ (h : length t ≤ start + piece_length). stands_at_end t (start + piece_length) (omega (arith, piece_within)))
      (cases_lt (start + piece_length) (length t))

  -- what is left behind it
  others_left : 0 < start + piece_length → inner (placed (start + piece_length + 1) (others (drop start t))) ≡ marks_left t (start + piece_length)
  others_left some = ⊎_elim
      (λ (h : start + piece_length < length t).
      let next : start + (piece_length + 1) ≡ start + piece_length + 1 = omega arith in
      ap (λ (ps : List Text). inner (placed (start + piece_length + 1) ps)) (cond-true _ _ _ (lt-ltb piece_length (length (drop start t)) (omega (arith, length-drop start t))) ∙ ap pieces (drop-drop (piece_length + 1) start t ∙ ap (λ (n : ℕ). drop n t) next))
      ∙ sym (left_later t (start + piece_length + 1) (omega arith))
      ∙ sym (over_slash t (start + piece_length) some h (slash_behind h)))
      (λ (h : length t ≤ start + piece_length).
      ap (λ (ps : List Text). inner (placed (start + piece_length + 1) ps)) (cond-false _ _ _ (le-ltb piece_length (length (drop start t)) (omega (arith, length-drop start t))))
      ∙ sym (at_end t (start + piece_length) some h))
      (cases_lt (start + piece_length) (length t))

  -- behind a slash it is a part if it is solid
  pub piece_later : 0 < start → marks_left t start ≡ cond (solid (take piece_length (drop start t))) ((take piece_length (drop start t), start + piece_length) ∷ marks_left t (start + piece_length)) (marks_left t (start + piece_length))
  piece_later some =
      left_later t start some
      ∙ ap (λ (ps : List Text). inner (placed start ps)) (pieces_split (drop start t))
      ∙ ap (λ (n : ℕ). cond (solid (take piece_length (drop start t))) ((take piece_length (drop start t), start + n) ∷ inner (placed (start + n + 1) (others (drop start t)))) (inner (placed (start + n + 1) (others (drop start t))))) piece_size
      ∙ ap (λ (ms : List Mark). cond (solid (take piece_length (drop start t))) ((take piece_length (drop start t), start + piece_length) ∷ ms) ms) (others_left (omega arith))

headed_some : (m : Mark) (ms : List Mark) → empty m.0 ≡ false → headed (m ∷ ms) ≡ m ∷ inner ms
headed_some m [] e = cond-false _ _ _ e
headed_some m (n ∷ ms) e = cond-false _ _ _ e

-- the first piece of a text with no slash in front
pub piece_first : (t : Text) → 0 < until SLASH t → marks_left t 0 ≡ (take (until SLASH t) t, until SLASH t) ∷ marks_left t (until SLASH t)
unfolding marks
piece_first t some =
    let size : length (take (until SLASH t) t) ≡ until SLASH t = length-take-le (until SLASH t) t (until_le SLASH t) in
    let zero_more : (n : ℕ) → 0 + n ≡ n = λ n. omega arith in
    ap (λ (ps : List Text). headed (placed 0 ps)) (pieces_split t)
    ∙ headed_some _ _ (taken_some t (until SLASH t) some (until_le SLASH t))
    ∙ ap (λ (n : ℕ). (take (until SLASH t) t, n) ∷ inner (placed (n + 1) (others t))) (zero_more (length (take (until SLASH t) t)) ∙ size)
    ∙ ap (λ (ms : List Mark). (take (until SLASH t) t, until SLASH t) ∷ ms) (others_first t some)
  where
    taken_some : (s : Text) (n : ℕ) → 0 < n → n ≤ length s → empty (take n s) ≡ false
    taken_some [] n h k = absurd (omega arith)
    taken_some (b ∷ s) zero h k = absurd (omega arith)
    taken_some (b ∷ s) (suc n) h k = refl

    others_first : (s : Text) → 0 < until SLASH s → inner (placed (until SLASH s + 1) (others s)) ≡ marks_left s (until SLASH s)
    others_first s h =
        let zero_more : 0 + until SLASH s ≡ until SLASH s = omega arith in
        subst (λ (n : ℕ). inner (placed (n + 1) (others s)) ≡ marks_left s n) zero_more (others_left s 0 (omega arith) (omega arith))

-- a leading slash is a part
pub piece_root : (s : Text) → marks_left (SLASH ∷ s) 0 ≡ (root, 1) ∷ marks_left (SLASH ∷ s) 1
unfolding marks
piece_root s =
    ap (λ (ps : List Text). headed (placed 0 ps)) (pieces_slash s ∙ ap (λ (ps : List Text). [] ∷ ps) (pieces_split s))
    ∙ ap (λ (ps : List Text). (root, 1) ∷ inner (placed 1 ps)) (sym (pieces_split s))

pub none_first : marks_left [] 0 ≡ []
unfolding marks pieces
none_first = refl

solid_some : (n : ℕ) (s : Text) → solid (take n s) ≡ true → 0 < n
solid_some zero s h = absurd (false≢true h)
solid_some (suc n) s h = omega arith

-- the part at a place, as a scan finds it
module _ (t : Text) (at start len : ℕ) (low : at ≤ start) (inside : start ≤ length t) (some : 0 < start) (size : len ≡ until SLASH (drop start t)) (same : marks_left t at ≡ marks_left t start) where
  pub next_later : solid (take len (drop start t)) ≡ true → Next t at (record { start = start; len = len })
  next_later part = subst
      (λ (n : ℕ). solid (take n (drop start t)) ≡ true → Next t at (record { start = start; len = n }))
      (sym size)
      (λ is_part. record {
        low = low;
        some = solid_some (until SLASH (drop start t)) (drop start t) is_part;
        stop = stands_behind t start inside;
        is = same ∙ piece_later t start inside some ∙ cond-true _ _ _ is_part;
      })
      part

  pub none_later : solid (take len (drop start t)) ≡ false → marks_left t at ≡ marks_left t (start + len)
  none_later no_part = same ∙ subst
      (λ (n : ℕ). solid (take n (drop start t)) ≡ false → marks_left t start ≡ marks_left t (start + n))
      (sym size)
      (λ dull. piece_later t start inside some ∙ cond-false _ _ _ dull)
      no_part

  pub slash_later : start + len ≤ length t → (start + len ≡ length t → ⊥) → solid (take len (drop start t)) ≡ false → marks_left t at ≡ marks_left t (start + len + 1)
  slash_later within more no_part =
      none_later no_part
      ∙ over_slash t (start + len) (omega arith) (omega arith)
      (ap (λ (n : ℕ). get_or t (start + n) 0) size ∙ slash_behind t start inside (omega (arith, size)))

-- the first part
pub next_first : (t : Text) (len : ℕ) → len ≡ until SLASH t → 0 < len → Next t 0 (record { start = 0; len = len })
next_first t len size some =
    let at : 0 + until SLASH t ≡ until SLASH t = omega arith in
    subst (λ (n : ℕ). Next t 0 (record { start = 0; len = n })) (sym size) (record {
      low = omega arith;
      some = omega arith;
      stop = stands_behind t 0 (omega arith);
      is = piece_first t (omega arith) ∙ ap (λ (n : ℕ). (take (until SLASH t) t, n) ∷ marks_left t n) (sym at);
    })

pub next_root : (t : Text) → 0 < length t → get_or t 0 0 ≡ SLASH → Next t 0 (record { start = 0; len = 1 })
next_root [] h e = absurd (omega arith)
next_root (b ∷ s) h e =
    subst (λ (c : ℕ). Next (c ∷ s) 0 (record { start = 0; len = 1 })) (sym e)
    (record { low = omega arith; some = omega arith; stop = stands_behind_root s; is = piece_root s })

pub until_some : (t : Text) → 0 < length t → (get_or t 0 0 ≡ SLASH → ⊥) → 0 < until SLASH t
until_some [] h e = absurd (omega arith)
until_some (b ∷ s) h e = grind (arith, nat_tests)

stands_within : (t : Text) (at : ℕ) → stands t at ≡ true → at ≤ length t
stands_within t at e = leb-true _ _ (and_parts (leb at (length t)) _ e).0

-- what a scan gives next
module _ (t : Text) (at : ℕ) (p : Place) (n : Next t at p) where
  part_size : length (text_at t p) ≡ p.len
  part_size = length-take-le p.len (drop p.start t) (omega (arith, stands_within t (p.start + p.len) n.stop, length-drop p.start t))

  pub next_place : Some p ≡ first_place (marks_left t at)
  next_place =
      let back : p.start + p.len - length (text_at t p) ≡ p.start = omega (arith, part_size) in
      (λ i. Some (record { start = sym back i; len = sym part_size i })) ∙ ap first_place (sym n.is)

  pub next_text : Some (text_at t p) ≡ first_text (marks_left t at)
  next_text = ap first_text (sym n.is)

  pub next_others : marks_left t (p.start + p.len) ≡ but_first (marks_left t at)
  next_others = ap but_first (sym n.is)

-- the parts of pieces do not depend on where these stand
texts_inner : (n m : ℕ) (ps : List Text) → texts_of (inner (placed n ps)) ≡ texts_of (inner (placed m ps))
texts_inner n m [] = refl
texts_inner n m (p ∷ ps) = at (solid p) (texts_inner (n + length p + 1) (m + length p + 1) ps)
  where
    at : (v : Bool) → texts_of (inner (placed (n + length p + 1) ps)) ≡ texts_of (inner (placed (m + length p + 1) ps))
        → texts_of (cond v ((p, n + length p) ∷ inner (placed (n + length p + 1) ps)) (inner (placed (n + length p + 1) ps))) ≡ texts_of (cond v ((p, m + length p) ∷ inner (placed (m + length p + 1) ps)) (inner (placed (m + length p + 1) ps)))
    at true e = ap (λ (qs : List Text). p ∷ qs) e
    at false e = e

parts_slash : (s : Text) → parts (SLASH ∷ s) ≡ root ∷ texts_of (inner (placed 1 (pieces s)))
unfolding parts
parts_slash s = ap texts_of (piece_root s)

behind_root : (t : Text) (at : ℕ) → stands t at ≡ true → 0 < at → at < length t → (get_or t at 0 ≡ SLASH → ⊥) → (at ≡ 1) × (get_or t 0 0 ≡ SLASH)
behind_root t at s some inside other = (grind (arith, nat_tests), grind (arith, nat_tests))

-- what stands behind a part is what is left, below the root
pub rest_parts : (t : Text) (at : ℕ) → stands t at ≡ true → 0 < at → parts (rest_text t at) ≡ root ∷ texts_of (marks_left t at)
rest_parts t at s some = ⊎_elim
    (λ (h : at < length t). ⊎_elim
    (λ (e : get_or t at 0 ≡ SLASH).
    ap parts (cond-true _ _ _ (lt-ltb at (length t) h) ∙ cond-true _ _ _ (eq-eqb _ SLASH e) ∙ drop_more t at 0 h ∙ ap (λ (b : ℕ). b ∷ drop (at + 1) t) e)
    ∙ parts_slash (drop (at + 1) t)
    ∙ ap (λ (ps : List Text). root ∷ ps) (texts_inner 1 (at + 1) (pieces (drop (at + 1) t)) ∙ ap texts_of (sym (left_later t (at + 1) (omega arith)) ∙ sym (over_slash t at some h e))))
    (λ (e : get_or t at 0 ≡ SLASH → ⊥).
    let b = behind_root t at s some h e in
    ap parts (cond-true _ _ _ (lt-ltb at (length t) h) ∙ cond-false _ _ _ (ne_eqb _ SLASH e))
    ∙ whole t (omega arith) b.1
    ∙ ap (λ (n : ℕ). root ∷ texts_of (marks_left t n)) (sym b.0))
    (cases_eq (get_or t at 0) SLASH))
    (λ (h : length t ≤ at).
    ap parts (cond-false _ _ _ (le-ltb at (length t) h))
    ∙ parts_slash []
    ∙ none_there
    ∙ ap (λ (ms : List Mark). root ∷ texts_of ms) (sym (at_end t at some h)))
    (cases_lt at (length t))
  where
    none_there : root ∷ texts_of (inner (placed 1 (pieces []))) ≡ root ∷ []
    none_there = ap (λ (ps : List Text). root ∷ texts_of (inner (placed 1 ps))) pieces_none

    whole : (u : Text) → 0 < length u → get_or u 0 0 ≡ SLASH → parts u ≡ root ∷ texts_of (marks_left u 1)
    whole [] h e = absurd (omega arith)
    whole (b ∷ u) h e = subst (λ (c : ℕ). parts (c ∷ u) ≡ root ∷ texts_of (marks_left (c ∷ u) 1)) (sym e) (parts_slash u)
