-- Where a text is cut, by the places of its parts. Assumes nothing.
use Rattle.std.proofs.Common.{◌≡◌, ℕ, suc, ◌+◌, ◌-◌, ◌<◌, ◌≤◌, List, [], ◌∷◌, length, get_or, take, Some, None, sym, refl, ap, ◌∙◌, ⊎_elim, arith}
use Rattle.std.specs.List.{AllByRecursion}
use Rattle.std.proofs.ByRecursion.{All-get_or}
use Rattle.std.proofs.lemmas.List.{get_or-map, get_or-take, length-map, length-take}
use Rattle.std.proofs.lemmas.Bool.{cases_lt, cond_both}
use Rattle.stack.specs.Items.{item_at}
use Rattle.stack.proofs.Laws.{item_at_beyond, item_at_is}
use Rattle.paths.specs.declared.path_util.Component.{Component}
use Rattle.texts.specs.declared.place.Place.{Place}
use Rattle.texts.specs.Texts.{Text, SLASH, begins}
use Rattle.texts.specs.Parts.{Mark, pieces, solid, placed, inner, headed, marks, place_of, places}
use Rattle.paths.specs.Joins.{component, last_but_one, cut, cut_length, grown, grown_by, root_length}
use Rattle.texts.proofs.PartLoops.{some≢none}
use Rattle.texts.proofs.Weights.{weight, pieces_weight}

-- a part ends behind its first byte and within its text
abbrev Ending : ℕ → Mark → Type 0
Ending n m = (length m.0 ≤ m.1) × (m.1 < n)

inner_ending : (k n : ℕ) (ps : List Text) → n + weight ps ≤ k → AllByRecursion (Ending k) (inner (placed n ps))
inner_ending k n [] h = tt
inner_ending k n (p ∷ ps) h = cond_both (solid p) ((p, n + length p) ∷ inner (placed (n + length p + 1) ps)) (inner (placed (n + length p + 1) ps)) (AllByRecursion (Ending k))
    (λ _. ((omega arith, omega arith), inner_ending k (n + length p + 1) ps (omega arith)))
    (λ _. inner_ending k (n + length p + 1) ps (omega arith))

headed_ending : (k : ℕ) (p : Text) (ps : List Text) → weight (p ∷ ps) ≤ k → AllByRecursion (Ending k) (headed (placed 0 (p ∷ ps)))
headed_ending k [] [] h = tt
headed_ending k (b ∷ p) [] h = ((omega arith, omega arith), tt)
headed_ending k [] (q ∷ ps) h = ((omega arith, omega arith), inner_ending k 1 (q ∷ ps) (omega arith))
headed_ending k (b ∷ p) (q ∷ ps) h = ((omega arith, omega arith), inner_ending k (0 + length (b ∷ p) + 1) (q ∷ ps) (omega arith))

marks_ending : (s : Text) → AllByRecursion (Ending (length s + 1)) (marks s)
unfolding marks
marks_ending s = at (pieces s) (pieces_weight s)
  where
    at : (ps : List Text) → weight ps ≡ length s + 1 → AllByRecursion (Ending (length s + 1)) (headed (placed 0 ps))
    at [] w = absurd (omega arith)
    at (p ∷ ps) w = headed_ending (length s + 1) p ps (omega arith)

last_but_one_is : (m n : Mark) (ms : List Mark) (d : Mark) → last_but_one m (n ∷ ms) ≡ (get_or (m ∷ n ∷ ms) (length ms) d).1
last_but_one_is m n [] d = refl
last_but_one_is m n (o ∷ ms) d = last_but_one_is n o ms d

-- what is on top of the stack of places when one was taken off
module _ (s : Text) where
  cut_many : (ms : List Mark) → 2 ≤ length ms → (d : Mark) → cut_length s ms ≡ (get_or ms (length ms - 2) d).1
  cut_many [] h d = absurd (omega arith)
  cut_many (m ∷ []) h d = absurd (omega arith)
  cut_many (m ∷ n ∷ ms) h d =
      let at : suc (suc (length ms)) - 2 ≡ length ms = omega arith in
      last_but_one_is m n ms d ∙ ap (λ (k : ℕ). (get_or (m ∷ n ∷ ms) k d).1) (sym at)

  cut_few : (ms : List Mark) → length ms ≤ 1 → cut_length s ms ≡ root_length s
  cut_few [] h = refl
  cut_few (m ∷ []) h = refl
  cut_few (m ∷ n ∷ ms) h = absurd (omega arith)

  -- the places on the stack when the last was taken off
  module _ (over : List Place) (is : over ≡ take (length (places s) - 1) (places s)) where
    over_length : length over ≡ length (marks s) - 1
    over_length = ap length is ∙ length-take (length (places s) - 1) (places s) ∙ omega (arith, length-map (marks s) place_of)

    over_at : (d : Mark) → 2 ≤ length (marks s) → item_at over (length over - 1) ≡ Some (place_of (get_or (marks s) (length (marks s) - 2) d))
    over_at d many =
        let count = over_length in
        let at : length over - 1 ≡ length (marks s) - 2 = omega arith in
        item_at_is over (length over - 1) (place_of d) (omega arith)
        ∙ ap Some (ap (λ (xs : List Place). get_or xs (length over - 1) (place_of d)) is
        ∙ get_or-take (length (places s) - 1) (places s) (length over - 1) (place_of d) (omega (arith, length-map (marks s) place_of))
        ∙ get_or-map place_of (marks s) (length over - 1) d (place_of d) (omega arith)
        ∙ ap (λ (k : ℕ). place_of (get_or (marks s) k d)) at)

    pub top_some : (p : Place) → Some p ≡ item_at over (length over - 1) → (p.start + p.len ≡ cut_length s (marks s)) × (p.start + p.len ≤ length s)
    top_some p e = ⊎_elim
        (λ (few : length (marks s) < 2). absurd (some≢none (e ∙ item_at_beyond over (length over - 1) (omega (arith, over_length)))))
        (λ (many : 2 ≤ length (marks s)).
        let d : Mark = ([], 0) in
        let m : Mark = get_or (marks s) (length (marks s) - 2) d in
        let here : Some p ≡ Some (place_of m) = e ∙ over_at d many in
        let same : p ≡ place_of m = cc in
        let ending : (length m.0 ≤ m.1) × (m.1 < length s + 1) = All-get_or (Ending (length s + 1)) (marks s) (length (marks s) - 2) d (omega arith) (marks_ending s) in
        let end : p.start + p.len ≡ m.1 = ap (λ (q : Place). q.start + q.len) same ∙ omega arith in
        (end ∙ sym (cut_many (marks s) many d), omega arith))
        (cases_lt (length (marks s)) 2)

    pub top_none : None ≡ item_at over (length over - 1) → cut_length s (marks s) ≡ root_length s
    top_none e = ⊎_elim
        (λ (few : length (marks s) < 2). cut_few (marks s) (omega arith))
        (λ (many : 2 ≤ length (marks s)). absurd (some≢none (sym (e ∙ over_at ([], 0) many))))
        (cases_lt (length (marks s)) 2)

pub root_within : (s : Text) → root_length s ≤ length s
root_within s = cond_both (begins SLASH s) (length s) 0 (λ n. n ≤ length s) (λ _. omega arith) (λ _. omega arith)

pub grown_is : (k : Component) (a p : Text) → k ≡ component p → grown a p ≡ grown_by k a p
unfolding grown
grown_is k a p e = ap (λ (c : Component). grown_by c a p) (sym e)

pub cut_is : (a : Text) → take (cut_length a (marks a)) a ≡ cut a
unfolding cut
cut_is a = refl
