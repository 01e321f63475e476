-- Where a path is held, and what is held after its slot was taken to the front or its entry was put into a slot. Assumes nothing.
use Rattle.std.proofs.Common.{◌≡◌, ℕ, zero, suc, ◌+◌, ◌-◌, ◌<◌, ◌≤◌, Bool, true, false, cond, ltb, List, [], ◌∷◌, ◌++◌, map, set, length, take, drop, Some, None, Option, MatchOption, sym, refl, ap, ◌∙◌, subst, arith}
use Rattle.std.specs.List.{position_from, remove}
use Rattle.std.proofs.lemmas.Bool.{lt-ltb}
use Rattle.std.proofs.lemmas.List.{append-nil, drop-map, drop_all, length-append, length-drop, length-map, length-take, map-append, take-map, take_all}
use Rattle.stack.specs.Items.{item_at}
use Rattle.tree.specs.declared.answers.Kind.{Kind}
use Rattle.cache.specs.declared.recent.Entry.{Entry}
use Rattle.cache.specs.Held.{in_slot, seen}
use Rattle.cache.specs.Seen.{Placed, Seen, fresh, recalled, remember, renewed, renewed_as, without}
use Rattle.texts.specs.Parts.{same_parts}
use Rattle.tree.specs.Meanings.{Path}
use Rattle.cache.proofs.InSlots.{added_elsewhere, added_here, changed_elsewhere, changed_here}
use Rattle.cache.proofs.Order.{is_below, item_below, no_more, same_each, times}
use Rattle.texts.proofs.SamePaths.{same_means_equal}

-- an entry that was put behind the others and its slot that was put in front, where there is room for both
put : {X : Type 0} (b : Bool) (xs with_it after : List X) → b ≡ ltb (length xs) 64 → length xs < 64 → after ≡ cond b with_it xs → after ≡ with_it
put b xs with_it after full room is = is ∙ ap (λ (v : Bool). cond v with_it xs) (full ∙ lt-ltb (length xs) 64 room)

pub both_put : (x : Entry) (es es' : List Entry) (a : Bool) (is is' : List ℕ) (n : ℕ) (b : Bool) → length is ≡ length es → n ≡ length is → n < 64 → a ≡ ltb (length es) 64 → es' ≡ cond a (es ++ x ∷ []) es → b ≡ ltb (length is) 64 → is' ≡ cond b (n ∷ is) is → (es' ≡ es ++ x ∷ []) × (is' ≡ length es ∷ is)
both_put x es es' a is is' n b as_many count room fits put_behind fits' put_before = (
  put a es (es ++ x ∷ []) es' fits (omega arith) put_behind,
  put b is (n ∷ is) is' fits' (omega arith) put_before ∙ ap (λ (m : ℕ). m ∷ is) (count ∙ as_many),
)

-- the first entry that has the path, where the list starts at n
module _ (p : Path) where
  pub position_is : (f : ℕ → Seen) (n : ℕ) (is : List ℕ) → position_from (λ i. same_parts (f i).path p) n is ≡ position_from (λ e. same_parts e.path p) n (map f is)
  position_is f n [] = refl
  position_is f n (i ∷ is) = ap (cond (same_parts (f i).path p) (Some n)) (position_is f (n + 1) is)

  abbrev Here : Seen → List Seen → Bool → ℕ → Type 0
  Here e es v j = (j < length (e ∷ es)) × ((k : Kind) × (cond v (Some e.kind) (recalled p es) ≡ Some k) × (drop j (e ∷ es) ≡ fresh p k ∷ drop (suc j) (e ∷ es)) × (cond v es (e ∷ without p es) ≡ take j (e ∷ es) ++ drop (suc j) (e ∷ es)))

  placed_from : (n : ℕ) (es : List Seen) → MatchOption (position_from (λ e. same_parts e.path p) n es) (recalled p es ≡ None) (λ i. (n ≤ i) × Placed p es (Some (i - n)))
  placed_from n [] = refl
  placed_from n (e ∷ es) = at (same_parts e.path p) (same_means_equal e.path p) (placed_from (n + 1) es)
    where
      later : (o : Option ℕ) → MatchOption o (recalled p es ≡ None) (λ i. (n + 1 ≤ i) × Placed p es (Some (i - (n + 1)))) → MatchOption o (recalled p es ≡ None) (λ i. (n ≤ i) × Here e es false (i - n))
      later None h = h
      later (Some i) h =
          let low : n + 1 ≤ i = h.0 in
          let next : suc (i - (n + 1)) ≡ i - n = omega arith in
          let there : Here e es false (suc (i - (n + 1))) = (omega (arith, h.1.0), (h.1.1.0, h.1.1.1, h.1.1.2, ap (λ (ys : List Seen). e ∷ ys) h.1.1.3)) in
          (omega arith, subst (Here e es false) next there)

      at : (v : Bool) → (v ≡ true → e.path ≡ p) → MatchOption (position_from (λ x. same_parts x.path p) (n + 1) es) (recalled p es ≡ None) (λ i. (n + 1 ≤ i) × Placed p es (Some (i - (n + 1)))) → MatchOption (cond v (Some n) (position_from (λ x. same_parts x.path p) (n + 1) es)) (cond v (Some e.kind) (recalled p es) ≡ None) (λ i. (n ≤ i) × Here e es v (i - n))
      at true same h =
          let none : 0 ≡ n - n = omega arith in
          let it : e ≡ fresh p e.kind = ap (λ (q : Path). fresh q e.kind) (same refl) in
          let first : Here e es true 0 = (omega arith, (e.kind, refl, ap (λ (x : Seen). x ∷ es) it, refl)) in
          (omega arith, subst (Here e es true) none first)
      at false same h = later (position_from (λ x. same_parts x.path p) (n + 1) es) h

  pub placed : (es : List Seen) → Placed p es (position_from (λ e. same_parts e.path p) 0 es)
  placed es = at (position_from (λ e. same_parts e.path p) 0 es) (placed_from 0 es)
    where
      at : (o : Option ℕ) → MatchOption o (recalled p es ≡ None) (λ i. (0 ≤ i) × Placed p es (Some (i - 0))) → Placed p es o
      at None h = h
      at (Some i) h = let same : i - 0 ≡ i = omega arith in subst (λ (k : ℕ). Placed p es (Some k)) same h.1

slot_is : (f : ℕ → Seen) (is : List ℕ) (i x : ℕ) (e : Seen) (es : List Seen) → Some x ≡ item_at is i → drop i (map f is) ≡ e ∷ es → f x ≡ e
slot_is f [] i x e es h k = cc
slot_is f (y ∷ is) zero x e es h k = let z : x ≡ y = cc in let w : f y ≡ e = cc in ap f z ∙ w
slot_is f (y ∷ is) (suc i) x e es h k = slot_is f is i x e es h k

-- the slot of an entry that is held is taken out
module _ (p : Path) (f : ℕ → Seen) (is : List ℕ) (i x : ℕ) (at : Placed p (map f is) (Some i)) (there : Some x ≡ item_at is i) where
  same : f x ≡ fresh p at.1.0
  same = slot_is f is i x (fresh p at.1.0) (drop (suc i) (map f is)) there at.1.2

  pub kind_is : Some (f x).kind ≡ recalled p (map f is)
  kind_is = ap (λ (e : Seen). Some e.kind) same ∙ sym at.1.1

  others : map f (remove is i) ≡ without p (map f is)
  others = simp (map-append, take-map, drop-map) refl ∙ sym at.1.3

  fewer : length is ≤ 64 → length (remove is i) ≤ 63
  fewer few = let inside = at.0 in omega (arith, length-map is f, length-append (take i is) (drop (suc i) is), length-take i is, length-drop (suc i) is)

  -- and becomes the first
  pub renewed_is : length is ≤ 64 → map f (x ∷ remove is i) ≡ renewed p (map f is)
  renewed_is few =
      let short : length (without p (map f is)) ≤ 63 = omega (arith, ap length others, length-map (remove is i) f, fewer few) in
      (λ j. same j ∷ others j)
      ∙ ap (λ (es : List Seen). fresh p at.1.0 ∷ es) (sym (take_all 63 (without p (map f is)) short))
      ∙ ap (renewed_as p (map f is)) (sym at.1.1)

-- a path that is not held is nowhere to be left out
without_absent : (p : Path) (es : List Seen) → recalled p es ≡ None → without p es ≡ es
without_absent p [] h = refl
without_absent p (e ∷ es) h = at (same_parts e.path p) h (without_absent p es)
  where
    at : (v : Bool) → cond v (Some e.kind) (recalled p es) ≡ None → (recalled p es ≡ None → without p es ≡ es) → cond v es (e ∷ without p es) ≡ e ∷ es
    at true g more = cc
    at false g more = ap (λ (ys : List Seen). e ∷ ys) (more g)

-- it becomes the first of the 63 latest
remembered : (p : Path) (k : Kind) (es : List Seen) → recalled p es ≡ None → fresh p k ∷ take 63 es ≡ remember p k es
remembered p k es none = ap (λ (ys : List Seen). fresh p k ∷ take 63 ys) (sym (without_absent p es none))

-- its entry
module _ (p : Path) (k : Kind) (es : List Entry) (is : List ℕ) (x : Entry) (shows : seen x ≡ fresh p k) (once : (i : ℕ) → times i is ≡ cond (ltb i (length es)) 1 0) (none : recalled p (map (in_slot es) is) ≡ None) where
  -- takes a slot of its own while there is room
  pub remembered_behind : length is ≤ 63 → map (in_slot (es ++ x ∷ [])) (length es ∷ is) ≡ remember p k (map (in_slot es) is)
  remembered_behind few =
      let first : in_slot (es ++ x ∷ []) (length es) ≡ fresh p k = added_here es x ∙ shows in
      let others : map (in_slot (es ++ x ∷ [])) is ≡ map (in_slot es) is =
      same_each (in_slot (es ++ x ∷ [])) (in_slot es) is (λ j low. added_elsewhere es x j (is_below (length es) is once j low)) in
      (λ j. first j ∷ others j)
      ∙ ap (λ (ys : List Seen). fresh p k ∷ ys) (sym (take_all 63 (map (in_slot es) is) (omega (arith, length-map is (in_slot es)))))
      ∙ remembered p k (map (in_slot es) is) none

  -- and else that of the one asked longest ago
  pub remembered_over : (i : ℕ) → Some i ≡ item_at is 63 → length is ≤ 64 → map (in_slot (set es i x)) (i ∷ remove is 63) ≡ remember p k (map (in_slot es) is)
  remembered_over i last few =
      let first : in_slot (set es i x) i ≡ fresh p k = changed_here es x i (item_below (length es) is once 63 i last) ∙ shows in
      let others : map (in_slot (set es i x)) (remove is 63) ≡ map (in_slot es) (remove is 63) =
      same_each (in_slot (set es i x)) (in_slot es) (remove is 63) (λ j low. changed_elsewhere es x i j (no_more (length es) is once 63 i j last low)) in
      let front : remove is 63 ≡ take 63 is = ap (λ (js : List ℕ). take 63 is ++ js) (drop_all 64 is few) ∙ append-nil (take 63 is) in
      (λ j. first j ∷ others j)
      ∙ ap (λ (js : List ℕ). fresh p k ∷ map (in_slot es) js) front
      ∙ ap (λ (ys : List Seen). fresh p k ∷ ys) (sym (take-map (in_slot es) 63 is))
      ∙ remembered p k (map (in_slot es) is) none
