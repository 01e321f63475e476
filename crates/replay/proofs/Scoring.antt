-- All sheets agree exactly if each does. Assumes nothing.
use Rattle.std.proofs.Common.{◌≡◌, ℕ, ◌+◌, ◌-◌, ◌^◌, ◌<◌, ◌≤◌, min, Bool, true, false, ◌&&◌, ◌==◌, List, [], ◌∷◌, length, refl, ap, sym, ◌∙◌, arith}
use Rattle.std.specs.List.{fold, list_all}
use Rattle.std.proofs.Math.Bool.{and-false, and-true, and_assoc}
use Rattle.std.proofs.lemmas.Bool.Decides.{nat_tests}
use Rattle.replay.specs.declared.group.Group.{Group}
use Rattle.replay.specs.declared.group.Group.TheVariants.{Sample, Corner, Chosen}
use Rattle.replay.specs.declared.score.Score.{Score}
use Rattle.replay.specs.declared.score.Scores.{Scores}
use Rattle.replay.specs.Scores.{agrees_whole, all_agree, counted, counted_in, no_scores, scored, scores_of}
use Rattle.replay.specs.Verdicts.{Judged, one_if}

-- no more sheets agree than there are, and n more can be counted
record Sane (n : ℕ) (s : Score) : Type 0 where
  fewer : s.agreeing ≤ s.sheets
  room : s.sheets + n < 2 ^ 64

record AllSane (n : ℕ) (s : Scores) : Type 0 where
  samples : Sane n s.samples
  corners : Sane n s.corners
  chosen : Sane n s.chosen

-- one sheet more
one_more : (n : ℕ) (s : Score) (v : Judged) → Sane (n + 1) s → Sane n (scored s v)
one_more n s v h = at v.agrees h.fewer h.room
  where
    at : (b : Bool) → s.agreeing ≤ s.sheets → s.sheets + (n + 1) < 2 ^ 64
        → Sane n (record { sheets = min (s.sheets + 1) (2 ^ 64 - 1); agreeing = min (s.agreeing + one_if b) (2 ^ 64 - 1); rows = (scored s v).rows; same_rows = (scored s v).same_rows })
    at true f r = record { fewer = omega arith; room = omega arith }
    at false f r = record { fewer = omega arith; room = omega arith }

whole_with : (s : Score) (v : Judged) → s.agreeing ≤ s.sheets → s.sheets + 1 < 2 ^ 64 → agrees_whole (scored s v) ≡ (agrees_whole s && v.agrees)
whole_with s v f r = at v.agrees
  where
    at : (b : Bool) → (min (s.agreeing + one_if b) (2 ^ 64 - 1) == min (s.sheets + 1) (2 ^ 64 - 1)) ≡ ((s.agreeing == s.sheets) && b)
    at true = grind (arith, nat_tests, and-true)
    at false = grind (arith, nat_tests, and-false)

weaken : (m n : ℕ) (s : Scores) → n ≤ m → AllSane m s → AllSane n s
weaken m n s low h = record { samples = at s.samples h.samples; corners = at s.corners h.corners; chosen = at s.chosen h.chosen }
  where
    at : (t : Score) → Sane m t → Sane n t
    at t k = let f = k.fewer in let r = k.room in record { fewer = omega arith; room = omega arith }

more_sane : (n : ℕ) (s : Scores) (v : Judged) → AllSane (n + 1) s → AllSane n (counted s v)
more_sane n s v h = at v.case.group
  where
    rest : AllSane n s
    rest = weaken (n + 1) n s (omega arith) h

    at : (g : Group) → AllSane n (counted_in g s v)
    at Sample = record { samples = one_more n s.samples v h.samples; corners = rest.corners; chosen = rest.chosen }
    at Corner = record { samples = rest.samples; corners = one_more n s.corners v h.corners; chosen = rest.chosen }
    at Chosen = record { samples = rest.samples; corners = rest.corners; chosen = one_more n s.chosen v h.chosen }

first_of : (a b c x : Bool) → ((a && x) && (b && c)) ≡ ((a && (b && c)) && x)
first_of true b c true = sym (and-true (b && c))
first_of true b c false = sym (and-false (b && c))
first_of false b c x = refl

second_of : (a b c x : Bool) → (a && ((b && x) && c)) ≡ ((a && (b && c)) && x)
second_of false b c x = refl
second_of true false c x = refl
second_of true true c true = sym (and-true c)
second_of true true c false = sym (and-false c)

third_of : (a b c x : Bool) → (a && (b && (c && x))) ≡ ((a && (b && c)) && x)
third_of false b c x = refl
third_of true false c x = refl
third_of true true c x = refl

all_with : (s : Scores) (v : Judged) → AllSane 1 s → all_agree (counted s v) ≡ (all_agree s && v.agrees)
all_with s v h = at v.case.group
  where
    at : (g : Group) → all_agree (counted_in g s v) ≡ (all_agree s && v.agrees)
    at Sample = ap (λ (b : Bool). b && (agrees_whole s.corners && agrees_whole s.chosen)) (whole_with s.samples v h.samples.fewer h.samples.room) ∙ first_of (agrees_whole s.samples) (agrees_whole s.corners) (agrees_whole s.chosen) v.agrees
    at Corner = ap (λ (b : Bool). agrees_whole s.samples && (b && agrees_whole s.chosen)) (whole_with s.corners v h.corners.fewer h.corners.room) ∙ second_of (agrees_whole s.samples) (agrees_whole s.corners) (agrees_whole s.chosen) v.agrees
    at Chosen = ap (λ (b : Bool). agrees_whole s.samples && (agrees_whole s.corners && b)) (whole_with s.chosen v h.chosen.fewer h.chosen.room) ∙ third_of (agrees_whole s.samples) (agrees_whole s.corners) (agrees_whole s.chosen) v.agrees

-- from any scores on
each_from : (vs : List Judged) (s : Scores) → AllSane (length vs) s → all_agree (fold counted s vs) ≡ (all_agree s && list_all (λ v. v.agrees) vs)
each_from [] s h = sym (and-true (all_agree s))
each_from (v ∷ vs) s h =
    let more = weaken (length (v ∷ vs)) (length vs + 1) s (omega arith) h in
    let one = weaken (length (v ∷ vs)) 1 s (omega arith) h in
    each_from vs (counted s v) (more_sane (length vs) s v more)
    ∙ ap (λ (b : Bool). b && list_all (λ (w : Judged). w.agrees) vs) (all_with s v one)
    ∙ and_assoc (all_agree s) v.agrees (list_all (λ (w : Judged). w.agrees) vs)

-- all sheets agree exactly if each does
pub each_agrees : (vs : List Judged) → length vs < 2 ^ 64 → all_agree (scores_of vs) ≡ list_all (λ v. v.agrees) vs
each_agrees vs h =
    let z : Sane (length vs) (record { sheets = 0; agreeing = 0; rows = 0; same_rows = 0 }) = record { fewer = omega arith; room = omega arith } in
    each_from vs no_scores (record { samples = z; corners = z; chosen = z })
