-- What a move keeps of the table of open calls. Assumes nothing.
use Rattle.std.proofs.Common.{◌≡◌, ℕ, ◌+◌, ◌*◌, ◌-◌, ◌<◌, ◌≤◌, List, [], ◌∷◌, ◌++◌, length, map, take, Option, Result, sym, refl, ap, subst, ◌∙◌, arith}
use Rattle.texts.specs.declared.place.Place.{Place}
use Rattle.texts.specs.Texts.{Text}
use Rattle.texts.specs.Parts.{text_at}
use Rattle.tree.specs.Acceptances.{Allowed}
use Rattle.tree.specs.Meanings.{Meaning}
use Rattle.settings.specs.Tables.{Alias, Tables}
use Rattle.lookup.specs.declared.calls.Fault.{Fault as Told}
use Rattle.lookup.specs.declared.calls.ResolveContext.{ResolveContext}
use Rattle.lookup.specs.declared.calls.OpenCall.{OpenCall}
use Rattle.lookup.specs.declared.calls.Stage.{Stage}
use Rattle.lookup.specs.declared.calls.Stage.TheVariants as stage
use Rattle.lookup.specs.declared.calls.Move.{Move}
use Rattle.lookup.specs.declared.calls.Move.TheVariants.{Open, Return, Stay}
use Rattle.lookup.specs.Areas.{Before}
use Rattle.candidates.specs.Left.{left}
use Rattle.lookup.specs.Calls.{Call, marked, plugged, resumed, trying}
use Rattle.lookup.specs.Lookups.{Ended}
use Rattle.lookup.specs.Moves.{rounds_left, weight, weights}
use Rattle.lookup.specs.Opened.{Short, Placed, StageBegun, ended, free_unit, shown, stage_shown}
use Rattle.lookup.specs.Towers.{Tower, Under, told_then}
use Rattle.lookup.specs.Turns.{EndsShort, Kept, Moved, came_back, rank, rows_of}
use Rattle.lookup.proofs.Areas.{text_before}

-- calls that stand on others
pub plugged_on : (m : Meaning) (allowed : Allowed) (t : Tables) (limit : ℕ) (ks ls : List Call) (e : Ended) → plugged m allowed t limit (ks ++ ls) e ≡ plugged m allowed t limit ls (plugged m allowed t limit ks e)
plugged_on m allowed t limit [] ls e = refl
plugged_on m allowed t limit (k ∷ ks) ls e = plugged_on m allowed t limit ks ls (resumed m allowed t limit k e)

pub weights_on : (t : Tables) (ks ls : List Call) → weights t (ks ++ ls) ≡ weights t ks + weights t ls
weights_on t [] ls = omega arith
weights_on t (k ∷ ks) ls = ap (λ (n : ℕ). weight t k + n) (weights_on t ks ls) ∙ omega arith

-- an open call says the same where what lies below its free units stays
module _ (m : Meaning) (t : Tables) (w u : List ℕ) (n : ℕ) (same : take (256 * n) u ≡ take (256 * n) w) where
  stays : (p : Place) → Before (256 * n) p → text_at u p ≡ text_at w p
  stays p h = text_before w u (256 * n) p same h

  stage_stays : (row : OpenCall) → Placed row → free_unit row ≤ n → (dir r : Text) (s : Stage) → row.stage ≡ s → stage_shown m t u dir r s ≡ stage_shown m t w dir r s
  stage_stays row h low dir r stage.Require e = refl
  stage_stays row h low dir r (stage.Marked f) e =
      let p = subst (λ (s : Stage). Placed (record { asked = row.asked; stage = s })) e h in
      let l = subst (λ (s : Stage). free_unit (record { asked = row.asked; stage = s }) ≤ n) e low in
      λ k. marked dir r (stays f (omega (arith, p.stage.there.1, p.stage.begun, l)) k)
  stage_stays row h low dir r (stage.Labels p) e = refl
  stage_stays row h low dir r (stage.Candidates q fully walk) e =
      let p = subst (λ (s : Stage). Placed (record { asked = row.asked; stage = s })) e h in
      let l = subst (λ (s : Stage). free_unit (record { asked = row.asked; stage = s }) ≤ n) e low in
      λ k. trying r (left t fully (stays q (omega (arith, p.stage, l)) k) m walk)
  stage_stays row h low dir r (stage.Tested p) e = refl

  row_stays : (row : OpenCall) → Placed row → free_unit row ≤ n → shown m t u row ≡ shown m t w row
  row_stays row h low =
      (λ k. stage_shown m t u (stays row.asked.directory (omega (arith, h.directory, low)) k) (stays row.asked.text (omega (arith, h.text, low)) k) row.stage)
      ∙ stage_stays row h low (text_at w row.asked.directory) (text_at w row.asked.text) row.stage refl

  pub rows_stay : (rounds : ℕ) (rows : List OpenCall) → Tower rounds rows → Under n rows → map (shown m t u) rows ≡ map (shown m t w) rows
  rows_stay rounds [] h low = refl
  rows_stay rounds (row ∷ rows) h low = λ k. row_stays row h.0 low.0 k ∷ rows_stay rounds rows h.4 low.1 k

-- more rounds, and more free units
pub under_more : (n k : ℕ) (rows : List OpenCall) → n ≤ k → Under n rows → Under k rows
under_more n k [] h u = tt
under_more n k (row ∷ rows) h u = (omega (arith, h, u.0), under_more n k rows h u.1)

stage_later : (r d n : ℕ) (s : Stage) → r ≤ d → StageBegun r n s → StageBegun d n s
stage_later r d n stage.Require h b = omega (arith, h, b)
stage_later r d n (stage.Marked f) h b = omega (arith, h, b)
stage_later r d n (stage.Labels p) h b = omega (arith, h, b)
stage_later r d n (stage.Candidates p fully walk) h b = omega (arith, h, b)
stage_later r d n (stage.Tested p) h b = omega (arith, h, b)

pub tower_later : (r d : ℕ) (rows : List OpenCall) → r ≤ d → Tower r rows → Tower d rows
tower_later r d [] h w = tt
tower_later r d (row ∷ rows) h w = (w.0, stage_later r d row.asked.round row.stage h w.1, w.2, w.3, tower_later r d rows h w.4)

-- a table is no higher than the rounds allow
stage_low : (r n : ℕ) (s : Stage) → StageBegun r n s → 3 * n + rank s ≤ 3 * r + 1
stage_low r n stage.Require b = omega (arith, b)
stage_low r n (stage.Marked f) b = omega (arith, b)
stage_low r n (stage.Labels p) b = omega (arith, b)
stage_low r n (stage.Candidates p fully walk) b = omega (arith, b)
stage_low r n (stage.Tested p) b = omega (arith, b)

pub tower_low : (r : ℕ) (rows : List OpenCall) → Tower r rows → length rows ≤ 3 * r + 1
tower_low r [] w = omega arith
tower_low r (row ∷ rows) w = omega (arith, w.2, stage_low r row.asked.round row.stage w.1)

-- the table after a move
pub tower_then : (r d : ℕ) (row : OpenCall) (rows : List OpenCall) (move : Move) → Tower r (row ∷ rows) → r ≤ d → Kept d row move → Tower d (rows_of move ++ rows)
tower_then r d row rows (Return a) w h k = tower_later r d rows h w.4
tower_then r d row rows (Stay to) w h k = (k.placed, k.begun, omega (arith, w.2, k.room), under_more (free_unit row) (free_unit to) rows k.free w.3, tower_later r d rows h w.4)
tower_then r d row rows (Open to child) w h k =
    let below : Under (free_unit to) rows = under_more (free_unit row) (free_unit to) rows k.0.free w.3 in (
      k.1.placed,
      k.1.begun,
      omega (arith, w.2, k.1.room),
      (k.2, under_more (free_unit row) (free_unit child) rows k.1.free w.3),
      (k.0.placed, k.0.begun, omega (arith, w.2, k.0.room), below, tower_later r d rows h w.4),
    )

came_told : (w : List ℕ) (labels : List Alias) (move : Move) (c : ResolveContext) → came_back w labels move c ≡ ended w labels (told_then move) c
came_told w labels (Return a) c = refl
came_told w labels (Stay row) c = refl
came_told w labels (Open row child) c = refl

pub told_short : (move : Move) → EndsShort move → Short (told_then move)
told_short (Return a) h = h
told_short (Stay row) h = tt
told_short (Open row child) h = tt

mapped : {X Y : Type 0} (f : X → Y) (xs ys : List X) → map f (xs ++ ys) ≡ map f xs ++ map f ys
mapped f [] ys = refl
mapped f (x ∷ xs) ys = ap (λ zs. f x ∷ zs) (mapped f xs ys)

-- a move of the top call keeps what the whole table ends in, and has fewer moves left
module _ (m : Meaning) (allowed : Allowed) (t : Tables) (limit : ℕ) (w u : List ℕ) (row : OpenCall) (rows : List OpenCall) (back : Result (Option Place) Told) (c d : ResolveContext) (move : Move) (tower : Tower c.rounds (row ∷ rows)) (moved : Moved m allowed t limit w row back c move u d) where
  rest : map (shown m t u) rows ≡ map (shown m t w) rows
  rest = rows_stay m t w u (free_unit row) moved.below c.rounds rows tower.4 tower.3

  parted : map (shown m t u) (rows_of move ++ rows) ≡ map (shown m t u) (rows_of move) ++ map (shown m t w) rows
  parted = mapped (shown m t u) (rows_of move) rows ∙ ap (λ (ks : List Call). map (shown m t u) (rows_of move) ++ ks) rest

  pub same_end : plugged m allowed t limit (map (shown m t u) (rows_of move ++ rows)) (ended u t.aliases (told_then move) d) ≡ plugged m allowed t limit (map (shown m t w) (row ∷ rows)) (ended w t.aliases back c)
  same_end =
      (λ k. plugged m allowed t limit (parted k) (sym (came_told u t.aliases move d) k))
      ∙ plugged_on m allowed t limit (map (shown m t u) (rows_of move)) (map (shown m t w) rows) (came_back u t.aliases move d)
      ∙ ap (plugged m allowed t limit (map (shown m t w) rows)) (sym moved.means)

  pub fewer : weights t (map (shown m t u) (rows_of move ++ rows)) + rounds_left t (limit - d.rounds) < weights t (map (shown m t w) (row ∷ rows)) + rounds_left t (limit - c.rounds)
  fewer = omega (arith, ap (weights t) parted, weights_on t (map (shown m t u) (rows_of move)) (map (shown m t w) rows), moved.falls)
