-- A list of calls that is served one call further. Assumes nothing.
use Rattle.std.proofs.Common.{subst, ◌≡◌, ◌<◌, ℕ, ◌+◌, List, [], ◌∷◌, ◌++◌, length, take, drop, min, slice_index_or, slice_set, sym, refl, ap, ◌∙◌, arith}
use Rattle.std.proofs.lemmas.List.{drop-set-lt, drop_more, length-take-le, take_more, take_more_set}
use Rattle.std.proofs.Math.Path.{transport}
use Rattle.texts.specs.Texts.{Text}
use Rattle.tree.specs.Acceptances.{Allowed}
use Rattle.tree.specs.Meanings.{Meaning, Question}
use Rattle.settings.specs.Tables.{Tables}
use Rattle.resolver.specs.declared.Call.{Call}
use Rattle.resolver.specs.declared.Reply.{Reply}
use Rattle.texts.specs.Parts.{text_at}
use Rattle.lookup.specs.Outcomes.{answer, buffers_after}
use Rattle.lookup.specs.Resolutions.{resolution_of}
use Rattle.resolver.specs.declared.Answered.{Answered}
use Rattle.resolver.specs.declared.Call.TheVariants.{Forget, Resolve, Tally}
use Rattle.resolver.specs.Runs.{AllRight, Buffers, Event, Reached, Right, ceiling, forgot_right, handed_by, handed_out_by, no_call, one_more, resolved_right, tallied_right}
use Rattle.resolver.proofs.Runs.{all_right_both, handed_both}
use Rattle.resolver.specs.Served.{events, room_in, went, Moves, MovesOn, Served, buffers_of, due, memory_by, memory_then, moves_on, no_call_left, one_call_more, paths_by, paths_of, stays}

pub paths_then : (news : List Reply) (new : Reply) → paths_of (news ++ new ∷ []) ≡ paths_of news + paths_by new.answered
paths_then [] new = omega arith
paths_then (r ∷ news) new = omega (arith, paths_then news new)

-- what comes behind the first waits as it did
pub others_wait : (olds news : List Reply) (i : ℕ) (new : Reply) → i < length news → i < length olds → drop i news ≡ drop i olds → drop (i + 1) (slice_set news i new) ≡ drop (i + 1) olds
others_wait olds news i new h g e =
    let first : slice_index_or news i new ∷ drop (i + 1) news ≡ slice_index_or olds i new ∷ drop (i + 1) olds = sym (drop_more news i new h) ∙ e ∙ drop_more olds i new g in
    drop-set-lt (i + 1) news i new (omega arith) ∙ (let rest : drop (i + 1) news ≡ drop (i + 1) olds = cc in rest)

-- and the first is as it was
pub first_waits : (olds news : List Reply) (i : ℕ) (d : Reply) → i < length news → i < length olds → drop i news ≡ drop i olds → slice_index_or news i d ≡ slice_index_or olds i d
first_waits olds news i d h g e =
    let first : slice_index_or news i d ∷ drop (i + 1) news ≡ slice_index_or olds i d ∷ drop (i + 1) olds = sym (drop_more news i d h) ∙ e ∙ drop_more olds i d g in
    cc

module _ (m : Meaning) (allowed : Allowed) (t : Tables) (area rows : ℕ) (texts : Text) where
  abbrev Serves : ℕ → List Call → List Reply → List Reply → Type 0
  Serves = Served m allowed t area rows texts

  served_then : (n : ℕ) (cs : List Call) (os ns : List Reply) (call : Call) (old new : Reply) → Serves n cs os ns
      → (new.answered, buffers_of new) ≡ due m allowed t area rows texts (n + paths_of ns) call old → Serves n (cs ++ call ∷ []) (os ++ old ∷ []) (ns ++ new ∷ [])
  served_then n [] [] [] call old new no_call_left h =
      let same : n + 0 ≡ n = omega arith in
      one_call_more call [] old new [] [] (h ∙ (λ i. due m allowed t area rows texts (same i) call old)) no_call_left
  served_then n [] [] (r ∷ ns) call old new s h = elim s [ ]
  served_then n [] (o ∷ os) ns call old new s h = elim s [ ]
  served_then n (c ∷ cs) [] ns call old new s h = elim s [ ]
  served_then n (c ∷ cs) (o ∷ os) [] call old new s h = elim s [ ]
  served_then n (c ∷ cs) (o ∷ os) (r ∷ ns) call old new (one_call_more _ _ _ _ _ _ e rest) h =
      let same : n + (paths_by r.answered + paths_of ns) ≡ n + paths_by r.answered + paths_of ns = omega arith in
      one_call_more c (cs ++ call ∷ []) o r (os ++ old ∷ []) (ns ++ new ∷ []) e
      (served_then (n + paths_by r.answered) cs os ns call old new rest (h ∙ (λ i. due m allowed t area rows texts (same i) call old)))

  -- the call at a place of a list, where those before it are served
  pub served_to : (n : ℕ) (calls : List Call) (olds news : List Reply) (i : ℕ) (new : Reply) (c : Call) (d : Reply)
      → i < length calls → i < length news → i < length olds → drop i news ≡ drop i olds
      → Serves n (take i calls) (take i olds) (take i news)
      → (new.answered, buffers_of new) ≡ due m allowed t area rows texts (n + paths_of (take i news)) (slice_index_or calls i c) (slice_index_or news i d)
      → Serves n (take (i + 1) calls) (take (i + 1) olds) (take (i + 1) (slice_set news i new))
  served_to n calls olds news i new c d h g f e s r =
      let call = slice_index_or calls i c in
      let old = slice_index_or news i d in
      let one : take (i + 1) calls ≡ take i calls ++ call ∷ [] = take_more calls i c h in
      let two : take (i + 1) olds ≡ take i olds ++ old ∷ [] = take_more olds i d f ∙ (λ j. take i olds ++ sym (first_waits olds news i d g f e) j ∷ []) in
      let three : take (i + 1) (slice_set news i new) ≡ take i news ++ new ∷ [] = take_more_set news i new g in
      transport (λ j. Serves n (sym one j) (sym two j) (sym three j)) (served_then n (take i calls) (take i olds) (take i news) call old new s r)

module _ (area rows : ℕ) (texts : Text) {A : Type 0} (blank : A) where
  memory_one : (cs : List Call) (os : List Reply) (call : Call) (old : Reply) (held : List A) → length cs ≡ length os
      → memory_then area rows texts blank (cs ++ call ∷ []) (os ++ old ∷ []) held ≡ memory_by area rows texts blank call old (memory_then area rows texts blank cs os held)
  memory_one [] [] call old held e = refl
  memory_one [] (o ∷ os) call old held e = absurd (omega (arith, e))
  memory_one (c ∷ cs) [] call old held e = absurd (omega (arith, e))
  memory_one (c ∷ cs) (o ∷ os) call old held e = memory_one cs os call old (memory_by area rows texts blank c o held) (omega (arith, e))

  pub memory_to : (calls : List Call) (olds news : List Reply) (i : ℕ) (c : Call) (d : Reply) (held now next : List A)
      → i < length calls → i < length news → i < length olds → drop i news ≡ drop i olds
      → now ≡ memory_then area rows texts blank (take i calls) (take i olds) held
      → next ≡ memory_by area rows texts blank (slice_index_or calls i c) (slice_index_or news i d) now
      → next ≡ memory_then area rows texts blank (take (i + 1) calls) (take (i + 1) olds) held
  memory_to calls olds news i c d held now next h g f e a b =
      let call = slice_index_or calls i c in
      let old = slice_index_or news i d in
      let one : take (i + 1) calls ≡ take i calls ++ call ∷ [] = take_more calls i c h in
      let two : take (i + 1) olds ≡ take i olds ++ old ∷ [] = take_more olds i d f ∙ (λ j. take i olds ++ sym (first_waits olds news i d g f e) j ∷ []) in
      b ∙ ap (memory_by area rows texts blank call old) a
      ∙ sym (memory_one (take i calls) (take i olds) call old held (length-take-le i calls (omega (arith, h)) ∙ sym (length-take-le i olds (omega (arith, f)))))
      ∙ (λ j. memory_then area rows texts blank (sym one j) (sym two j) held)

module _ {Host : Type 0} (steps : Host → Question → Host → Type 0) where
  moved_then : (cs : List Call) (call : Call) (before between after : Host) → MovesOn steps cs before between → Moves steps call between after → MovesOn steps (cs ++ call ∷ []) before after
  moved_then [] call before between after stays h = moves_on call [] h stays
  moved_then (c ∷ cs) call before between after (moves_on _ _ first rest) h = moves_on c (cs ++ call ∷ []) first (moved_then cs call _ between after rest h)

  pub moved_to : (calls : List Call) (i : ℕ) (c : Call) (before between after : Host) → i < length calls → MovesOn steps (take i calls) before between → Moves steps (slice_index_or calls i c) between after → MovesOn steps (take (i + 1) calls) before after
  moved_to calls i c before between after h m one =
      subst (λ (cs : List Call). MovesOn steps cs before after) (sym (take_more calls i c h)) (moved_then (take i calls) (slice_index_or calls i c) before between after m one)

-- a list that was served is a run that went as it is defined
module _ (m : Meaning) (allowed : Allowed) (t : Tables) (area rows : ℕ) (texts : Text) where
  due_right : (n : ℕ) (call : Call) (old : Reply) → Right m allowed t n (went area rows texts call old (due m allowed t area rows texts n call old))
  due_right n (Resolve dir r) old =
      let a = answer m allowed t (room_in area rows old) (text_at texts dir) (text_at texts r) in
      resolved_right (text_at texts dir) (text_at texts r) (room_in area rows old) (resolution_of a) (buffers_of old) (buffers_after a (buffers_of old)) refl refl
  due_right n Forget old = forgot_right
  due_right n Tally old = tallied_right (min n ceiling) refl

  due_handed : (n : ℕ) (call : Call) (old : Reply) → handed_by (went area rows texts call old (due m allowed t area rows texts n call old)) ≡ paths_by (due m allowed t area rows texts n call old).0
  due_handed n (Resolve dir r) old = refl
  due_handed n Forget old = refl
  due_handed n Tally old = refl

  handed_alike : (n : ℕ) (call : Call) (old new : Reply) → (new.answered, buffers_of new) ≡ due m allowed t area rows texts n call old
      → handed_by (went area rows texts call old (new.answered, buffers_of new)) ≡ paths_by new.answered
  handed_alike n call old new e =
      ap (λ (x : Answered × Buffers). handed_by (went area rows texts call old x)) e ∙ due_handed n call old ∙ ap (λ (x : Answered × Buffers). paths_by x.0) (sym e)

  events_handed : (n : ℕ) (cs : List Call) (os ns : List Reply) → Served m allowed t area rows texts n cs os ns → handed_out_by (events area rows texts cs os ns) ≡ paths_of ns
  events_handed n [] [] [] no_call_left = refl
  events_handed n [] [] (r ∷ ns) s = elim s [ ]
  events_handed n [] (o ∷ os) ns s = elim s [ ]
  events_handed n (c ∷ cs) [] ns s = elim s [ ]
  events_handed n (c ∷ cs) (o ∷ os) [] s = elim s [ ]
  events_handed n (c ∷ cs) (o ∷ os) (r ∷ ns) (one_call_more _ _ _ _ _ _ e rest) =
      omega (arith, handed_alike n c o r e, events_handed (n + paths_by r.answered) cs os ns rest)

  events_right : (n : ℕ) (cs : List Call) (os ns : List Reply) → Served m allowed t area rows texts n cs os ns → AllRight m allowed t n (events area rows texts cs os ns)
  events_right n [] [] [] no_call_left = no_call
  events_right n [] [] (r ∷ ns) s = elim s [ ]
  events_right n [] (o ∷ os) ns s = elim s [ ]
  events_right n (c ∷ cs) [] ns s = elim s [ ]
  events_right n (c ∷ cs) (o ∷ os) [] s = elim s [ ]
  events_right n (c ∷ cs) (o ∷ os) (r ∷ ns) (one_call_more _ _ _ _ _ _ e rest) =
      one_more (went area rows texts c o (r.answered, buffers_of r)) (events area rows texts cs os ns)
      (subst (λ (x : Answered × Buffers). Right m allowed t n (went area rows texts c o x)) (sym e) (due_right n c o))
      (subst (λ (k : ℕ). AllRight m allowed t k (events area rows texts cs os ns)) (ap (λ (k : ℕ). n + k) (sym (handed_alike n c o r e))) (events_right (n + paths_by r.answered) cs os ns rest))

  pub reached_through : (past : List Event) (cs : List Call) (os ns : List Reply) (before after : ℕ) → Reached m allowed t past before
      → ((n : ℕ) → before ≡ min n ceiling → Served m allowed t area rows texts n cs os ns) → after ≡ min (before + paths_of ns) ceiling
      → Reached m allowed t (past ++ events area rows texts cs os ns) after
  reached_through past cs os ns before after h s e =
      let served = s (handed_out_by past) h.counted in
      let zero : 0 + handed_out_by past ≡ handed_out_by past = omega arith in
      record {
        each_as_defined = all_right_both m allowed t 0 past (events area rows texts cs os ns) h.each_as_defined
            (subst (λ (k : ℕ). AllRight m allowed t k (events area rows texts cs os ns)) (sym zero) (events_right (handed_out_by past) cs os ns served));
        counted = omega (arith, e, h.counted, handed_both past (events area rows texts cs os ns), events_handed (handed_out_by past) cs os ns served);
      }
