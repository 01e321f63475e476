-- The rows of replies are those of their calls. Assumes nothing.
use Rattle.std.proofs.Common.{◌≡◌, ◌≤◌, ℕ, zero, suc, ◌+◌, List, [], ◌∷◌, ◌++◌, length, take, drop, Some, None, Option, sym, refl, ap, subst, ◌∙◌, append_assoc, min, arith}
use Rattle.std.specs.Prelude.{replicate}
use Rattle.std.proofs.Math.Path.{transport}
use Rattle.std.proofs.lemmas.List.{append-nil, length-replicate, take_all, take_at}
use Rattle.texts.specs.Texts.{Text}
use Rattle.texts.specs.Parts.{text_at}
use Rattle.tree.specs.Acceptances.{Allowed}
use Rattle.tree.specs.Meanings.{Meaning}
use Rattle.settings.specs.Tables.{Tables}
use Rattle.lookup.specs.Faults.{texts}
use Rattle.lookup.specs.Outcomes.{Outcome, Room, answer, buffers_after, path, refusal, refused, written}
use Rattle.lookup.specs.Resolutions.{length_of, resolution_of}
use Rattle.lookup.proofs.Answering.{rounds_said, same_number}
use Rattle.lookup.proofs.Holding.{few}
use Rattle.resolver.specs.declared.Answered.{Answered}
use Rattle.resolver.specs.declared.Answered.TheVariants.{Resolved}
use Rattle.resolver.specs.declared.Call.{Call}
use Rattle.resolver.specs.declared.Call.TheVariants.{Forget, Resolve, Tally}
use Rattle.resolver.specs.declared.Reply.{Reply}
use Rattle.resolver.specs.Runs.{Buffers}
use Rattle.resolver.specs.Served.{Served, buffers_of, due, no_call_left, one_call_more, paths_by, room_in}
use Rattle.sheets.specs.Replies.{AllFew, FewRounds, answered_row, front, reply_row}
use Rattle.sheets.specs.Rows.{lent, outcome_row, row, text_or_none}
use Rattle.sheets.specs.Waiting.{call_row, call_rows, reply_rows}

-- what stands at the front of a buffer after a text was written to it
front_written : (o : Option Text) (b : List ℕ) → front (length_of o) (written o b) ≡ text_or_none o
front_written None b = refl
front_written (Some t) b = take_at t (drop (length t) b) (length t) refl

-- an answer and its buffers have the row of the outcome
outcome_told : (o : Outcome) (b : Buffers) → answered_row (Resolved (resolution_of o)) (buffers_after o b) ≡ outcome_row o
outcome_told (path p q f n) b = (λ i. row 0 n (take_at p (drop (length p) b.0) (length p) refl i) (front_written q b.1.0 i) (front_written f b.1.1 i))
outcome_told (refused f n) b = (λ i. row (same_number f i) n (front_written (texts f).0 b.0 i) (front_written (texts f).1 b.1.0 i) [])

-- a reply whose buffers have the room that is lent
pub record Wide (reply : Reply) : Type 0 where
  pub first : length reply.first ≡ 255
  pub second : length reply.second ≡ 255
  pub third : length reply.third ≡ 255

-- so many replies, all alike
abbrev pub AllWide : List Reply → Type 0
AllWide [] = Unit {0}
AllWide (r ∷ more) = Wide r × AllWide more

pub blank_wide : (r : Reply) → buffers_of r ≡ (replicate 255 0, (replicate 255 0, replicate 255 0)) → Wide r
blank_wide r h = record {
  first = ap (λ (b : Buffers). length b.0) h ∙ length-replicate {A = ℕ} 255 0;
  second = ap (λ (b : Buffers). length b.1.0) h ∙ length-replicate {A = ℕ} 255 0;
  third = ap (λ (b : Buffers). length b.1.1) h ∙ length-replicate {A = ℕ} 255 0;
}

replicate_wide : (k : ℕ) (r : Reply) → Wide r → AllWide (replicate k r)
replicate_wide zero r w = tt
replicate_wide (suc k) r w = (w, replicate_wide k r w)

take_wide : (k : ℕ) (rs : List Reply) → AllWide rs → AllWide (take k rs)
take_wide zero rs w = tt
take_wide (suc k) [] w = tt
take_wide (suc k) (r ∷ rs) w = (w.0, take_wide k rs w.1)

module _ (m : Meaning) (allowed : Allowed) (t : Tables) (sheet : Text) where
  room_lent : (r : Reply) → Wide r → room_in 131072 1024 r ≡ lent
  room_lent r w = (λ i. record { area = 131072; rows = 1024; first = w.first i; second = w.second i; third = w.third i })

  -- one reply
  one_row : (n : ℕ) (call : Call) (old new : Reply) → Wide old → (new.answered, buffers_of new) ≡ due m allowed t 131072 1024 sheet n call old
      → (reply_row new ≡ call_row m allowed t sheet call) × FewRounds new.answered
  one_row n (Resolve dir r) old new w h =
      let o = answer m allowed t (room_in 131072 1024 old) (text_at sheet dir) (text_at sheet r) in
      let bound = few m allowed t (text_at sheet dir) (text_at sheet r) (refusal (room_in 131072 1024 old) (text_at sheet dir) (text_at sheet r)) in
      let short : (resolution_of o).rounds ≤ 999 = omega (arith, rounds_said o, bound) in (
        ap (λ (x : Answered × Buffers). answered_row x.0 x.1) h
            ∙ outcome_told o (buffers_of old)
            ∙ ap (λ (room : Room). outcome_row (answer m allowed t room (text_at sheet dir) (text_at sheet r))) (room_lent old w),
        subst FewRounds (ap (λ (x : Answered × Buffers). x.0) (sym h)) short,
      )
  one_row n Forget old new w h =
      (ap (λ (x : Answered × Buffers). answered_row x.0 x.1) h, subst FewRounds (ap (λ (x : Answered × Buffers). x.0) (sym h)) tt)
  one_row n Tally old new w h =
      (ap (λ (x : Answered × Buffers). answered_row x.0 x.1) h, subst FewRounds (ap (λ (x : Answered × Buffers). x.0) (sym h)) tt)

  pub rows_told : (n : ℕ) (calls : List Call) (olds news : List Reply) → AllWide olds → Served m allowed t 131072 1024 sheet n calls olds news
      → (reply_rows news ≡ call_rows m allowed t sheet calls) × AllFew news
  rows_told n [] [] [] w no_call_left = (refl, tt)
  rows_told n [] [] (r ∷ news) w s = elim s [ ]
  rows_told n [] (o ∷ olds) news w s = elim s [ ]
  rows_told n (c ∷ calls) [] news w s = elim s [ ]
  rows_told n (c ∷ calls) (o ∷ olds) [] w s = elim s [ ]
  rows_told n (c ∷ calls) (o ∷ olds) (r ∷ news) w (one_call_more _ _ _ _ _ _ e rest) =
      let one = one_row n c o r w.0 e in
      let more = rows_told (n + paths_by r.answered) calls olds news w.1 rest in
      ((λ i. one.0 i ++ more.0 i), (one.1, more.1))

  -- one call more
  pub call_behind : (calls : List Call) (call : Call) → call_rows m allowed t sheet (calls ++ call ∷ []) ≡ call_rows m allowed t sheet calls ++ call_row m allowed t sheet call
  call_behind [] call = append-nil (call_row m allowed t sheet call)
  call_behind (c ∷ calls) call =
      ap (λ (x : Text). call_row m allowed t sheet c ++ x) (call_behind calls call)
      ∙ sym (append_assoc (call_row m allowed t sheet c) (call_rows m allowed t sheet calls) (call_row m allowed t sheet call))

  -- all calls of a batch, whose replies were blank
  pub batch_told : (area rows n s k : ℕ) (calls : List Call) (olds news : List Reply) (blank : Reply) → area ≡ 131072 → rows ≡ 1024 → length calls ≤ k
      → s ≡ min (length calls) (length olds) → olds ≡ replicate k blank → Wide blank → Served m allowed t area rows sheet n (take s calls) (take s olds) (take s news)
      → (reply_rows (take s news) ≡ call_rows m allowed t sheet calls) × AllFew (take s news)
  batch_told area rows n s k calls olds news blank a r fit is same wide served =
      let long : length olds ≡ k = ap length same ∙ length-replicate k blank in
      let all : take s calls ≡ calls = take_all s calls (omega (arith, is, long, fit)) in
      let wide_olds : AllWide (take s olds) = take_wide s olds (subst AllWide (sym same) (replicate_wide k blank wide)) in
      let told = rows_told n (take s calls) (take s olds) (take s news) wide_olds (transport (λ i. Served m allowed t (a i) (r i) sheet n (take s calls) (take s olds) (take s news)) served) in
      (told.0 ∙ ap (call_rows m allowed t sheet) all, told.1)
