-- The moves of an open call by its stage and what came back. Assumes nothing.
use Rattle.std.proofs.Common.{◌≡◌, ℕ, ◌<◌, ◌≤◌, List, length, None, Some, Ok, Option, Result, sym, refl, ap, subst, ◌∙◌, arith}
use Rattle.texts.specs.declared.place.Place.{Place}
use Rattle.texts.specs.Texts.{Text}
use Rattle.texts.specs.Parts.{text_at}
use Rattle.tree.specs.Acceptances.{Allowed}
use Rattle.tree.specs.Meanings.{Meaning}
use Rattle.settings.specs.Tables.{Alias, Tables}
use Rattle.alias.specs.declared.attempts.Progress.{Progress}
use Rattle.alias.specs.Attempts.{Attempt, attempts}
use Rattle.alias.specs.Left.{left}
use Rattle.lookup.specs.declared.calls.Fault.{Fault as Told}
use Rattle.lookup.specs.declared.calls.ResolveContext.{ResolveContext}
use Rattle.lookup.specs.declared.calls.Asked.{Asked}
use Rattle.lookup.specs.declared.calls.OpenCall.{OpenCall}
use Rattle.lookup.specs.declared.calls.Stage.{Stage}
use Rattle.lookup.specs.declared.calls.Stage.TheVariants as stage
use Rattle.lookup.specs.declared.calls.Move.{Move}
use Rattle.lookup.specs.declared.calls.Move.TheVariants.{Return, Stay}
use Rattle.lookup.specs.Calls.{labelled, resumed}
use Rattle.lookup.specs.Lookups.{missed, with_fragment}
use Rattle.lookup.specs.Marks.{marked_context}
use Rattle.lookup.specs.Moves.{weight}
use Rattle.lookup.specs.Opened.{Placed, context_of, ended, stage_shown}
use Rattle.lookup.specs.Turns.{IsTold, Moved, Sound, labels_row, marked_row}
use Rattle.lookup.proofs.Bounds.{attempts_few}
use Rattle.lookup.proofs.CallSteps.{put_back}

module _ (m : Meaning) (allowed : Allowed) (t : Tables) (limit : ℕ) (w : List ℕ) where
  -- the fragment is put back
  pub put_back_moves : (a : Asked) (f : Place) (c : ResolveContext) (q : Progress) → ((m : Meaning) (dir r : Text) (aliases : List Alias) → left m dir r aliases q ≡ attempts m dir r aliases)
      → Placed (marked_row a f) → a.round < c.rounds → Sound c.rounds c → c.rounds ≤ limit
      → Moved m allowed t limit w (marked_row a f) (Ok None) c (Stay (labels_row a q)) w (marked_context (Some f) c)
  put_back_moves a f c q all placed begun sound few =
      let dir = text_at w a.directory in
      let r = text_at w a.text in record {
        means =
            put_back m allowed t limit dir r (context_of w c) (text_at w f)
            ∙ ap (λ (ts : List Attempt). resumed m allowed t limit (labelled dir r ts) (missed (with_fragment (Some (text_at w f)) (context_of w c)))) (sym (all m dir r t.aliases));
        falls = omega (arith, ap length (all m dir r t.aliases), attempts_few m dir r t.aliases);
        kept = record {
          placed = record { directory = placed.directory; text = placed.text; short = placed.short; stage = tt };
          begun = begun;
          free = omega arith;
          room = omega arith;
        };
        sound = record { few = few; query = sound.query; fragment = record { round = placed.stage.round; begun = omega (arith, placed.stage.begun, begun); there = placed.stage.there; short = placed.stage.short } };
        later = omega arith;
        below = refl;
        long = refl;
        short = λ z. tt;
      }

  -- every open call has a move left
  some_left : (dir r : Text) (s : Stage) → 0 < weight t (stage_shown m t w dir r s)
  some_left dir r stage.Require = omega arith
  some_left dir r (stage.Marked f) = omega arith
  some_left dir r (stage.Labels p) = omega arith
  some_left dir r (stage.Candidates p fully walk) = omega arith
  some_left dir r (stage.Tested p) = omega arith

  module _ (row : OpenCall) (back told : Result (Option Place) Told) (c : ResolveContext) (is : IsTold row.stage back told) where
    -- what a call does not catch is its own end
    pub ends_moves : (told ≡ Ok None → ⊥) → Sound limit c → Moved m allowed t limit w row back c (Return told) w c
    ends_moves other sound =
        let dir = text_at w row.asked.directory in
        let r = text_at w row.asked.text in record {
          means = is.same m allowed t limit w dir r c ∙ is.ends_else m allowed t limit w dir r c other;
          falls = omega (arith, some_left dir r row.stage);
          kept = tt;
          sound = sound;
          later = omega arith;
          below = refl;
          long = refl;
          short = is.short;
        }

    -- where nothing came back, or what counts as nothing, the call goes on
    pub told_moves : (s : Stage) (move : Move) (u : List ℕ) (d : ResolveContext) → row.stage ≡ s → told ≡ Ok None → Moved m allowed t limit w (record { asked = row.asked; stage = s }) (Ok None) c move u d → Moved m allowed t limit w row back c move u d
    told_moves s move u d e n moved =
        let dir = text_at w row.asked.directory in
        let r = text_at w row.asked.text in
        let here : Moved m allowed t limit w row (Ok None) c move u d = subst (λ (h : Stage). Moved m allowed t limit w (record { asked = row.asked; stage = h }) (Ok None) c move u d) (sym e) moved in record {
          means = is.same m allowed t limit w dir r c ∙ ap (λ (b : Result (Option Place) Told). resumed m allowed t limit (stage_shown m t w dir r row.stage) (ended w t.aliases b c)) n ∙ here.means;
          falls = here.falls;
          kept = here.kept;
          sound = here.sound;
          later = here.later;
          below = here.below;
          long = here.long;
          short = λ z. here.short tt;
        }
