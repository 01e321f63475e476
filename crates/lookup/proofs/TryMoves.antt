-- The moves of a path whose candidates are tried. Assumes nothing.
use Rattle.std.proofs.Common.{◌≡◌, ℕ, suc, ◌+◌, ◌*◌, ◌≤◌, Bool, List, length, take, Some, None, Option, Ok, Err, Result, mul-suc, sym, subst, ap, ◌∙◌, arith}
use Rattle.texts.specs.declared.place.Place.{Place}
use Rattle.texts.specs.Texts.{Text}
use Rattle.texts.specs.Parts.{text_at}
use Rattle.tree.specs.Acceptances.{Allowed}
use Rattle.tree.specs.Meanings.{Meaning}
use Rattle.settings.specs.Tables.{Tables}
use Rattle.alias.specs.declared.attempts.Progress.{Progress}
use Rattle.alias.specs.Attempts.{attempts}
use Rattle.alias.specs.Left.{left as attempts_left}
use Rattle.candidates.specs.declared.walk.Walk.{Walk}
use Rattle.candidates.specs.Candidates.{Candidate}
use Rattle.candidates.specs.Left.{left}
use Rattle.lookup.specs.declared.calls.Fault.{Fault as Told}
use Rattle.lookup.specs.declared.calls.Fault.TheVariants as told
use Rattle.lookup.specs.declared.calls.ResolveContext.{ResolveContext}
use Rattle.lookup.specs.declared.calls.Asked.{Asked}
use Rattle.lookup.specs.declared.calls.Move.TheVariants.{Open, Return}
use Rattle.lookup.specs.Areas.{OnlyIn}
use Rattle.lookup.specs.Calls.{again, resumed, testing, trying}
use Rattle.lookup.specs.Faults.{not_found}
use Rattle.lookup.specs.Lookups.{Ended, failed, missed, or_next}
use Rattle.lookup.specs.Moves.{attempts_most, candidate_moves, test_moves}
use Rattle.lookup.specs.Opened.{ShortFault, context_of, fault_of, first_unit}
use Rattle.lookup.specs.Tried.{NextTried}
use Rattle.lookup.specs.Turns.{Follows, Moved, Trying, test_row, trying_row, with_text}
use Rattle.lookup.proofs.Areas.{front_stays, text_in_front_stays}
use Rattle.lookup.proofs.Bounds.{attempts_few}
use Rattle.lookup.proofs.Contexts.{context_stays}

module _
    (m : Meaning) (allowed : Allowed) (t : Tables) (limit : ℕ) {a : Asked} {path : Place} {c : ResolveContext} (h : Trying c a path) (few : c.rounds ≤ limit) (fully : Bool)
    {w u : List ℕ} {n : ℕ} (unit : n ≡ first_unit a.round) (written : OnlyIn (n + 4) w u) (walk then : Walk) (candidate : Option (Result Place Told))
    (next : NextTried u (n + 4) (left t fully (text_at w path) m walk) candidate (left t fully (text_at w path) m then))
  where
    abbrev r : Text
    r = text_at w a.text

    abbrev p : Text
    p = text_at w path

    only : OnlyIn (first_unit a.round + 4) w u
    only = subst (λ (n : ℕ). OnlyIn (n + 4) w u) unit written

    request_stays : text_at u a.text ≡ r
    request_stays = text_in_front_stays (first_unit a.round + 4) w u a.text only h.text

    path_stays : text_at u path ≡ p
    path_stays = text_in_front_stays (first_unit a.round + 4) w u path only h.path

    marks_kept : context_of u c ≡ context_of w c
    marks_kept = context_stays a.round 4 w u c (omega arith) (omega arith) only h.query h.fragment

    front_kept : take (256 * (first_unit a.round + 4)) u ≡ take (256 * (first_unit a.round + 4)) w
    front_kept = front_stays (first_unit a.round + 4) (256 * (first_unit a.round + 4)) w u only (omega arith)

    at : (o : Option (Result Place Told)) → candidate ≡ o → NextTried u (n + 4) (left t fully p m walk) o (left t fully p m then)
    at o is = subst (λ (o : Option (Result Place Told)). NextTried u (n + 4) (left t fully p m walk) o (left t fully p m then)) is next

    -- a candidate that is tested
    module _ (x : Place) (is : candidate ≡ Some (Ok x)) (q : Progress) (all : attempts_left m (text_at u x) (text_at u x) t.aliases q ≡ attempts m (text_at u x) (text_at u x) t.aliases) where
      goes_on : Follows c.rounds (trying_row a path fully walk) 0 (trying_row a path fully then)
      goes_on = record {
        placed = record { directory = h.directory; text = h.text; short = h.short; stage = (h.path, h.short_path) };
        begun = h.begun;
        free = omega arith;
        room = omega arith;
      }

      tests : Follows c.rounds (trying_row a path fully walk) 1 (test_row (with_text a x) q)
      tests =
          let tried = at (Some (Ok x)) is in record {
            placed = record { directory = omega (arith, h.directory); text = omega (arith, tried.1, tried.2, unit); short = tried.2; stage = tt };
            begun = h.begun;
            free = omega arith;
            room = omega arith;
          }

      one_less : length (left t fully p m walk) ≡ suc (length (left t fully p m then))
      one_less = ap length (at (Some (Ok x)) is).0

      as_many : length (left t fully (text_at u path) m then) ≡ length (left t fully p m then)
      as_many = λ k. length (left t fully (path_stays k) m then)

      few_attempts : length (attempts_left m (text_at u x) (text_at u x) t.aliases q) ≤ attempts_most t.aliases
      few_attempts = omega (arith, ap length all, attempts_few m (text_at u x) (text_at u x) t.aliases)

      -- one test less
      fewer : candidate_moves t (length (left t fully p m walk)) ≡ candidate_moves t (length (left t fully (text_at u path) m then)) + test_moves t
      fewer =
          ap (candidate_moves t) (one_less ∙ ap suc (sym as_many))
          ∙ ap (λ (n : ℕ). 1 + n) (mul-suc (test_moves t) (length (left t fully (text_at u path) m then)))
          ∙ omega arith

      pub candidate_moves_on : Moved m allowed t limit w (trying_row a path fully walk) (Ok None) c (Open (trying_row a path fully then) (test_row (with_text a x) q)) u c
      candidate_moves_on = record {
        means =
            ap (λ (cs : List Candidate). resumed m allowed t limit (trying r cs) (missed (context_of w c))) (at (Some (Ok x)) is).0
            ∙ (λ k. resumed m allowed t limit (trying (sym request_stays k) (left t fully (sym path_stays k) m then)) (resumed m allowed t limit (testing (text_at u x) (sym all k)) (missed (sym marks_kept k))));
        falls = omega (arith, fewer, few_attempts);
        kept = (goes_on, tests, omega arith);
        sound = record { few = few; query = h.query; fragment = h.fragment };
        later = omega arith;
        below = front_kept;
        long = only.long;
        short = λ z. tt;
      }

    -- what is left to try ends in a fault
    ends : (f : Told) → resumed m allowed t limit (trying r (left t fully p m walk)) (missed (context_of w c)) ≡ failed (fault_of u t.aliases f) (context_of u c) → ShortFault f
        → Moved m allowed t limit w (trying_row a path fully walk) (Ok None) c (Return (Err f)) u c
    ends f does short = record {
      means = does;
      falls = omega arith;
      kept = tt;
      sound = record { few = few; query = h.query; fragment = h.fragment };
      later = omega arith;
      below = front_kept;
      long = only.long;
      short = λ z. short;
    }

    -- a fault in the place of a candidate
    pub fault_moves : (f : Told) → candidate ≡ Some (Err f) → Moved m allowed t limit w (trying_row a path fully walk) (Ok None) c (Return (Err f)) u c
    fault_moves f is =
        let stops = at (Some (Err f)) is in
        ends f
        (ap (λ (x : Ended). or_next x (λ d. failed (not_found r) d)) (stops.0 t.aliases m allowed t (again m allowed t limit) (context_of w c)) ∙ (λ k. failed (fault_of u t.aliases f) (sym marks_kept k)))
        stops.1

    -- no candidate is left
    pub none_moves : candidate ≡ None → Moved m allowed t limit w (trying_row a path fully walk) (Ok None) c (Return (Err (told.NotFound a.text))) u c
    none_moves is =
        ends (told.NotFound a.text)
        (ap (λ (cs : List Candidate). resumed m allowed t limit (trying r cs) (missed (context_of w c))) (at None is) ∙ (λ k. failed (not_found (sym request_stays k)) (sym marks_kept k)))
        h.short
