-- The moves of a call whose labels are tried, on a request or on a candidate. Assumes nothing.
use Rattle.std.proofs.Common.{◌≡◌, refl, cond, ℕ, suc, ◌+◌, ◌*◌, ◌<◌, ◌≤◌, List, length, map, take, Some, None, Option, Ok, Err, Result, sym, subst, ap, ◌∙◌, arith}
use Rattle.texts.specs.declared.place.Place.{Place}
use Rattle.texts.specs.Texts.{Text}
use Rattle.texts.specs.Parts.{text_at}
use Rattle.specifier.specs.Branches.{branch}
use Rattle.tree.specs.Acceptances.{Allowed, acceptable}
use Rattle.tree.specs.Meanings.{Meaning}
use Rattle.settings.specs.Tables.{Tables}
use Rattle.alias.specs.declared.attempts.Progress.{Progress}
use Rattle.alias.specs.Attempts.{Attempt}
use Rattle.alias.specs.Left.{left}
use Rattle.lookup.specs.declared.calls.Fault.{Fault as Told}
use Rattle.lookup.specs.declared.calls.ResolveContext.{ResolveContext}
use Rattle.lookup.specs.declared.calls.Asked.{Asked}
use Rattle.lookup.specs.declared.calls.OpenCall.{OpenCall}
use Rattle.lookup.specs.declared.calls.Move.{Move}
use Rattle.lookup.specs.declared.calls.Move.TheVariants.{Open, Return}
use Rattle.lookup.specs.Areas.{OnlyIn}
use Rattle.lookup.specs.Attempted.{Next}
use Rattle.lookup.specs.Calls.{again, plugged, resumed, waiting}
use Rattle.lookup.specs.Lookups.{Context, Ended, by_way, ends_in, failed, missed, or_next, or_value, tries}
use Rattle.lookup.specs.Moves.{candidate_moves, candidates_most, weight, weights}
use Rattle.lookup.specs.Opened.{context_of, fault_of, first_unit, free_unit, shown}
use Rattle.lookup.specs.Turns.{EndsShort, Follows, Kept, Labelled, Moved, Stands, Testing, came_back, height, labels_row, loosened, round_row, rows_of, test_row}
use Rattle.lookup.proofs.Areas.{front_stays, text_in_front_stays}
use Rattle.lookup.proofs.Contexts.{context_stays}

-- such a call, by the rows that it goes through: what it makes of the attempts that are left and then of the text, what that weighs, and where it stands
pub record TriesLabels (m : Meaning) (allowed : Allowed) (t : Tables) (limit : ℕ) (c : ResolveContext) (row : Progress → OpenCall) (from : Asked) (rest : Text → Text → Context → Ended) (more : ℕ) : Type 0 where
  pub told :
      (w : List ℕ) (p : Progress) (e : Ended)
      → resumed m allowed t limit (shown m t w (row p)) e
      ≡ or_next (or_value e (λ d. tries m allowed t (again m allowed t limit) (text_at w from.directory) (left m (text_at w from.directory) (text_at w from.text) t.aliases p) d)) (rest (text_at w from.directory) (text_at w from.text))
  pub weighs : (w : List ℕ) (p : Progress) → weight t (shown m t w (row p)) ≡ more + suc (2 * length (left m (text_at w from.directory) (text_at w from.text) t.aliases p))
  pub goes_on : (p q : Progress) → Follows c.rounds (row p) 0 (row q)
  pub free : (p : Progress) → free_unit (row p) ≤ first_unit from.round + 5
  pub high : (p : Progress) → height (row p) ≤ 3 * from.round + 3
  pub stands : Stands 5 c from

module _
    {m : Meaning} {allowed : Allowed} {t : Tables} {limit : ℕ} {c : ResolveContext} {row : Progress → OpenCall} {from : Asked} {rest : Text → Text → Context → Ended} {more : ℕ}
    (h : TriesLabels m allowed t limit c row from rest more) (few : c.rounds ≤ limit)
    {w u : List ℕ} {n : ℕ} (unit : n ≡ first_unit from.round) (written : OnlyIn (n + 5) w u) (p q : Progress) (attempt : Option (Result Place Told))
    (next : Next u t.aliases (n + 5) (left m (text_at w from.directory) (text_at w from.text) t.aliases p) attempt (left m (text_at w from.directory) (text_at w from.text) t.aliases q))
  where
    abbrev dir : Text
    dir = text_at w from.directory

    abbrev r : Text
    r = text_at w from.text

    only : OnlyIn (first_unit from.round + 5) w u
    only = subst (λ (n : ℕ). OnlyIn (n + 5) w u) unit written

    directory_stays : text_at u from.directory ≡ dir
    directory_stays = text_in_front_stays (first_unit from.round + 5) w u from.directory only h.stands.directory

    text_stays : text_at u from.text ≡ r
    text_stays = text_in_front_stays (first_unit from.round + 5) w u from.text only h.stands.text

    marks_kept : context_of u c ≡ context_of w c
    marks_kept = context_stays from.round 5 w u c (omega arith) (omega arith) only h.stands.query h.stands.fragment

    front_kept : take (256 * free_unit (row p)) u ≡ take (256 * free_unit (row p)) w
    front_kept = front_stays (first_unit from.round + 5) (256 * free_unit (row p)) w u only (omega (arith, h.free p))

    at : (o : Option (Result Place Told)) → attempt ≡ o → Next u t.aliases (n + 5) (left m dir r t.aliases p) o (left m dir r t.aliases q)
    at o is = subst (λ (o : Option (Result Place Told)). Next u t.aliases (n + 5) (left m dir r t.aliases p) o (left m dir r t.aliases q)) is next

    -- an attempt that starts a round
    module _ (x : Place) (is : attempt ≡ Some (Ok x)) where
      loosened_stays : context_of u (loosened c) ≡ context_of w (loosened c)
      loosened_stays = context_stays from.round 5 w u (loosened c) (omega arith) (omega arith) only h.stands.query h.stands.fragment

      starts : Follows c.rounds (row p) 1 (round_row from x)
      starts =
          let a = at (Some (Ok x)) is in record {
            placed = record { directory = omega (arith, h.stands.directory); text = omega (arith, a.1, a.2, unit); short = a.2; stage = tt };
            begun = omega (arith, h.stands.begun);
            free = omega (arith, h.free p);
            room = omega (arith, h.high p);
          }

      one_less : length (left m dir r t.aliases p) ≡ suc (length (left m dir r t.aliases q))
      one_less = ap length (at (Some (Ok x)) is).0

      as_many : length (left m (text_at u from.directory) (text_at u from.text) t.aliases q) ≡ length (left m dir r t.aliases q)
      as_many = λ k. length (left m (directory_stays k) (text_stays k) t.aliases q)

      pub value_moves : Moved m allowed t limit w (row p) (Ok None) c (Open (row q) (round_row from x)) u (loosened c)
      value_moves = record {
        means =
            h.told w p (missed (context_of w c))
            ∙ ap (λ (ts : List Attempt). or_next (tries m allowed t (again m allowed t limit) dir ts (context_of w c)) (rest dir r)) (at (Some (Ok x)) is).0
            ∙ (λ k. or_next (or_value (resumed m allowed t limit (waiting (sym directory_stays k) (text_at u x)) (missed (sym loosened_stays k))) (λ d. tries m allowed t (again m allowed t limit) (sym directory_stays k) (left m (sym directory_stays k) (sym text_stays k) t.aliases q) d)) (rest (sym directory_stays k) (sym text_stays k)))
            ∙ sym (h.told u q (resumed m allowed t limit (waiting (text_at u from.directory) (text_at u x)) (missed (context_of u (loosened c)))));
        falls = omega (arith, h.weighs w p, h.weighs u q, one_less, as_many);
        kept = (h.goes_on p q, starts, omega (arith, h.free q));
        sound = record { few = few; query = h.stands.query; fragment = h.stands.fragment };
        later = omega arith;
        below = front_kept;
        long = only.long;
        short = λ z. tt;
      }

    -- what comes of the attempts ends in the move, with no other round
    ends :
        (v : List ℕ) (move : Move) → length v ≡ length u → take (256 * free_unit (row p)) v ≡ take (256 * free_unit (row p)) u
        → or_next (tries m allowed t (again m allowed t limit) dir (left m dir r t.aliases p) (context_of w c)) (rest dir r) ≡ plugged m allowed t limit (map (shown m t v) (rows_of move)) (came_back v t.aliases move c)
        → weights t (map (shown m t v) (rows_of move)) < suc more → Kept c.rounds (row p) move → EndsShort move
        → Moved m allowed t limit w (row p) (Ok None) c move v c
    ends v move long below does fewer kept short = record {
      means = h.told w p (missed (context_of w c)) ∙ does;
      falls = omega (arith, fewer, h.weighs w p);
      kept = kept;
      sound = record { few = few; query = h.stands.query; fragment = h.stands.fragment };
      later = omega arith;
      below = below ∙ front_kept;
      long = long ∙ only.long;
      short = λ z. short;
    }

    -- an attempt that ends the search
    pub fault_moves : (f : Told) → attempt ≡ Some (Err f) → Moved m allowed t limit w (row p) (Ok None) c (Return (Err f)) u c
    fault_moves f is =
        let stops = at (Some (Err f)) is in
        ends u (Return (Err f)) refl refl
        (ap (λ (e : Ended). or_next e (rest dir r)) (stops.0 m allowed t (again m allowed t limit) dir (context_of w c)) ∙ (λ k. failed (fault_of u t.aliases f) (sym marks_kept k)))
        (omega arith) tt stops.1

    -- no attempt is left: the call does the rest
    pub rest_moves :
        attempt ≡ None → (v : List ℕ) (move : Move) → length v ≡ length u → take (256 * free_unit (row p)) v ≡ take (256 * free_unit (row p)) u
        → rest (text_at u from.directory) (text_at u from.text) (context_of u c) ≡ plugged m allowed t limit (map (shown m t v) (rows_of move)) (came_back v t.aliases move c)
        → weights t (map (shown m t v) (rows_of move)) < suc more → Kept c.rounds (row p) move → EndsShort move
        → Moved m allowed t limit w (row p) (Ok None) c move v c
    rest_moves is v move long below does fewer kept short =
        ends v move long below
        (ap (λ (ts : List Attempt). or_next (tries m allowed t (again m allowed t limit) dir ts (context_of w c)) (rest dir r)) (at None is)
        ∙ (λ k. rest (sym directory_stays k) (sym text_stays k) (sym marks_kept k)) ∙ does)
        fewer kept short

module _ (m : Meaning) (allowed : Allowed) (t : Tables) (limit : ℕ) {c : ResolveContext} {a : Asked} where
  -- a request, which goes its way where no attempt makes anything of it
  pub on_request : Labelled c a → TriesLabels m allowed t limit c (labels_row a) a (λ dir r d. by_way m allowed t (again m allowed t limit) (branch r) dir r d) (suc (candidate_moves t (candidates_most t)))
  on_request h = record {
    told = λ w p e. refl;
    weighs = λ w p. omega arith;
    goes_on = λ p q. record {
      placed = record { directory = h.directory; text = h.text; short = h.short; stage = tt };
      begun = h.begun;
      free = omega arith;
      room = omega arith;
    };
    free = λ p. omega arith;
    high = λ p. omega arith;
    stands = record { directory = omega (arith, h.directory); text = omega (arith, h.text); short = h.short; begun = h.begun; query = h.query; fragment = h.fragment };
  }

  -- a candidate from itself, which must be acceptable where no attempt makes anything of it
  pub on_candidate : Testing c a → TriesLabels m allowed t limit c (test_row a) (record { round = a.round; directory = a.text; text = a.text }) (λ dir r d. cond (acceptable m allowed t.restrictions r) (ends_in r d) (missed d)) 0
  on_candidate h = record {
    told = λ w p e. refl;
    weighs = λ w p. omega arith;
    goes_on = λ p q. record {
      placed = record { directory = h.directory; text = h.text; short = h.short; stage = tt };
      begun = h.begun;
      free = omega arith;
      room = omega arith;
    };
    free = λ p. omega arith;
    high = λ p. omega arith;
    stands = record { directory = h.text; text = h.text; short = h.short; begun = h.begun; query = h.query; fragment = h.fragment };
  }
