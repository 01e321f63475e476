-- What every answer keeps: only acceptable paths are handed out, and at most 64 rounds run. Assumes nothing.
use Rattle.std.proofs.Common.{◌≡◌, ◌≤◌, true, false, Some, None, Option, sym, ap, ◌∙◌, arith}
use Rattle.std.proofs.lemmas.Bool.{false≢true}
use Rattle.texts.specs.Texts.{Text}
use Rattle.tree.specs.Acceptances.{Allowed, acceptable}
use Rattle.tree.specs.Meanings.{Meaning}
use Rattle.settings.specs.Tables.{Tables}
use Rattle.lookup.specs.Faults.{Fault}
use Rattle.lookup.specs.Laws.{FindsAcceptablePaths}
use Rattle.lookup.specs.Lookups.{Context, Ended, ends_in, failed, missed, require}
use Rattle.lookup.specs.Outcomes.{fresh, handed_out, lookup, outcome_of, rounds_at_most, rounds_of, unless_refused}
use Rattle.lookup.proofs.Keeping.{Every, Keeps, Kept, by_rounds, require_keeps}

some_is : {x y : Text} → Some x ≡ Some y → x ≡ y
some_is e = cc

module _ (m : Meaning) (allowed : Allowed) (t : Tables) (dir r : Text) where
  -- containment
  module _ (plain : t.context ≡ false) (finds : FindsAcceptablePaths m allowed t.restrictions) where
    abbrev Any : Context → Type 0
    Any c = Unit {0}

    abbrev Fine : Text → Type 0
    Fine p = acceptable m allowed t.restrictions p ≡ true

    contained : Kept m allowed t rounds_at_most Any Fine
    contained = record {
      loosened_too = λ c h. tt;
      marked_too = λ f c h. tt;
      taken_too = λ s c h. tt;
      counted_too = λ c h n. tt;
      accepted = λ p h. h;
      looked_up = λ w s d p e. finds w s d p e;
      in_context = λ e p. absurd (false≢true (sym plain ∙ e));
    }

    fine_end : (e : Ended) → Keeps m allowed t rounds_at_most Any Fine contained e → (p : Text) → handed_out (outcome_of e) ≡ Some p → Fine p
    fine_end (ends_in q c) k p h = ap (acceptable m allowed t.restrictions) (sym (some_is h)) ∙ k.0
    fine_end (missed c) k p h = absurd (let f : None ≡ Some p = h in cc)
    fine_end (failed f c) k p h = absurd (let g : None ≡ Some p = h in cc)

    pub fine : (o : Option Fault) (p : Text) → handed_out (unless_refused o (lookup m allowed t dir r)) ≡ Some p → Fine p
    unfolding lookup
    fine (Some f) p h = absurd (let g : None ≡ Some p = h in cc)
    fine None p h = fine_end (require m allowed t rounds_at_most rounds_at_most dir r (fresh t)) (require_keeps m allowed t rounds_at_most Any Fine contained rounds_at_most dir r (fresh t) tt) p h

  -- rounds
  abbrev Few : Context → Type 0
  Few c = c.rounds ≤ rounds_at_most

  bounded : Kept m allowed t rounds_at_most Few Every
  bounded = by_rounds m allowed t rounds_at_most (λ n. n ≤ rounds_at_most) (λ n h l. omega arith)

  few_end : (e : Ended) → Keeps m allowed t rounds_at_most Few Every bounded e → rounds_of (outcome_of e) ≤ rounds_at_most
  few_end (ends_in q c) k = k.1
  few_end (missed c) k = k
  few_end (failed f c) k = k

  pub few : (o : Option Fault) → rounds_of (unless_refused o (lookup m allowed t dir r)) ≤ rounds_at_most
  unfolding lookup
  few (Some f) = omega arith
  few None = few_end (require m allowed t rounds_at_most rounds_at_most dir r (fresh t)) (require_keeps m allowed t rounds_at_most Few Every bounded rounds_at_most dir r (fresh t) (omega arith))
