-- A lookup that began never ends in a fault that precedes it. Assumes nothing.
use Rattle.std.proofs.Common.{◌≡◌, ℕ, zero, suc, Bool, true, false, cond, List, length, replicate, Some, None, Option, refl, is_some, arith}
use Rattle.std.specs.List.{AllByRecursion}
use Rattle.std.proofs.lemmas.List.{length-replicate}
use Rattle.texts.specs.Texts.{Text}
use Rattle.texts.specs.Parts.{parts}
use Rattle.specifier.specs.Accepted.{askable, startable}
use Rattle.tree.specs.declared.answers.Way.TheVariants as asked
use Rattle.tree.specs.Acceptances.{Allowed}
use Rattle.tree.specs.Meanings.{Finding, Meaning, faulty, found, missing}
use Rattle.settings.specs.Tables.{Tables}
use Rattle.lookup.specs.Faults.{Fault, bad_directory, bad_request, no_memory, precedes}
use Rattle.lookup.specs.Laws.{ended_before}
use Rattle.lookup.specs.Lookups.{Context, Ended, answered_by, ends_in, failed, missed, require}
use Rattle.lookup.specs.Outcomes.{Room, answer, area_after, fresh, lookup, outcome_of, refusal, roomy, rounds_at_most, unless_refused}
use Rattle.lookup.specs.Rules.{Asked, Ends}
use Rattle.lookup.specs.Rules as rule
use Rattle.lookup.proofs.Obeying.{obeys}

-- an end that does not precede the lookup
abbrev Late : Ended → Type 0
Late (ends_in p c) = Unit {0}
Late (missed c) = Unit {0}
Late (failed f c) = precedes f ≡ false

answered_late : (r : Text) (x : Finding) (c : Context) → Late (answered_by r x c)
answered_late r (found p) c = tt
answered_late r missing c = refl
answered_late r faulty c = refl

module _ (m : Meaning) (allowed : Allowed) (t : Tables) where
  module _ (limit : ℕ) where
    late : {a : Asked} {c : Context} {e : Ended} → Ends m allowed t limit a c e → Late e
    late (rule.no_round_is_left h) = refl
    late (rule.path_is_empty h b) = refl
    late (rule.path_is_asked h b w) = late w
    late (rule.with_a_query q w) = late w
    late (rule.with_no_marks q f w) = late w
    late (rule.fragment_is_too_long q f b) = refl
    late (rule.fragment_is_of_the_path q f b w) = tt
    late (rule.fault_stays q f b w s) = late w
    late (rule.fragment_is_put_back q f b w s v) = late v
    late (rule.labels_decide w s) = late w
    late (rule.absolute w b v) = late v
    late (rule.relative w b j v) = late v
    late (rule.relative_is_too_long w b j) = refl
    late (rule.by_hash {dir = dir} {r = r} {d = d} w b) = answered_late r (m.lookup asked.Hash r (parts dir)) d
    late (rule.by_package {dir = dir} {r = r} {d = d} w b) = answered_late r (m.lookup asked.Package r (parts dir)) d
    late rule.no_attempt_is_left = tt
    late (rule.value_finds w) = tt
    late (rule.value_fails w s) = late w
    late (rule.next_follows w s v) = late v
    late rule.label_ignores = refl
    late rule.label_is_unmatched = refl
    late rule.attempt_is_too_long = refl
    late (rule.directory_in_context x k) = tt
    late (rule.nothing_in_context x k) = refl
    late (rule.candidates_decide x w s) = late w
    late (rule.no_candidate_passes x w) = refl
    late rule.no_candidate_is_left = tt
    late (rule.its_labels_decide w s) = late w
    late (rule.candidate_passes w s) = tt
    late (rule.candidate_is_passed_over w s v) = late v
    late rule.manifest_is_broken = refl
    late rule.candidate_is_too_long = refl

  late_outcome : (e : Ended) → Late e → ended_before (outcome_of e) ≡ false
  late_outcome (ends_in p c) h = refl
  late_outcome (missed c) h = refl
  late_outcome (failed f c) h = h

  module _ (dir r : Text) where
    late_lookup : ended_before (lookup m allowed t dir r) ≡ false
    unfolding lookup
    late_lookup =
        late_outcome (require m allowed t rounds_at_most rounds_at_most dir r (fresh t)) (late rounds_at_most (obeys m allowed t rounds_at_most rounds_at_most dir r (fresh t) (omega arith)))

    pub says_if_begun : (room : Room) → ended_before (answer m allowed t room dir r) ≡ is_some (refusal room dir r)
    says_if_begun room = at (roomy room) (startable dir) (askable r)
      where
        at : (a b c : Bool)
            → ended_before (unless_refused (cond a (cond b (cond c None (Some bad_request)) (Some bad_directory)) (Some no_memory)) (lookup m allowed t dir r))
            ≡ is_some (cond a (cond b (cond c None (Some bad_request)) (Some bad_directory)) (Some no_memory))
        at true true true = late_lookup
        at true true false = refl
        at true false c = refl
        at false b c = refl

zeroed : (n : ℕ) → AllByRecursion (λ (b : ℕ). b ≡ 0) (replicate n 0)
zeroed zero = tt
zeroed (suc n) = (refl, zeroed n)

-- the text area after a call, by why it was refused
pub area_left : (early : Option Fault) (area : List ℕ)
    → (early ≡ None → (length (area_after early area) ≡ length area) × AllByRecursion (λ b. b ≡ 0) (area_after early area)) × ((f : Fault) → early ≡ Some f → area_after early area ≡ area)
area_left None area = (λ h. (length-replicate (length area) 0, zeroed (length area)), λ f h. absurd (let g : None ≡ Some f = h in cc))
area_left (Some f) area = (λ h. absurd (let g : Some f ≡ None = h in cc), λ g h. refl)
