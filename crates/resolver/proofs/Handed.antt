-- From what is defined of a call to what its answer and its buffers say. Assumes nothing.
use Rattle.std.proofs.Common.{◌≡◌, ◌≤◌, ℕ, List, ◌++◌, length, take, drop, Ok, Err, Some, None, Option, Result, sym, refl, ap, subst, ◌∙◌, arith}
use Rattle.std.proofs.Math.Path.{transport}
use Rattle.std.proofs.Math.Seq.{take-append_seam}
use Rattle.texts.specs.Texts.{Text}
use Rattle.tree.specs.Acceptances.{Allowed}
use Rattle.tree.specs.Meanings.{Meaning, Proper}
use Rattle.settings.specs.Limits.{WithinLimits}
use Rattle.settings.specs.Tables.{Tables}
use Rattle.lookup.specs.declared.resolution.Found.{Found}
use Rattle.lookup.specs.declared.resolution.Refused.{Refused}
use Rattle.lookup.specs.declared.resolution.ResolveError.{ResolveError}
use Rattle.lookup.specs.declared.resolution.ResolveError.TheVariants as error
use Rattle.lookup.specs.declared.resolution.Resolution.{Resolution}
use Rattle.lookup.specs.Faults.{Fault, bad_directory, bad_request, broken_lookup, broken_manifest, empty_request, ignored, long_text, no_memory, not_found, recursion, unmatched}
use Rattle.lookup.specs.Outcomes.{Outcome, Room, answer, buffers_after, handed_out, path, refusal, refused, rounds_at_most, rounds_of}
use Rattle.lookup.specs.Quiet.{QuietCall}
use Rattle.lookup.specs.Resolutions.{error_of, length_of, resolution_of}
use Rattle.lookup.proofs.Answering.{rounds_said}
use Rattle.lookup.proofs.Firsts.{gives_the_first, nothing_if_none, one_round}
use Rattle.lookup.proofs.Holding.{few, fine}
use Rattle.resolver.specs.Handed.{AcceptedQuiet, FirstCandidate, NotFoundIfNone, OnlyAcceptablePaths, hands_out_alone, path_in, says_not_found}
use Rattle.resolver.specs.Runs.{Buffers}

some_is : {A : Type 0} {x y : A} → Some x ≡ Some y → x ≡ y
some_is e = cc

-- the path at the front of the first buffer is the one that the definition hands out
path_said : (o : Outcome) (b : Buffers) → path_in (resolution_of o).outcome (buffers_after o b).0 ≡ handed_out o
path_said (path p q f n) b = ap Some (take-append_seam p (drop (length p) b.0))
path_said (refused f n) b = refl

-- the parts of an answer
abbrev query_said : Result Found Refused → Option ℕ
query_said (Ok f) = f.query
query_said (Err e) = None

abbrev fragment_said : Result Found Refused → Option ℕ
fragment_said (Ok f) = f.fragment
fragment_said (Err e) = None

abbrev error_said : Result Found Refused → Option ResolveError
error_said (Ok f) = None
error_said (Err e) = Some e.error

abbrev first_said : Result Found Refused → Option ℕ
first_said (Ok f) = None
first_said (Err e) = e.first

no_text : (t : Option Text) → length_of t ≡ None → t ≡ None
no_text None e = refl
no_text (Some t) e = absurd (let z : Some (length t) ≡ None = e in cc)

-- an answer of one round that hands a path out alone is that path's
alone_said : (o : Outcome) (b : Buffers) (p : Text) → rounds_of o ≡ 1 → hands_out_alone p (resolution_of o) (buffers_after o b).0 → o ≡ path p None None 1
alone_said (path q s f n) b p one h =
    let same : q ≡ p = some_is (sym (path_said (path q s f n) b) ∙ h.1) in
    let bare : s ≡ None = no_text s (ap query_said h.0) in
    let plain : f ≡ None = no_text f (ap fragment_said h.0) in
    λ i. path (same i) (bare i) (plain i) (one i)
alone_said (refused e n) b p one h = absurd (let z : error_said (resolution_of (refused e n)).outcome ≡ None = ap error_said h.0 in cc)

-- an answer of one round that says that nothing was found for a request is 22 with that request
missing_error : (f : Fault) (n : ℕ) (b : Buffers) (r : Text) → Some (error_of f) ≡ Some error.NotFound → first_said (resolution_of (refused f n)).outcome ≡ Some (length r) → take (length r) (buffers_after (refused f n) b).0 ≡ r → f ≡ not_found r
missing_error (not_found t) n b r e l h =
    let same : length t ≡ length r = some_is l in
    let text : t ≡ r = sym (take-append_seam t (drop (length t) b.0)) ∙ (λ i. take (same i) (t ++ drop (length t) b.0)) ∙ h in
    ap not_found text
missing_error no_memory n b r e l h = absurd (let z : Some error.NoMemory ≡ Some error.NotFound = e in cc)
missing_error bad_directory n b r e l h = absurd (let z : Some error.Directory ≡ Some error.NotFound = e in cc)
missing_error bad_request n b r e l h = absurd (let z : Some error.Request ≡ Some error.NotFound = e in cc)
missing_error (empty_request t) n b r e l h = absurd (let z : Some error.Empty ≡ Some error.NotFound = e in cc)
missing_error (unmatched t k) n b r e l h = absurd (let z : Some error.MatchedAliasNotFound ≡ Some error.NotFound = e in cc)
missing_error (ignored t) n b r e l h = absurd (let z : Some error.Ignored ≡ Some error.NotFound = e in cc)
missing_error recursion n b r e l h = absurd (let z : Some error.Recursion ≡ Some error.NotFound = e in cc)
missing_error long_text n b r e l h = absurd (let z : Some error.TooLong ≡ Some error.NotFound = e in cc)
missing_error (broken_manifest t) n b r e l h = absurd (let z : Some error.BrokenManifest ≡ Some error.NotFound = e in cc)
missing_error (broken_lookup t) n b r e l h = absurd (let z : Some error.BrokenLookup ≡ Some error.NotFound = e in cc)

missing_said : (o : Outcome) (b : Buffers) (r : Text) → rounds_of o ≡ 1 → says_not_found r (resolution_of o) (buffers_after o b).0 → o ≡ refused (not_found r) 1
missing_said (path q s f n) b r one h = absurd (let z : None ≡ Some error.NotFound = ap error_said h.0 in cc)
missing_said (refused f n) b r one h =
    let fault : f ≡ not_found r = missing_error f n b r (ap error_said h.0) (ap first_said h.0) h.1 in
    λ i. refused (fault i) (one i)

module _ (m : Meaning) (allowed : Allowed) (t : Tables) (room : Room) (dir r : Text) (b : Buffers) (a : Resolution) (first : List ℕ) where
  abbrev o : Outcome
  o = answer m allowed t room dir r

  module _ (answered : a ≡ resolution_of o) where
    pub few_rounds : a.rounds ≤ rounds_at_most
    few_rounds = omega (arith, ap (λ (x : Resolution). x.rounds) answered, rounds_said o, few m allowed t dir r (refusal room dir r))

    module _ (kept : first ≡ (buffers_after o b).0) where
      pub only_acceptable : OnlyAcceptablePaths m allowed t a first
      only_acceptable plain finds p h =
          fine m allowed t dir r plain finds (refusal room dir r) p (sym (path_said o b) ∙ (λ i. path_in (sym answered i).outcome (sym kept i)) ∙ h)

      -- a host that keeps its limits, and settings that keep theirs
      module _ (proper : Proper m) (limits : WithinLimits t) where
        quiet_call : AcceptedQuiet m t room dir r → QuietCall m t room dir r
        quiet_call q = record { proper = proper; limits = limits; out_of_context = q.out_of_context; accepted = q.accepted; quiet = q.quiet }

        alone_is : AcceptedQuiet m t room dir r → (p : Text) → hands_out_alone p a first → o ≡ path p None None 1
        alone_is q p h = alone_said o b p (one_round m allowed t room dir r (quiet_call q)) (transport (λ i. hands_out_alone p (answered i) (kept i)) h)

        is_alone : (p : Text) → o ≡ path p None None 1 → hands_out_alone p a first
        is_alone p e = transport (λ i. hands_out_alone p (sym answered i) (sym kept i)) (subst (λ (x : Outcome). hands_out_alone p (resolution_of x) (buffers_after x b).0) (sym e) (refl, ap Some (take-append_seam p (drop (length p) b.0))))

        pub first_candidate : FirstCandidate m allowed t room dir r a first
        first_candidate q p =
            let law = gives_the_first m allowed t room dir r (quiet_call q) p in
            (λ h. law.0 (alone_is q p h), λ f. is_alone p (law.1 f))

        pub not_found_if_none : NotFoundIfNone m allowed t room dir r a first
        not_found_if_none q =
            let law = nothing_if_none m allowed t room dir r (quiet_call q) in (
              λ h. law.0 (missing_said o b r (one_round m allowed t room dir r (quiet_call q)) (transport (λ i. says_not_found r (answered i) (kept i)) h)),
              λ n. transport (λ i. says_not_found r (sym answered i) (sym kept i)) (subst (λ (x : Outcome). says_not_found r (resolution_of x) (buffers_after x b).0) (sym (law.1 n)) (refl, take-append_seam r (drop (length r) b.0))),
            )
