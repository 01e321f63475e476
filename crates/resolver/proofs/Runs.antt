-- A run of calls, with one call more. Assumes nothing.
use Rattle.std.proofs.Common.{◌≡◌, ℕ, ◌+◌, List, [], ◌∷◌, ◌++◌, min, subst, arith}
use Rattle.tree.specs.Acceptances.{Allowed}
use Rattle.tree.specs.Meanings.{Meaning}
use Rattle.settings.specs.Tables.{Tables}
use Rattle.resolver.specs.Runs.{AllRight, Event, Reached, Right, ceiling, handed_by, handed_out_by, no_call, one_more}

pub handed_then : (past : List Event) (e : Event) → handed_out_by (past ++ e ∷ []) ≡ handed_out_by past + handed_by e
handed_then [] e = omega arith
handed_then (p ∷ past) e = omega (arith, handed_then past e)

pub handed_both : (past more : List Event) → handed_out_by (past ++ more) ≡ handed_out_by past + handed_out_by more
handed_both [] more = omega arith
handed_both (p ∷ past) more = omega (arith, handed_both past more)

module _ (m : Meaning) (allowed : Allowed) (t : Tables) where
  all_right_then : (n : ℕ) (past : List Event) (e : Event) → AllRight m allowed t n past → Right m allowed t (n + handed_out_by past) e → AllRight m allowed t n (past ++ e ∷ [])
  all_right_then n [] e all h =
      let same : n + 0 ≡ n = omega arith in
      one_more e [] (subst (λ (k : ℕ). Right m allowed t k e) same h) no_call
  all_right_then n (p ∷ past) e (one_more q more r all) h =
      let same : n + (handed_by p + handed_out_by past) ≡ n + handed_by p + handed_out_by past = omega arith in
      one_more p (past ++ e ∷ []) r (all_right_then (n + handed_by p) past e all (subst (λ (k : ℕ). Right m allowed t k e) same h))

  pub nothing_yet : Reached m allowed t [] 0
  nothing_yet = record { each_as_defined = no_call; counted = omega arith }

  -- one call more
  pub reached_then : (past : List Event) (e : Event) (before after : ℕ) → Reached m allowed t past before → Right m allowed t (handed_out_by past) e → after ≡ min (before + handed_by e) ceiling → Reached m allowed t (past ++ e ∷ []) after
  reached_then past e before after h r n = record {
    each_as_defined = all_right_then 0 past e h.each_as_defined (let same : handed_out_by past ≡ 0 + handed_out_by past = omega arith in subst (λ (k : ℕ). Right m allowed t k e) same r);
    counted = omega (arith, n, h.counted, handed_then past e);
  }

  -- a run, and another one behind it
  pub all_right_both : (n : ℕ) (past more : List Event) → AllRight m allowed t n past → AllRight m allowed t (n + handed_out_by past) more → AllRight m allowed t n (past ++ more)
  all_right_both n [] more all h =
      let same : n + 0 ≡ n = omega arith in
      subst (λ (k : ℕ). AllRight m allowed t k more) same h
  all_right_both n (p ∷ past) more (one_more q rest r all) h =
      let same : n + (handed_by p + handed_out_by past) ≡ n + handed_by p + handed_out_by past = omega arith in
      one_more p (past ++ more) r (all_right_both (n + handed_by p) past more all (subst (λ (k : ℕ). AllRight m allowed t k more) same h))
