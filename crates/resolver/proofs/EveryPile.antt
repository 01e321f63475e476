-- The laws hold over every meaning that keeps a host's limits, and so over every pile. Assumes nothing.
use Rattle.std.proofs.Common.{[], refl}
use Rattle.tree.specs.Meanings.{Meaning, Proper}
use Rattle.lookup.specs.Outcomes.{answer, buffers_after}
use Rattle.lookup.specs.Resolutions.{resolution_of}
use Rattle.piles.specs.Piles.{Pile, WellPiled, means}
use Rattle.piles.proofs.Heights.{every_pile_is_proper}
use Rattle.resolver.specs.Piled.{LawsOver}
use Rattle.resolver.proofs.Handed.{few_rounds, first_candidate, not_found_if_none, only_acceptable}

laws_over : (m : Meaning) → Proper m → LawsOver m
laws_over m proper = record {
  at_most_64_rounds_run = λ allowed t room dir r. few_rounds m allowed t room dir r ([], ([], [])) (resolution_of (answer m allowed t room dir r)) [] refl;
  only_acceptable_paths_are_handed_out = λ allowed t room dir r b. only_acceptable m allowed t room dir r b (resolution_of (answer m allowed t room dir r)) (buffers_after (answer m allowed t room dir r) b).0 refl refl;
  first_acceptable_candidate_is_handed_out = λ allowed t limits room dir r b. first_candidate m allowed t room dir r b (resolution_of (answer m allowed t room dir r)) (buffers_after (answer m allowed t room dir r) b).0 refl refl proper limits;
  nothing_is_found_exactly_when_no_candidate_is_acceptable = λ allowed t limits room dir r b. not_found_if_none m allowed t room dir r b (resolution_of (answer m allowed t room dir r)) (buffers_after (answer m allowed t room dir r) b).0 refl refl proper limits;
}

pub laws_over_every_pile : (p : Pile) → WellPiled p → LawsOver (means p)
laws_over_every_pile p w = laws_over (means p) (every_pile_is_proper p w)
