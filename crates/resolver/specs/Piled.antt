-- The laws of answers over one meaning of a host. Assumes nothing.
use Rattle.std.specs.Prelude.{◌≤◌}
use Rattle.texts.specs.Texts.{Text}
use Rattle.tree.specs.Acceptances.{Allowed}
use Rattle.tree.specs.Meanings.{Meaning}
use Rattle.settings.specs.Limits.{WithinLimits}
use Rattle.settings.specs.Tables.{Tables}
use Rattle.lookup.specs.Outcomes.{Room, answer, buffers_after, rounds_at_most}
use Rattle.lookup.specs.Resolutions.{resolution_of}
use Rattle.resolver.specs.Handed.{FirstCandidate, NotFoundIfNone, OnlyAcceptablePaths}
use Rattle.resolver.specs.Runs.{Buffers}

-- what a resolve answers over a host of this meaning keeps all laws, whatever the policy, the settings, the room, the texts and the buffers
pub record LawsOver (m : Meaning) : Type 0 where
  pub at_most_64_rounds_run : (allowed : Allowed) (t : Tables) (room : Room) (dir r : Text) → (resolution_of (answer m allowed t room dir r)).rounds ≤ rounds_at_most
  pub only_acceptable_paths_are_handed_out : (allowed : Allowed) (t : Tables) (room : Room) (dir r : Text) (b : Buffers) → OnlyAcceptablePaths m allowed t (resolution_of (answer m allowed t room dir r)) (buffers_after (answer m allowed t room dir r) b).0
  pub first_acceptable_candidate_is_handed_out : (allowed : Allowed) (t : Tables) → WithinLimits t → (room : Room) (dir r : Text) (b : Buffers) → FirstCandidate m allowed t room dir r (resolution_of (answer m allowed t room dir r)) (buffers_after (answer m allowed t room dir r) b).0
  pub nothing_is_found_exactly_when_no_candidate_is_acceptable : (allowed : Allowed) (t : Tables) → WithinLimits t → (room : Room) (dir r : Text) (b : Buffers) → NotFoundIfNone m allowed t room dir r (resolution_of (answer m allowed t room dir r)) (buffers_after (answer m allowed t room dir r) b).0
