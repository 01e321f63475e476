-- Quiet requests: what they are, and what a lookup answers them. Assumes nothing.
use Rattle.std.specs.Prelude.{◌≡◌, ◌≤◌, ◌⊎◌, ◌↔◌, Bool, true, false, List, ◌∷◌, ◌++◌, length, None}
use Rattle.std.specs.List.{AllByRecursion}
use Rattle.texts.specs.Texts.{Text}
use Rattle.texts.specs.Parts.{parts}
use Rattle.paths.specs.Joins.{join, joins}
use Rattle.specifier.specs.declared.branch.Branch.TheVariants as way
use Rattle.specifier.specs.Branches.{branch}
use Rattle.tree.specs.Acceptances.{Allowed, acceptable}
use Rattle.tree.specs.Meanings.{Meaning, Noted, Proper, mains, noted, unnoted, unreadable}
use Rattle.settings.specs.Limits.{WithinLimits}
use Rattle.settings.specs.Tables.{Tables}
use Rattle.candidates.specs.Candidates.{Candidate, broken_at, main_text, overlong, try}
use Rattle.lookup.specs.Faults.{not_found}
use Rattle.lookup.specs.Laws.{all_untouched, candidates_of, unmarked, untouched}
use Rattle.lookup.specs.Outcomes.{Room, answer, number_of, path, refusal, refused}

-- a manifest that is not broken; none is not broken either
abbrev pub readable : Noted → Bool
readable unnoted = true
readable unreadable = false
readable (noted ts) = true

-- a quiet request: relative, with neither `?` nor `#`; no label touches it, nor any of its candidates; the manifest at the path that it looks for is not broken
pub record Quiet (m : Meaning) (t : Tables) (dir r : Text) : Type 0 where
  pub without_marks : unmarked r ≡ true
  pub is_relative : branch r ≡ way.Relative
  pub without_labels : untouched t.aliases r ≡ true
  pub candidates_without_labels : all_untouched t.aliases (candidates_of m t dir r) ≡ true
  pub manifest_readable : readable (m.manifest (parts (join dir r))) ≡ true

-- a candidate passes: it is an acceptable text
abbrev pub passes : Meaning → Allowed → List Text → Candidate → Bool
passes m allowed restrictions (try p) = acceptable m allowed restrictions p
passes m allowed restrictions (broken_at p) = false
passes m allowed restrictions overlong = false

-- none of these candidates passes
abbrev pub NonePasses : Meaning → Allowed → List Text → List Candidate → Type 0
NonePasses m allowed restrictions cs = AllByRecursion (λ k. passes m allowed restrictions k ≡ false) cs

-- a path is the first acceptable one of the candidates: it stands among them, is acceptable, and none before it is
pub record First (m : Meaning) (allowed : Allowed) (restrictions : List Text) (cs : List Candidate) (p : Text) : Type 0 where
  pub before : List Candidate
  pub behind : List Candidate
  pub stands_there : cs ≡ before ++ (try p ∷ behind)
  pub none_before : NonePasses m allowed restrictions before
  pub is_acceptable : acceptable m allowed restrictions p ≡ true

-- a candidate is a text of at most 255 bytes, and neither a broken manifest nor a text that would be too long
abbrev pub IsText : Candidate → Type 0
IsText (try p) = length p ≤ 255
IsText (broken_at p) = ⊥
IsText overlong = ⊥

-- a main text can be joined to this path, and what comes of it has at most 212 bytes
abbrev pub MainJoins : Text → Text → Type 0
MainJoins p main = (joins p (main_text main) ≡ true) × (length (join p (main_text main)) ≤ 212)

-- no text is too long, nor one on the way to it: the path that is looked for, each main text joined to that, each candidate
pub record AllFits (m : Meaning) (t : Tables) (dir r : Text) : Type 0 where
  pub path_joins : joins dir r ≡ true
  pub path_is_short : length (join dir r) ≤ 177
  pub mains_join : AllByRecursion (MainJoins (join dir r)) (mains (m.manifest (parts (join dir r))))
  pub candidates_are_texts : AllByRecursion IsText (candidates_of m t dir r)

-- what every law here asks: a host that keeps its limits and settings that keep theirs, out of context mode, an accepted call, a quiet request
pub record QuietCall (m : Meaning) (t : Tables) (room : Room) (dir r : Text) : Type 0 where
  pub proper : Proper m
  pub limits : WithinLimits t
  pub out_of_context : t.context ≡ false
  pub accepted : refusal room dir r ≡ None
  pub quiet : Quiet m t dir r

-- a quiet request never forms a text that is too long
abbrev pub QuietRequestFits : Type 0
QuietRequestFits =
    (m : Meaning) (t : Tables) (room : Room) (dir r : Text) → QuietCall m t room dir r → AllFits m t dir r

-- a quiet request gives a path, byte for byte, with no query and no fragment, after one round, exactly if it is the first acceptable candidate
abbrev pub QuietRequestGivesTheFirst : Type 0
QuietRequestGivesTheFirst =
    (m : Meaning) (allowed : Allowed) (t : Tables) (room : Room) (dir r : Text) → QuietCall m t room dir r
    → (p : Text) → (answer m allowed t room dir r ≡ path p None None 1) ↔ First m allowed t.restrictions (candidates_of m t dir r) p

-- a quiet request ends in 22 with the request, after one round, exactly if no candidate is acceptable
abbrev pub NothingFoundIfNonePasses : Type 0
NothingFoundIfNonePasses =
    (m : Meaning) (allowed : Allowed) (t : Tables) (room : Room) (dir r : Text) → QuietCall m t room dir r
    → (answer m allowed t room dir r ≡ refused (not_found r) 1) ↔ NonePasses m allowed t.restrictions (candidates_of m t dir r)

-- a quiet request ends in a path or in 22, and in no other fault
abbrev pub QuietRequestEndsIn0Or22 : Type 0
QuietRequestEndsIn0Or22 =
    (m : Meaning) (allowed : Allowed) (t : Tables) (room : Room) (dir r : Text) → QuietCall m t room dir r
    → (number_of (answer m allowed t room dir r) ≡ 0) ⊎ (number_of (answer m allowed t room dir r) ≡ 22)
