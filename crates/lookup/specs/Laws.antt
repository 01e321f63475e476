-- The laws of lookups. Assumes nothing.
use Rattle.std.specs.Prelude.{◌≡◌, ◌+◌, ◌≤◌, ℕ, Bool, true, false, cond, not, ◌&&◌, List, [], ◌∷◌, length, Some, None, is_some}
use Rattle.std.specs.List.{AllByRecursion}
use Rattle.texts.specs.Texts.{HASH, QUESTION, Text, has}
use Rattle.paths.specs.Joins.{join, joins}
use Rattle.specifier.specs.declared.branch.Branch.TheVariants as way
use Rattle.specifier.specs.Branches.{branch}
use Rattle.tree.specs.declared.answers.Way.{Way}
use Rattle.tree.specs.Acceptances.{Allowed, acceptable}
use Rattle.tree.specs.Meanings.{Meaning, Path, found}
use Rattle.settings.specs.Tables.{Alias, Tables, Value, labelled}
use Rattle.alias.specs.Forms.{touches}
use Rattle.alias.specs.Laws.{Continues, is_plain}
use Rattle.candidates.specs.Candidates.{Candidate, broken_at, candidates, asks_for_directory, overlong, try}
use Rattle.lookup.specs.Faults.{Fault, broken_manifest, long_text, not_found, precedes}
use Rattle.lookup.specs.Lookups.{Context, Ended, ends_in, failed, missed, require}
use Rattle.lookup.specs.Outcomes.{Outcome, Room, answer, area_after, handed_out, path, refusal, refused, rounds_at_most, rounds_of}

-- package and hash lookup of a host find only acceptable paths
abbrev pub FindsAcceptablePaths : Meaning → Allowed → List Text → Type 0
FindsAcceptablePaths m allowed restrictions = (w : Way) (r : Text) (dir : Path) (p : Text) → m.lookup w r dir ≡ found p → acceptable m allowed restrictions p ≡ true

-- out of context mode, and where package and hash lookup find only acceptable paths, every path that is handed out is acceptable: a file that the policy allows and every restriction passes
abbrev pub OnlyAcceptablePathsAreHandedOut : Type 0
OnlyAcceptablePathsAreHandedOut =
    (m : Meaning) (allowed : Allowed) (t : Tables) → t.context ≡ false → FindsAcceptablePaths m allowed t.restrictions
    → (room : Room) (dir r p : Text) → handed_out (answer m allowed t room dir r) ≡ Some p → acceptable m allowed t.restrictions p ≡ true

-- a part of a lookup that ended in a path or in a fault
abbrev pub decisive : Ended → Bool
decisive (ends_in p c) = true
decisive (missed c) = false
decisive (failed f c) = true

-- however a lookup ends, no more rounds have run than the limit
abbrev pub AtMost64RoundsRun : Type 0
AtMost64RoundsRun = (m : Meaning) (allowed : Allowed) (t : Tables) (room : Room) (dir r : Text) → rounds_of (answer m allowed t room dir r) ≤ rounds_at_most

-- a request with neither `?` nor `#`, and so without query and fragment
abbrev pub unmarked : Text → Bool
unmarked r = not (has QUESTION r) && not (has HASH r)

-- no label touches a text
abbrev pub untouched : List Alias → Text → Bool
untouched [] r = true
untouched (a ∷ more) r = cond (touches a.label r) false (untouched more r)

-- no label touches a candidate
abbrev pub all_untouched : List Alias → List Candidate → Bool
all_untouched labels [] = true
all_untouched labels (try p ∷ more) = untouched labels p && all_untouched labels more
all_untouched labels (broken_at p ∷ more) = all_untouched labels more
all_untouched labels (overlong ∷ more) = all_untouched labels more

-- what a list of candidates decides: its first acceptable one, or the end that stands before that one, or that nothing is found
abbrev pub decided : Meaning → Allowed → List Text → Text → List Candidate → Outcome
decided m allowed restrictions r [] = refused (not_found r) 1
decided m allowed restrictions r (try p ∷ more) = cond (acceptable m allowed restrictions p) (path p None None 1) (decided m allowed restrictions r more)
decided m allowed restrictions r (broken_at p ∷ more) = refused (broken_manifest p) 1
decided m allowed restrictions r (overlong ∷ more) = refused long_text 1

-- the candidates of a relative request
abbrev pub candidates_of : Meaning → Tables → Text → Text → List Candidate
candidates_of m t dir r = candidates t t.fully_specified m (asks_for_directory r) (join dir r)

-- a relative request with neither `?` nor `#` that no label touches, nor any of its candidates, gives the first acceptable candidate byte for byte, with no query and no fragment, after one round; if none is acceptable, nothing is found
abbrev pub FirstAcceptableCandidateIsHandedOut : Type 0
FirstAcceptableCandidateIsHandedOut =
    (m : Meaning) (allowed : Allowed) (t : Tables) (room : Room) (dir r : Text) → t.context ≡ false → refusal room dir r ≡ None
    → unmarked r ≡ true → branch r ≡ way.Relative → joins dir r ≡ true → untouched t.aliases r ≡ true → all_untouched t.aliases (candidates_of m t dir r) ≡ true
    → answer m allowed t room dir r ≡ decided m allowed t.restrictions r (candidates_of m t dir r)

-- the settings with other labels
abbrev pub relabelled : List Alias → Tables → Tables
relabelled labels t = record {
  aliases = labels;
  extensions = t.extensions;
  main_files = t.main_files;
  restrictions = t.restrictions;
  fully_specified = t.fully_specified;
  context = t.context;
  enforcement = t.enforcement;
}

-- a request for a package with neither `?` nor `#` that is not a plain label, nor continues it with a slash or a backslash, ends with that label alone in the table as with no label at all
abbrev pub PlainLabelCoversOnlyWhatContinuesIt : Type 0
PlainLabelCoversOnlyWhatContinuesIt =
    (m : Meaning) (allowed : Allowed) (t : Tables) (room : Room) (dir r l : Text) (vs : List Value) → unmarked r ≡ true → branch r ≡ way.Package → is_plain l ≡ true → (Continues l r → ⊥)
    → answer m allowed (relabelled (labelled l vs ∷ []) t) room dir r ≡ answer m allowed (relabelled [] t) room dir r

-- a lookup never ends in nothing: it ends in a path or in a fault with its number
abbrev pub EndsInAPathOrAFault : Type 0
EndsInAPathOrAFault =
    (m : Meaning) (allowed : Allowed) (t : Tables) (limit n : ℕ) (dir r : Text) (c : Context) → decisive (require m allowed t limit n dir r c) ≡ true

-- how deep rounds may lie in one another never shows, once it is enough for the rounds that are left
abbrev pub NestingNeverShows : Type 0
NestingNeverShows =
    (m : Meaning) (allowed : Allowed) (t : Tables) (limit n k : ℕ) (dir r : Text) (c : Context) → limit ≤ n + c.rounds → limit ≤ k + c.rounds
    → require m allowed t limit n dir r c ≡ require m allowed t limit k dir r c

-- a call ended in a fault that precedes the lookup
abbrev pub ended_before : Outcome → Bool
ended_before (path p q f n) = false
ended_before (refused f n) = precedes f

-- a call answers 1, 2 or 20 exactly if it was refused before the lookup: so its answer says whether the work memory is as it was
abbrev pub AnswerSaysIfTheLookupBegan : Type 0
AnswerSaysIfTheLookupBegan = (m : Meaning) (allowed : Allowed) (t : Tables) (room : Room) (dir r : Text) → ended_before (answer m allowed t room dir r) ≡ is_some (refusal room dir r)

-- an accepted call leaves as many bytes of the text area as it was lent, each of them 0; a refused one leaves them as they were
abbrev pub TextAreaIsZeroedOrAsItWas : Type 0
TextAreaIsZeroedOrAsItWas =
    (room : Room) (dir r : Text) (area : List ℕ)
    → (refusal room dir r ≡ None → (length (area_after (refusal room dir r) area) ≡ length area) × AllByRecursion (λ b. b ≡ 0) (area_after (refusal room dir r) area))
    × ((f : Fault) → refusal room dir r ≡ Some f → area_after (refusal room dir r) area ≡ area)
