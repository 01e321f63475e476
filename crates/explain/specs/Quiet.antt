-- Which questions are quiet, and where those end. Assumes nothing.
use Rattle.std.specs.Prelude.{◌≡◌, Bool, true, false, cond, not, ◌&&◌, List, [], ◌∷◌, Some, None, Option, codes}
use Rattle.texts.specs.Texts.{Text}
use Rattle.specifier.specs.declared.branch.Branch.{Branch}
use Rattle.specifier.specs.declared.branch.Branch.TheVariants as way
use Rattle.specifier.specs.Branches.{branch}
use Rattle.tree.specs.Meanings.{Meaning}
use Rattle.settings.specs.Tables.{Alias, Tables}
use Rattle.lookup.specs.Faults.{not_found}
use Rattle.lookup.specs.Laws.{unmarked, untouched}
use Rattle.lookup.specs.Outcomes.{Outcome, path, refused}
use Rattle.lookup.specs.Quiet.{Quiet}
use Rattle.explain.specs.Legible.{legible, phrase}
use Rattle.explain.specs.Offers.{Judged, broken, passes, too_long, tried}

-- the relative way
abbrev pub is_relative : Branch → Bool
is_relative way.Absolute = false
is_relative way.Relative = true
is_relative way.Hash = false
is_relative way.Package = false

-- out of context mode a request that may be quiet by itself: relative, with neither `?` nor `#`, and no label touches it
abbrev pub may_be_quiet : Tables → Text → Bool
may_be_quiet t r = not t.context && (unmarked r && (is_relative (branch r) && untouched t.aliases r))

-- out of context mode a quiet request
pub record QuietQuestion (m : Meaning) (t : Tables) (directory request : Text) : Type 0 where
  pub out_of_context : t.context ≡ false
  pub quiet : Quiet m t directory request

-- no label touches the text of a candidate; a fault has none
abbrev pub is_untouched : List Alias → Judged → Bool
is_untouched labels (tried t v) = untouched labels t
is_untouched labels (broken p) = true
is_untouched labels too_long = true

-- the first candidate that may be handed out
abbrev pub first_acceptable : List Judged → Option Text
first_acceptable [] = None
first_acceptable (tried t v ∷ more) = cond (passes v) (Some t) (first_acceptable more)
first_acceptable (broken p ∷ more) = first_acceptable more
first_acceptable (too_long ∷ more) = first_acceptable more

-- where a quiet request ends, after one round: in a path, or in 22 with the request
abbrev pub quiet_outcome : Text → Option Text → Outcome
quiet_outcome request None = refused (not_found request) 1
quiet_outcome request (Some p) = path p None None 1

-- the sentence on a quiet question, with the law that says where it ends
abbrev pub quiet_sentence : Option Text → Text
quiet_sentence None = codes "  The request is quiet: by nothing_is_found_exactly_when_no_candidate_is_acceptable it is refused with 22 after 1 round"
quiet_sentence (Some p) = phrase (codes "  The request is quiet: by quiet_request_gives_the_first_acceptable_candidate it ends in " ∷ legible p ∷ codes " after 1 round" ∷ [])
