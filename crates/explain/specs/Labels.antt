-- The lines on the labels that touch a request, and on what they try. Assumes nothing.
use Rattle.std.specs.Prelude.{ℕ, Bool, true, false, cond, List, [], ◌∷◌, ◌++◌, take, drop, Some, None, Option, Ok, Err, Result, codes}
use Rattle.std.specs.List.{flat_map, list_any}
use Rattle.texts.specs.Held.{bytes_of}
use Rattle.texts.specs.Texts.{Text}
use Rattle.lines.specs.Sheets.{LINE_END}
use Rattle.settings.specs.Tables.{Alias}
use Rattle.alias.specs.Forms.{touches}
use Rattle.alias.specs.Left.{label_of}
use Rattle.alias.specs.declared.rewrite.TooLong.{TooLong}
use Rattle.explain.specs.declared.trial.Outcome.{Outcome}
use Rattle.explain.specs.declared.trial.Outcome.TheVariants.{Again, Ignored, Unmatched}
use Rattle.explain.specs.declared.trial.Trial.{Trial}
use Rattle.explain.specs.Legible.{legible, phrase}

-- what comes of a label, as the first thing or behind others
abbrev pub outcome_words : Bool → Result Outcome TooLong → Text
outcome_words first (Ok (Again t)) = cond first (codes ": tried is ") (codes ", then ") ++ legible (bytes_of t)
outcome_words first (Ok (Ignored t)) = cond first (codes ": ignored with 24 is ") (codes ", then ignored with 24 is ") ++ legible (bytes_of t)
outcome_words first (Ok Unmatched) = codes ", and where none is found it is refused with 23"
outcome_words first (Err e) = cond first (codes ": ") (codes ", then ") ++ codes "refused with 28, since a text passes 255 bytes"

-- all that comes of a label
abbrev pub outcomes_words : List Trial → Text
outcomes_words [] = []
outcomes_words (t ∷ more) = outcome_words true t.outcome ++ flat_map (λ u. outcome_words false u.outcome) more

-- a label that touches the request
abbrev pub touching_words : Text → Text → Text
touching_words request label = phrase (codes "  Label " ∷ legible label ∷ codes " touches " ∷ legible request ∷ [])

-- the line on a label of which nothing is tried, if it touches the request
abbrev pub passed_over : Text → Alias → Text
passed_over request a = cond (touches a.label request) (phrase (touching_words request a.label ∷ codes ": all its values are passed over" ∷ (LINE_END ∷ []) ∷ [])) []

-- the line that says that no label touches
abbrev pub untouched_line : Text → List Alias → Text
untouched_line request aliases =
    cond (list_any (λ a. touches a.label request) aliases) [] (phrase (codes "  No label touches " ∷ legible request ∷ (LINE_END ∷ []) ∷ []))

-- the lines on all labels where nothing is tried: those that touch, or that none does
abbrev pub undecided_lines : List Alias → Text → Text
undecided_lines aliases request = flat_map (passed_over request) aliases ++ untouched_line request aliases

-- the labels passed over before, and the line on a label with what is tried
abbrev pub decided_lines : List Alias → Text → Text → List Trial → Text
decided_lines before label request trials =
    phrase (flat_map (passed_over request) before ∷ touching_words request label ∷ outcomes_words trials ∷ (LINE_END ∷ []) ∷ [])

-- the lines on the labels that touch a request, with the place of the one of which something is tried
abbrev pub labels_lines : List Alias → Text → Option ℕ → List Trial → Text
labels_lines aliases request None trials = undecided_lines aliases request
labels_lines aliases request (Some place) trials = decided_lines (take place aliases) (label_of (drop place aliases)) request trials
