-- What a trial says. Assumes nothing.
use Rattle.std.specs.Prelude.{ℕ, ◌+◌, Bool, true, false, cond, List, [], ◌∷◌, drop, Some, None, Option, Ok, Err, Result}
use Rattle.std.specs.Option.{option_map}
use Rattle.texts.specs.Held.{bytes_of}
use Rattle.texts.specs.Texts.{Text}
use Rattle.settings.specs.Tables.{Alias}
use Rattle.tree.specs.Meanings.{Meaning}
use Rattle.alias.specs.Attempts.{Attempt, attempts, again, ignored, overlong, unmatched}
use Rattle.alias.specs.Forms.{key}
use Rattle.alias.specs.Left.{label_of}
use Rattle.alias.specs.declared.rewrite.TooLong.{TooLong}
use Rattle.explain.specs.declared.trial.Outcome.{Outcome}
use Rattle.explain.specs.declared.trial.Outcome.TheVariants as outcome
use Rattle.explain.specs.declared.trial.Trial.{Trial}

-- what comes of a label, for a request that it touches
abbrev pub come : Text → Text → Result Outcome TooLong → Attempt
come label request (Ok (outcome.Again t)) = again (bytes_of t)
come label request (Ok (outcome.Ignored t)) = ignored (bytes_of t)
come label request (Ok outcome.Unmatched) = unmatched request (key label)
come label request (Err e) = overlong

-- a trial, by the label at its place
abbrev pub tried : List Alias → Text → Trial → Attempt
tried aliases request t = come (label_of (drop t.label aliases)) request t.outcome

-- there is an attempt
abbrev pub any_tried : List Attempt → Bool
any_tried [] = false
any_tried (a ∷ more) = true

module _ (m : Meaning) (directory request : Text) where
  -- something is tried of the label
  abbrev pub tries : Alias → Bool
  tries a = any_tried (attempts m directory request (a ∷ []))

  -- the place of the first label of which something is tried
  abbrev pub deciding : List Alias → Option ℕ
  deciding [] = None
  deciding (a ∷ more) = cond (tries a) (Some 0) (option_map (λ n. n + 1) (deciding more))
