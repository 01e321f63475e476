-- What is left of the attempts when some were made, and what an attempt says. Assumes nothing.
use Rattle.std.specs.Prelude.{◌≡◌, ℕ, ◌+◌, ◌-◌, Bool, true, false, cond, List, [], ◌∷◌, take, drop, Some, None, Option, Ok, Err, Result, ◌==◌, nat_lt}
use Rattle.texts.specs.Texts.{Text}
use Rattle.tree.specs.Meanings.{Meaning}
use Rattle.settings.specs.Tables.{Alias, Value, ignore, to}
use Rattle.alias.specs.declared.attempts.Attempt.{Attempt}
use Rattle.alias.specs.declared.attempts.Attempt.TheVariants as answer
use Rattle.alias.specs.Answers.{request_text}
use Rattle.alias.specs.declared.attempts.Progress.{Progress}
use Rattle.alias.specs.declared.rewrite.NewRequest.TheVariants as new
use Rattle.alias.specs.declared.rewrite.TooLong.{TooLong}
use Rattle.alias.specs.Attempts.{Attempt as Tried, again, attempts, ignored, overlong, unmatched, value_attempts}
use Rattle.alias.specs.Forms.{key, touches}

-- nothing is tried behind it
abbrev pub ends_search : Result Attempt TooLong → Bool
ends_search (Ok (answer.Again new)) = false
ends_search (Ok (answer.Ignored t)) = true
ends_search (Ok answer.Unmatched) = true
ends_search (Err e) = true

-- the text of a value
abbrev pub value_text : Value → Text
value_text ignore = []
value_text (to v) = v

-- what an attempt says of a value, a label and a request; its text stands at the front of the work text
abbrev pub said_by : Text → Text → Text → List ℕ → Result Attempt TooLong → Tried
said_by v l r work (Ok (answer.Again new)) = again (request_text new v work)
said_by v l r work (Ok (answer.Ignored n)) = ignored (take n work)
said_by v l r work (Ok answer.Unmatched) = unmatched r (key l)
said_by v l r work (Err e) = overlong

-- how long the text is that an attempt has written
abbrev pub written_length : Option (Result Attempt TooLong) → ℕ
written_length None = 0
written_length (Some (Ok (answer.Again new.Value))) = 0
written_length (Some (Ok (answer.Again (new.Made n)))) = n
written_length (Some (Ok (answer.Ignored n))) = n
written_length (Some (Ok answer.Unmatched)) = 0
written_length (Some (Err e)) = 0

-- the first of the labels, its values, and the first of these
abbrev pub label_of : List Alias → Text
label_of [] = []
label_of (a ∷ more) = a.label

abbrev pub values_of : List Alias → List Value
values_of [] = []
values_of (a ∷ more) = a.values

abbrev pub first_value : List Value → Text
first_value [] = []
first_value (v ∷ vs) = value_text v

-- the label that was come to, and the value that was tried last
abbrev pub label_tried : List Alias → Progress → Text
label_tried aliases p = label_of (drop p.label aliases)

abbrev pub value_tried : List Alias → Progress → Text
value_tried aliases p = first_value (drop (p.value - 1) (values_of (drop p.label aliases)))

-- what an attempt says, where it was made
abbrev pub said : List Alias → Progress → Text → List ℕ → Result Attempt TooLong → Tried
said aliases p = said_by (value_tried aliases p) (label_tried aliases p)

module _ (m : Meaning) (dir r : Text) where
  -- the first of a label's values that is not passed over, at its place; or none is left
  abbrev pub ValueFound : Alias → List Value → Bool → List Tried → List ℕ → Option (ℕ × Result Attempt TooLong) → Type 0
  ValueFound a vs tried later work None = value_attempts m dir r a.label vs tried later ≡ value_attempts m dir r a.label [] tried later
  ValueFound a vs tried later work (Some (i, x)) =
      value_attempts m dir r a.label vs tried later
      ≡ said_by (first_value (drop i a.values)) a.label r work x ∷ cond (ends_search x) [] (value_attempts m dir r a.label (drop (i + 1) a.values) true later)

  -- the attempts of a label that touches, from one of its values on, with those of the later labels; behind the first value, one was tried
  abbrev pub values_left : Alias → Progress → List Tried → List Tried
  values_left a p later = value_attempts m dir r a.label (drop p.value a.values) (nat_lt 0 p.value) later

  -- the attempts of a label, with those of the later labels
  abbrev pub row_left : Alias → Progress → List Tried → List Tried
  row_left a p later = cond (touches a.label r) (values_left a p later) later

  abbrev pub left_of : List Alias → Progress → List Tried
  left_of [] p = []
  left_of (a ∷ more) p = row_left a p (attempts m dir r more)

  -- the attempts that are left
  abbrev pub left : List Alias → Progress → List Tried
  left aliases p = cond p.done [] (left_of (drop p.label aliases) p)

-- one attempt is taken from the front of a list; none only if the list is empty
abbrev pub Taken : List Tried → Option Tried → List Tried → Type 0
Taken before None after = (before ≡ []) × (after ≡ [])
Taken before (Some t) after = before ≡ t ∷ after

-- an attempt of a label, with what is left then; none only if the later labels follow
abbrev pub RowTaken : List Tried → Option Tried → List Tried → Bool → List Tried → Type 0
RowTaken before None after done later = (before ≡ later) × (done ≡ false)
RowTaken before (Some t) after done later = before ≡ t ∷ cond done [] after

-- what an attempt says at its label
abbrev pub row_said : Alias → Progress → Text → List ℕ → Result Attempt TooLong → Tried
row_said a p = said_by (first_value (drop (p.value - 1) a.values)) a.label

-- where the labels have been come to: the same one, or the first value of another
abbrev pub gone_to : ℕ → Progress → Progress
gone_to n p = cond (n == p.label) p (record { label = n; value = 0; done = p.done })
