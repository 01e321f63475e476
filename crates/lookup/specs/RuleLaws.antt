-- The rules of a lookup and its definition say the same. Assumes nothing.
use Rattle.std.specs.Prelude.{◌≡◌, ℕ, ◌+◌, ◌≤◌, ◌↔◌}
use Rattle.texts.specs.Texts.{Text}
use Rattle.tree.specs.Acceptances.{Allowed}
use Rattle.tree.specs.Meanings.{Meaning}
use Rattle.settings.specs.Tables.{Tables}
use Rattle.lookup.specs.Lookups.{Context, Ended, require}
use Rattle.lookup.specs.Outcomes.{Outcome, Room, answer, fresh, lookup, outcome_of, rounds_at_most}
use Rattle.lookup.specs.Rules.{Answers, Asked, Ends, a_round}

-- a round of the definition ends as the rules have it, where rounds may lie in one another as deep as rounds are left
abbrev pub DefinitionObeysTheRules : Type 0
DefinitionObeysTheRules =
    (m : Meaning) (allowed : Allowed) (t : Tables) (limit n : ℕ) (dir r : Text) (c : Context) → limit ≤ n + c.rounds
    → Ends m allowed t limit (a_round dir r) c (require m allowed t limit n dir r c)

-- by the rules nothing ends in two ways
abbrev pub RulesGiveOneAnswer : Type 0
RulesGiveOneAnswer =
    (m : Meaning) (allowed : Allowed) (t : Tables) (limit : ℕ) (a : Asked) (c : Context) (e o : Ended) → Ends m allowed t limit a c e → Ends m allowed t limit a c o → e ≡ o

-- and so they hold of the end that the definition gives, and of no other
abbrev pub RulesHoldOfThatEndAlone : Type 0
RulesHoldOfThatEndAlone =
    (m : Meaning) (allowed : Allowed) (t : Tables) (limit n : ℕ) (dir r : Text) (c : Context) (e : Ended) → limit ≤ n + c.rounds
    → Ends m allowed t limit (a_round dir r) c e ↔ (require m allowed t limit n dir r c ≡ e)

-- an accepted lookup ends in an outcome exactly if the rules give it for the request from its directory, in the context that a lookup starts with
abbrev pub LookupsEndByTheRules : Type 0
LookupsEndByTheRules =
    (m : Meaning) (allowed : Allowed) (t : Tables) (dir r : Text) (o : Outcome)
    → (lookup m allowed t dir r ≡ o) ↔ ((e : Ended) × (Ends m allowed t rounds_at_most (a_round dir r) (fresh t) e × (outcome_of e ≡ o)))

-- a call answers an outcome exactly if the rules give it
abbrev pub CallsAnswerByTheRules : Type 0
CallsAnswerByTheRules =
    (m : Meaning) (allowed : Allowed) (t : Tables) (room : Room) (dir r : Text) (o : Outcome) → (answer m allowed t room dir r ≡ o) ↔ Answers m allowed t room dir r o
