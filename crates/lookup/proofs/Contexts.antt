-- What a context says stays where texts go to other units. Assumes nothing.
use Rattle.std.proofs.Common.{◌≡◌, ℕ, ◌+◌, ◌<◌, List}
use Rattle.lookup.specs.declared.calls.ResolveContext.{ResolveContext}
use Rattle.lookup.specs.Areas.{OnlyIn}
use Rattle.lookup.specs.Opened.{MarksIn, context_of, first_unit}
use Rattle.lookup.proofs.Areas.{marks_stay}

pub context_stays : (n k : ℕ) (w u : List ℕ) (c : ResolveContext) → 0 < k → k < 6 → OnlyIn (first_unit n + k) w u → MarksIn c.rounds c.query → MarksIn c.rounds c.fragment → context_of u c ≡ context_of w c
context_stays n k w u c low high o q f =
    let query = marks_stay c.rounds n k w u c.query low high o q in
    let fragment = marks_stay c.rounds n k w u c.fragment low high o f in
    λ i. record { rounds = c.rounds; fully = c.fully_specified; query = query i; fragment = fragment i }
