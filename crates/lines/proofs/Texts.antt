-- A line is its head and its texts.
use Rattle.std.proofs.Common.{◌≡◌, ℕ, ◌+◌, ◌-◌, ◌≤◌, List, ◌++◌, length, take, drop, sym, ap, ◌∙◌, arith}
use Rattle.std.proofs.lemmas.List.{take-append-drop, take_rest, drop-drop}

-- a list that is cut at k and at e is put together again
pub three_parts : (xs : List ℕ) (k e : ℕ) → k ≤ e → xs ≡ take k xs ++ (take (e - k) (drop k xs) ++ take (length xs - e) (drop e xs))
three_parts xs k e h =
    let there : k + (e - k) ≡ e = omega arith in
    let rest : drop (e - k) (drop k xs) ≡ drop e xs = drop-drop (e - k) k xs ∙ ap (λ (n : ℕ). drop n xs) there in
    sym (rw (take_rest, ← rest, take-append-drop (e - k) (drop k xs)) (take-append-drop k xs))
