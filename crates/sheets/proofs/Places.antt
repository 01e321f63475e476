-- Where the texts of a line stand in its sheet. Assumes nothing.
use Rattle.std.proofs.Common.{◌≡◌, ℕ, ◌+◌, Bool, true, false, cond, eqb, ◌++◌, length, take, drop, Some, None, Option, Ok, sym, refl, ap, ◌∙◌, append_assoc, eq-eqb, arith}
use Rattle.std.specs.Option.{ok_or}
use Rattle.std.proofs.lemmas.Bool.{cond-true, eqb-true}
use Rattle.std.proofs.lemmas.List.{drop-drop, drop_at, length-drop, length-take-le, take-append-drop, take_at}
use Rattle.texts.specs.Texts.{Text}
use Rattle.lines.specs.declared.Head.{Head}
use Rattle.lines.specs.declared.Refusal.TheVariants.{BadLine}
use Rattle.lines.specs.Sheets.{Content, content_behind, content_of, head_of}
use Rattle.sheets.specs.declared.task.Task.TheVariants.{Resolve}
use Rattle.sheets.specs.Tasks.{asked_by, task_in, letting_go, resolve}

-- a line is as long as its head and its texts
pub content_long : (line : Text) (c : Content) → content_of line ≡ Some c → length line ≡ 12 + (length c.first + length c.second)
unfolding content_of
content_long line c = behind (head_of line)
  where
    behind : (h : Option Head) → content_behind line h ≡ Some c → length line ≡ 12 + (length c.first + length c.second)
    behind None e = cc
    behind (Some h) e = at (eqb (length line) (12 + h.first + h.second)) refl e
      where
        texts : Content
        texts = record { kind = h.kind; first = take h.first (drop 12 line); second = take h.second (drop (12 + h.first) line) }

        at : (v : Bool) → eqb (length line) (12 + h.first + h.second) ≡ v → cond v (Some texts) None ≡ Some c → length line ≡ 12 + (length c.first + length c.second)
        at true long is =
            let same : texts ≡ c = cc in
            let n : length line ≡ 12 + h.first + h.second = eqb-true _ _ long in
            let first : length c.first ≡ h.first = ap (λ (x : Content). length x.first) (sym same) ∙ length-take-le h.first (drop 12 line) (omega (arith, n, length-drop 12 line)) in
            let second : length c.second ≡ h.second = ap (λ (x : Content). length x.second) (sym same) ∙ length-take-le h.second (drop (12 + h.first) line) (omega (arith, n, length-drop (12 + h.first) line)) in
            omega (arith, n, first, second)
        at false long is = cc

-- a line that was read
pub content_read : (o : Option Content) (c : Content) → Ok c ≡ ok_or o BadLine → o ≡ Some c
content_read None c h = cc
content_read (Some d) c h = cc

module _ (sheet line first second : Text) (start : ℕ) (whole : line ≡ take 12 line ++ (first ++ second)) (long : length line ≡ 12 + (length first + length second)) (here : line ≡ take (length line) (drop start sheet)) where
  abbrev rest : Text
  rest = drop (length line) (drop start sheet)

  behind_head : drop (start + 12) sheet ≡ first ++ (second ++ rest)
  behind_head =
      let head : length (take 12 line) ≡ 12 = length-take-le 12 line (omega (arith, long)) in
      let apart : drop start sheet ≡ take 12 line ++ (first ++ (second ++ rest)) =
      sym (take-append-drop (length line) (drop start sheet))
      ∙ ap (λ (x : Text). x ++ rest) (sym here ∙ whole)
      ∙ append_assoc (take 12 line) (first ++ second) rest
      ∙ ap (λ (x : Text). take 12 line ++ x) (append_assoc first second rest) in
      sym (drop-drop 12 start sheet) ∙ ap (drop 12) apart ∙ drop_at (take 12 line) (first ++ (second ++ rest)) 12 head

  pub first_there : take (length first) (drop (start + 12) sheet) ≡ first
  first_there = ap (take (length first)) behind_head ∙ take_at first (second ++ rest) (length first) refl

  pub second_there : take (length second) (drop (start + 12 + length first) sheet) ≡ second
  second_there =
      ap (take (length second)) (sym (drop-drop (length first) (start + 12) sheet) ∙ ap (drop (length first)) behind_head ∙ drop_at first (second ++ rest) (length first) refl)
      ∙ take_at second rest (length second) refl

-- a line that resolves a request, by the places of its texts
pub resolve_there : (sheet line : Text) (c : Content) (start : ℕ) → content_of line ≡ Some c → c.kind ≡ 40 → line ≡ take 12 line ++ (c.first ++ c.second) → line ≡ take (length line) (drop start sheet)
    → Some (task_in sheet (Resolve (record { start = start + 12; len = length c.first }) (record { start = start + 12 + length c.first; len = length c.second }))) ≡ asked_by (content_of line)
resolve_there sheet line c start is kind whole here =
    let long = content_long line c is in
    let texts : Some (task_in sheet (Resolve (record { start = start + 12; len = length c.first }) (record { start = start + 12 + length c.first; len = length c.second }))) ≡ Some (resolve c.first c.second) =
    (λ i. Some (resolve (first_there sheet line c.first c.second start whole long here i) (second_there sheet line c.first c.second start whole long here i))) in
    texts ∙ sym (ap asked_by is ∙ cond-true (eqb c.kind 40) (Some (resolve c.first c.second)) (cond (eqb c.kind 41) (Some (letting_go c.first c.second)) None) (eq-eqb c.kind 40 kind))
