use Rattle.std.proofs.Common.{ℕ, ◌<◌, List, ◌∷◌, ◌++◌, length, sym, ap, ◌∙◌, inr, arith}
use Rattle.std.proofs.lemmas.List.{drop_more, take-append-drop}
use Rattle.texts.specs.Texts.{until}
use Rattle.texts.proofs.Scans.{until_there}
use Rattle.lines.specs.Sheets.{LINE_END, behind_line, line_of}
use Rattle.lines.proofs.split.first_line.Goals as goal

pub returns-clause-nothing_is_lost : goal.returns-clause-nothing_is_lost
returns-clause-nothing_is_lost c =
    let xs = c.args.input.now in
    let inside : until LINE_END xs < length xs = omega (arith, c.position-end.ensures.stands_before_the_first) in
    inr (
    sym (take-append-drop (until LINE_END xs) xs)
    ∙ ap (λ (ys : List ℕ). line_of xs ++ ys) (drop_more xs (until LINE_END xs) 0 inside ∙ ap (λ (b : ℕ). b ∷ behind_line xs) (until_there LINE_END xs inside))
    )
