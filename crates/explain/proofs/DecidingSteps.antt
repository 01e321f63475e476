-- Which label decides, one label after the other. Assumes nothing.
use Rattle.std.proofs.Common.{◌≡◌, ℕ, ◌+◌, ◌<◌, Bool, true, false, List, [], ◌∷◌, length, map, take, drop, ◌-◌, sym, Some, None, Option, refl, ap, ◌∙◌, arith}
use Rattle.std.specs.Option.{option_map}
use Rattle.std.proofs.lemmas.Bool.{cond-true, cond-false}
use Rattle.std.proofs.lemmas.List.{drop-map, length-drop, length-map, take-map}
use Rattle.settings.specs.declared.row.AliasRow.{AliasRow}
use Rattle.settings.specs.Rows.{alias_of}
use Rattle.texts.specs.Texts.{Text}
use Rattle.tree.specs.Meanings.{Meaning}
use Rattle.settings.specs.Tables.{Alias}
use Rattle.alias.specs.Attempts.{attempts}
use Rattle.explain.specs.Trials.{any_tried, deciding}

abbrev pub moved : ℕ → Option ℕ → Option ℕ
moved i = option_map (λ (n : ℕ). n + i)

moved_on : (i : ℕ) (o : Option ℕ) → moved i (option_map (λ (n : ℕ). n + 1) o) ≡ moved (i + 1) o
moved_on i None = refl
moved_on i (Some n) = ap Some (omega arith)

-- the row at a place, alone
one_row : (rows : List AliasRow) (i : ℕ) → map alias_of (take (i + 1 - i) (drop i rows)) ≡ take 1 (drop i (map alias_of rows))
one_row rows i =
    let one : i + 1 - i ≡ 1 = omega arith in
    ap (λ (n : ℕ). map alias_of (take n (drop i rows))) one ∙ sym (take-map alias_of 1 (drop i rows)) ∙ ap (take 1) (sym (drop-map alias_of i rows))

-- what was found of that row, with a tree of the same meaning
pub row_tried : (m n : Meaning) (directory request : Text) (rows : List AliasRow) (i : ℕ) (v w : Bool) → n ≡ m
    → v ≡ any_tried (attempts n directory request (map alias_of (take (i + 1 - i) (drop i rows)))) → v ≡ w
    → any_tried (attempts m directory request (take 1 (drop i (map alias_of rows)))) ≡ w
row_tried m n directory request rows i v w same is h =
    ap (λ (labels : List Alias). any_tried (attempts m directory request labels)) (sym (one_row rows i))
    ∙ ap (λ (k : Meaning). any_tried (attempts k directory request (map alias_of (take (i + 1 - i) (drop i rows))))) (sym same)
    ∙ sym is
    ∙ h

-- there is a row at the place
pub some_left : (rows : List AliasRow) (i : ℕ) → i < length rows → 0 < length (drop i (map alias_of rows))
some_left rows i inside = omega (arith, inside, length-drop i (map alias_of rows), length-map rows alias_of)

module _ (m : Meaning) (directory request : Text) where
  -- the first label decides
  pub first_decides : (labels : List Alias) (i : ℕ) → 0 < length labels → any_tried (attempts m directory request (take 1 labels)) ≡ true → moved i (deciding m directory request labels) ≡ Some i
  first_decides [] i some h = absurd (omega (arith, some))
  first_decides (a ∷ more) i some h = ap (moved i) (cond-true _ _ _ h) ∙ ap Some (omega arith)

  -- a later one decides
  pub later_decides : (labels : List Alias) (i : ℕ) → 0 < length labels → any_tried (attempts m directory request (take 1 labels)) ≡ false → moved i (deciding m directory request labels) ≡ moved (i + 1) (deciding m directory request (drop 1 labels))
  later_decides [] i some h = absurd (omega (arith, some))
  later_decides (a ∷ more) i some h = ap (moved i) (cond-false _ _ _ h) ∙ moved_on i (deciding m directory request more)
