use Rattle.std.proofs.Common.{◌≡◌, List, [], ◌∷◌, Bool, map, refl, ap, ◌∙◌, ◌||◌, rules}
use borrow.Author.Tests.{tests}
use Rattle.std.specs.List.{list_any}
use Rattle.std.proofs.lemmas.Iterator.{YieldsList-from_slice}
use Rattle.std.proofs.lemmas.Iterator.Search.{any_from_yields_List}
use Rattle.settings.specs.declared.row.AliasRow.{AliasRow}
use Rattle.settings.specs.Rows.{alias_of}
use Rattle.alias.specs.Forms.{touches}
use Rattle.explain.proofs.sentence.labels.any_touches.Goals as goal

any_mapped : {X Y : Type 0} (f : X → Y) (p : Y → Bool) (xs : List X) → list_any (λ x. p (f x)) xs ≡ list_any p (map f xs)
any_mapped f p [] = refl
any_mapped f p (x ∷ xs) = ap (λ (b : Bool). p (f x) || b) (any_mapped f p xs)

pub returns : goal.returns
returns c =
    let rows = c.args.aliases.now in
    let request = c.args.request.now in
    record {
      one_touches_by_its_form =
          any_from_yields_List (λ (r : AliasRow). touches (alias_of r).label request) _ _ _ c.any.ensures.ran (YieldsList-from_slice rows cc) (λ x b q k. search (rules, tests))
          ∙ any_mapped alias_of (λ a. touches a.label request) rows;
    }
