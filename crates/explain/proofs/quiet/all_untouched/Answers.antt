use Rattle.std.proofs.Common.{◌≡◌, Bool, List, [], ◌∷◌, ◌&&◌, Result, map, refl, ap, ◌∙◌, rules}
use Rattle.std.specs.List.{list_all}
use Rattle.std.proofs.lemmas.Iterator.{YieldsList-from_slice}
use Rattle.std.proofs.lemmas.Iterator.Search.{all_from_yields_List}
use Rattle.settings.specs.Rows.{alias_of}
use Rattle.candidates.specs.declared.forming.Fault.{Fault}
use Rattle.explain.specs.declared.offer.Offer.{Offer}
use Rattle.explain.specs.Offers.{shown}
use Rattle.explain.specs.Quiet.{is_untouched}
use Rattle.explain.proofs.quiet.all_untouched.Goals as goal

all_mapped : {X Y : Type 0} (f : X → Y) (p : Y → Bool) (xs : List X) → list_all (λ x. p (f x)) xs ≡ list_all p (map f xs)
all_mapped f p [] = refl
all_mapped f p (x ∷ xs) = ap (λ (b : Bool). p (f x) && b) (all_mapped f p xs)

pub returns : goal.returns
returns c =
    let labels = map alias_of c.args.aliases.now in
    let offers = c.args.offers.now in
    record {
      each_is_untouched = λ path.
          all_from_yields_List (λ (o : Result Offer Fault). is_untouched labels (shown path o)) _ _ _ c.all.ensures.ran (YieldsList-from_slice offers cc) (λ x b q k. search rules)
          ∙ all_mapped (shown path) (is_untouched labels) offers;
    }
