use Rattle.std.proofs.Common.{◌≡◌, None, Err, length, sym, refl, ap, ◌∙◌, arith}
use Rattle.std.proofs.lemmas.Bool.{ltb-true}
use Rattle.std.proofs.lemmas.Result.{err_from_is_err_and}
use Rattle.specifier.specs.declared.request.SpecifierError.{SpecifierError}
use Rattle.specifier.specs.declared.request.SpecifierError.TheVariants.{Empty}
use Rattle.specifier.specs.Requests.{place_between, query_at}
use Rattle.specifier.proofs.Readings.{reading, refused, refused_empty, accepted}
use Rattle.specifier.proofs.request.Specifier.parse.Goals as goal

pub returns-in-empty : goal.returns-in-empty
returns-in-empty c = reading c.args.request.now _ (refused_empty _ (omega (arith, ltb-true)))

-- there is one fault
only_empty : (e : SpecifierError) → e ≡ Empty
only_empty Empty = refl

pub returns-in_err-path : goal.returns-in_err-path
returns-in_err-path c =
    let s = c.args.request.now in
    let q = c.query_start-query_at.ensures.start_of_the_query in
    let none : None ≡ place_between 0 (query_at s) = sym c.in_err-path.ensures.ok_part ∙ c.between.ensures.place_if_not_empty ∙ ap (place_between 0) q in
    let told = err_from_is_err_and c.from_residual.result c.from_residual.ensures.1 in
    reading s _ (told.1 ∙ ap Err (only_empty told.0) ∙ refused s none)

pub returns : goal.returns
returns c =
    let q = c.query_start-query_at.ensures.start_of_the_query in
    let f = c.fragment_start-fragment_at.ensures.start_of_the_fragment in
    reading c.args.request.now _
    (accepted _ _ _ _ (sym c.in_ok-path.ensures.ok_part ∙ c.between.ensures.place_if_not_empty ∙ ap (place_between 0) q)
    (c.between-query.ensures.place_if_not_empty ∙ (λ i. place_between (q i) (f i)))
    (c.between-fragment.ensures.place_if_not_empty ∙ (λ i. place_between (f i) (length c.args.request.now))))
