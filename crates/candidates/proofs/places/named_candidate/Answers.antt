use Rattle.std.proofs.Common.{◌+◌, ◌-◌, ◌<◌, ◌++◌, [], ◌∷◌, length, map, drop, sym, ap, ◌∙◌, arith}
use Rattle.std.proofs.lemmas.List.{drop_more, length-map}
use Rattle.stack.proofs.Slots.{mapped_from}
use Rattle.stack.specs.Items.{item_at}
use Rattle.texts.specs.Held.{bytes_of}
use Rattle.texts.specs.Texts.{Text}
use Rattle.candidates.specs.Candidates.{extended}
use Rattle.candidates.proofs.Placing.{indexed_here, indexed_later}
use Rattle.candidates.proofs.places.named_candidate.Goals as goal

pub returns-then-left-extensions-clause-main_file_at_the_place : goal.returns-then-left-extensions-clause-main_file_at_the_place
returns-then-left-extensions-clause-main_file_at_the_place c =
    let p = c.args.path.now in
    let es = map (bytes_of {N = 12}) c.args.extensions.now in
    let here = mapped_from (bytes_of {N = 16}) c.args.names.now c.loop-i.i c.index-names-i.result c.loop-i-test.true c.index-names-i.is in
    let few : c.loop-i.left < length es = omega (arith, length-map c.args.extensions.now (bytes_of {N = 12})) in
    λ of.
    c.extended_candidate.ensures.extension_at_the_place of
    ∙ ap (λ (n : Text). item_at (extended n es) c.loop-i.left) (c.below-stem.ensures.path_slash_and_name ∙ ap (λ (n : Text). p ++ (47 ∷ n)) c.as_bytes.ensures.bytes_of_the_text)
    ∙ sym (indexed_here p es (drop c.loop-i.i (map (bytes_of {N = 16}) c.args.names.now)) _ (bytes_of c.index-names-i.result) here c.loop-i.left few)
    ∙ c.loop-i.invariant.counts_from_here

pub loop-i-preserved : goal.loop-i-preserved
loop-i-preserved c =
    let p = c.args.path.now in
    let es = map (bytes_of {N = 12}) c.args.extensions.now in
    let ns = map (bytes_of {N = 16}) c.args.names.now in
    let step = drop_more ns c.loop-i.i [] (omega (arith, length-map c.args.names.now (bytes_of {N = 16}))) in
    record {
      counts_from_here =
          sym (indexed_later p es (drop c.loop-i.i ns) (drop (c.loop-i.i + 1) ns) _ step c.loop-i.left (c.loop-i.left - length c.args.extensions.now) (omega (arith, length-map c.args.extensions.now (bytes_of {N = 12}))))
          ∙ c.loop-i.invariant.counts_from_here;
      not_beyond = omega arith;
      nothing_written = c.loop-i.invariant.nothing_written;
    }
