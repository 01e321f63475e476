use Rattle.std.proofs.Common.{◌≡◌, ℕ, ◌+◌, ◌-◌, replicate, take, Ok, sym, refl, ap, subst, ◌∙◌, arith}
use Rattle.texts.specs.Parts.{parts, text_at}
use Rattle.tree.specs.Meanings.{Question, lookup_of}
use Rattle.tree.proofs.Findings.{found_there}
use Rattle.lookup.specs.Areas.{OnlyIn}
use Rattle.lookup.specs.Lookups.{answered_by, ends_in}
use Rattle.lookup.specs.Opened.{context_of, first_unit}
use Rattle.lookup.proofs.Contexts.{context_stays}
use Rattle.lookup.proofs.calls.way.look_up.Goals as goal

pub returns-in-Ok-Some-clause-answered_by_the_host : goal.returns-in-Ok-Some-clause-answered_by_the_host
returns-in-Ok-Some-clause-answered_by_the_host g c =
    let m = g.H.FileTree.meaning c.args.host.now in
    let w = c.args.work.now in
    let u = c.put.new.work in
    let out = c.lookup.new.out in
    let r = text_at w c.args.asked.text in
    let only : OnlyIn (first_unit c.args.asked.round + 3) w u = subst (λ (n : ℕ). OnlyIn (n + 3) w u) c.requires.its_unit c.put.ensures.only_its_unit_is_written in
    let same : context_of u c.args.context ≡ context_of w c.args.context = context_stays c.args.asked.round 3 w u c.args.context (omega arith) (omega arith) only c.requires.labelled.query c.requires.labelled.fragment in
    let path : text_at u c.put.result ≡ text_at out (record { start = 0; len = c.in-Ok-Some.len }) = c.put.ensures.text_in_its_place ∙ c.of-path.ensures.part_of_the_text in
    let from : c.in-Ok-Some.len - 0 ≡ c.in-Ok-Some.len = omega arith in
    let there = found_there _ (replicate 255 0) out c.in-Ok-Some.len refl (ap Ok (sym c.in-Ok-Some.field-0-is) ∙ c.in-Ok-Some.ensures.answer_by_the_meaning) c.in-Ok-Some.ensures.path_in_front in
    λ labels.
    (λ k. ends_in (path k) (same k))
    ∙ ap (λ (n : ℕ). ends_in (take n out) (context_of w c.args.context)) (sym from)
    ∙ ap (λ f. answered_by r f (context_of w c.args.context)) (sym there)
    ∙ (λ k. answered_by r (m.lookup c.args.way (c.of.ensures.part_of_the_text k) (parts (c.of-2.ensures.part_of_the_text k))) (context_of w c.args.context))

pub returns-in-Ok-Some-clause-asked_once : goal.returns-in-Ok-Some-clause-asked_once
returns-in-Ok-Some-clause-asked_once g c =
    let w = c.args.work.now in
    let same : lookup_of c.args.way c.of.result.now c.of-2.result.now ≡ lookup_of c.args.way (text_at w c.args.asked.text) (text_at w c.args.asked.directory) =
    (λ k. lookup_of c.args.way (c.of.ensures.part_of_the_text k) (c.of-2.ensures.part_of_the_text k)) in
    subst (λ (q : Question). g.H.FileTree.steps c.args.host.now q c.lookup.new.self) same c.lookup.ensures.steps_on

pub returns-in-Ok-None-clause-asked_once : goal.returns-in-Ok-None-clause-asked_once
returns-in-Ok-None-clause-asked_once g c =
    let w = c.args.work.now in
    let same : lookup_of c.args.way c.of.result.now c.of-2.result.now ≡ lookup_of c.args.way (text_at w c.args.asked.text) (text_at w c.args.asked.directory) =
    (λ k. lookup_of c.args.way (c.of.ensures.part_of_the_text k) (c.of-2.ensures.part_of_the_text k)) in
    subst (λ (q : Question). g.H.FileTree.steps c.args.host.now q c.lookup.new.self) same c.lookup.ensures.steps_on

pub returns-in-Err-clause-asked_once : goal.returns-in-Err-clause-asked_once
returns-in-Err-clause-asked_once g c =
    let w = c.args.work.now in
    let same : lookup_of c.args.way c.of.result.now c.of-2.result.now ≡ lookup_of c.args.way (text_at w c.args.asked.text) (text_at w c.args.asked.directory) =
    (λ k. lookup_of c.args.way (c.of.ensures.part_of_the_text k) (c.of-2.ensures.part_of_the_text k)) in
    subst (λ (q : Question). g.H.FileTree.steps c.args.host.now q c.lookup.new.self) same c.lookup.ensures.steps_on
