use Rattle.std.proofs.Common.{◌<◌, ◌≤◌, List, ◌∷◌, length, option_map, sym, ap, ◌∙◌, arith}
use Rattle.texts.specs.Parts.{parts}
use Rattle.texts.specs.Held.{bytes_of}
use Rattle.texts.specs.Texts.{Text}
use Rattle.stack.specs.Items.{item_at}
use Rattle.tree.specs.Meanings.{mains}
use Rattle.settings.specs.Meant.{tables}
use Rattle.candidates.specs.declared.walk.Stage.{Stage}
use Rattle.candidates.specs.declared.walk.Walk.{Walk}
use Rattle.candidates.specs.Candidates.{Candidate, overlong}
use Rattle.candidates.specs.Left.{form_candidates, rank, stage_left}
use Rattle.candidates.proofs.Mains.{at_first, each_at, item_within, main_done, main_gone, main_long, main_nearer, main_next}
use Rattle.candidates.proofs.walk.step_main.Goals as goal

pub returns-in_default-clause-next_or_moved : goal.returns-in_default-clause-next_or_moved
returns-in_default-clause-next_or_moved g c =
    let s = c.args.sought.now in
    let t = tables s.settings.now in
    let m = g.H.FileTree.meaning c.args.host.now in
    main_gone t s.fully_specified s.path.now m c.args.main c.in_default.ensures.main_text_in_its_place c.args.form c.args.place
    ∙ at_first t s.fully_specified s.path.now m _ _ c.begin.ensures.first_place_of_the_stage

pub join_main-requires : goal.join_main-requires
join_main-requires g c =
    let proper = g.met.H.FileTree.proper c.args.host.now c.requires.sound in
    let path = parts c.args.sought.now.path.now in
    record { short_main_text = each_at (λ (t : Text). length t ≤ 32) (mains ((g.H.FileTree.meaning c.args.host.now).manifest path)) c.args.main c.in-Some.text.now (proper.short_mains path) c.in-Some.ensures.main_text_in_its_place }

pub returns-in_default-join_main-clause-next_or_moved : goal.returns-in_default-join_main-clause-next_or_moved
returns-in_default-join_main-clause-next_or_moved g c =
    let s = c.args.sought.now in
    let t = tables s.settings.now in
    let m = g.H.FileTree.meaning c.args.host.now in
    main_long t s.fully_specified s.path.now m c.args.main c.in-Some.text.now c.in-Some.ensures.main_text_in_its_place (ap (option_map bytes_of) (sym c.in_default-join_main.is) ∙ c.join_main.ensures.joined_to_the_path) c.args.form c.args.place
    ∙ ap (λ (cs : List Candidate). overlong ∷ cs) (at_first t s.fully_specified s.path.now m _ _ c.begin-in_default-join_main.ensures.first_place_of_the_stage)

pub behind_main-requires : goal.behind_main-requires
behind_main-requires g c =
    let proper = g.met.H.FileTree.proper c.args.host.now c.requires.sound in
    let path = parts c.args.sought.now.path.now in
    record { few_main_texts = omega (arith, proper.few_mains path, item_within (mains ((g.H.FileTree.meaning c.args.host.now).manifest path)) c.args.main c.in-Some.text.now c.in-Some.ensures.main_text_in_its_place) }

pub returns-in-Some-candidate-clause-next_or_moved : goal.returns-in-Some-candidate-clause-next_or_moved
returns-in-Some-candidate-clause-next_or_moved g c =
    let s = c.args.sought.now in
    let t = tables s.settings.now in
    let m = g.H.FileTree.meaning c.args.host.now in
    main_next t s.fully_specified s.path.now m c.args.main c.in-Some.text.now c.in-Some.ensures.main_text_in_its_place
    (bytes_of c.in-Some-join_main.joined) (ap (option_map bytes_of) (sym c.in-Some-join_main.is) ∙ c.join_main.ensures.joined_to_the_path) c.args.form c.args.place _
    (c.in-Some-candidate.ensures.candidate_at_the_place s.path.now ∙ ap (λ (q : Text). item_at (form_candidates t s.fully_specified c.args.form q) c.args.place) c.as_bytes.ensures.bytes_of_the_text)

pub returns-in-None-clause-next_or_moved : goal.returns-in-None-clause-next_or_moved
returns-in-None-clause-next_or_moved g c =
    let s = c.args.sought.now in
    let t = tables s.settings.now in
    let m = g.H.FileTree.meaning c.args.host.now in
    main_done t s.fully_specified s.path.now m c.args.main c.in-Some.text.now c.in-Some.ensures.main_text_in_its_place
    (bytes_of c.in-Some-join_main.joined) (ap (option_map bytes_of) (sym c.in-Some-join_main.is) ∙ c.join_main.ensures.joined_to_the_path) c.args.form c.args.place
    (c.in-None.ensures.candidate_at_the_place s.path.now ∙ ap (λ (q : Text). item_at (form_candidates t s.fully_specified c.args.form q) c.args.place) c.as_bytes.ensures.bytes_of_the_text)
    ∙ ap (λ (h : Stage). stage_left t s.fully_specified s.path.now m h 0) (sym c.behind_main.ensures.main_files_or_the_next_main_text)
    ∙ at_first t s.fully_specified s.path.now m _ _ c.begin-in-None.ensures.first_place_of_the_stage

pub returns-in-None-clause-nearer_to_the_end : goal.returns-in-None-clause-nearer_to_the_end
returns-in-None-clause-nearer_to_the_end g c =
    let proper = g.met.H.FileTree.proper c.args.host.now c.requires.sound in
    let path = parts c.args.sought.now.path.now in
    let few : c.args.main < 255 = omega (arith, proper.few_mains path, item_within (mains ((g.H.FileTree.meaning c.args.host.now).manifest path)) c.args.main c.in-Some.text.now c.in-Some.ensures.main_text_in_its_place) in
    let r = ap (λ (w : Walk). rank w.stage) c.begin-in-None.ensures.first_place_of_the_stage ∙ ap rank c.behind_main.ensures.main_files_or_the_next_main_text in
    λ e. omega (arith, r, (main_nearer c.args.main c.args.form few).0)
