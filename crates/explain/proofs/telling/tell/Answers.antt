use Rattle.std.proofs.Common.{◌≡◌, [], ◌∷◌, ◌++◌, Ok, Result, refl, ap, subst, append_assoc, ◌∙◌}
use Rattle.std.proofs.lemmas.Result.{on_ok_weaker}
use Rattle.std.specs.Io.KnownBytes.{Appends}
use Rattle.lines.specs.Sheets.{LINE_END}
use Rattle.tree.specs.Meanings.{Meaning}
use Rattle.settings.specs.Meant.{tables}
use Rattle.explain.specs.declared.question.Question.{Question}
use Rattle.explain.specs.declared.refusal.Refusal.{Refusal}
use Rattle.explain.specs.Answers.{answer_of, heard}
use Rattle.explain.specs.Legible.{phrase}
use Rattle.explain.specs.Questions.{asked}
use Rattle.explain.specs.Readings.{Meaning as Read, fragment_first, said, within}
use Rattle.explain.specs.Telling.{QuietTold, TellsRead, Written, looked_up, looked_up_first}
use Rattle.explain.specs.Told.{told}
use Rattle.explain.proofs.Writing.{took_both}
use Rattle.explain.proofs.telling.tell.Goals as goal

pub returns-clause-all_that_is_told : goal.returns-clause-all_that_is_told
returns-clause-all_that_is_told g c =
    let m = g.H.FileTree.meaning c.args.host.now in
    let allowed = g.P.Policy.allowed c.args.policy.now in
    let t = tables c.args.settings.now in
    let q = asked c.args.question in
    let read = said q.request c.in-Ok.reading in
    let one = c.ask-answer.ensures.same_meaning in
    let two = c.in_ok-looked_up_first.ensures.same_meaning ∙ one in
    let three = c.in_ok-looked_up.ensures.same_meaning ∙ two in
    let answer : heard c.of-told.result.answer ≡ answer_of m q.directory read.way read.path read.sought = ap heard c.of-told.ensures.of_the_answer ∙ c.ask-answer.ensures.answer_by_the_meaning in
    let line = c.of-told.ensures.of_the_line_and_its_question.0 in
    let directory = ap (λ (x : Question). x.directory.now) c.of-told.ensures.of_the_line_and_its_question.1 in
    let request = ap (λ (x : Question). x.request.now) c.of-told.ensures.of_the_line_and_its_question.1 in
    let reading = c.of-told.ensures.of_the_reading in
    let words = told c.args.line q.directory q.request read (answer_of m q.directory read.way read.path read.sought) in
    let first = looked_up_first m allowed t q.directory (within (fragment_first read)) in
    let path = looked_up m allowed t q.directory read.path in
    let wrote_words : Appends (g.W.Write.contents c.args.out.now) (g.W.Write.contents c.writeln.new.self) (words ++ LINE_END ∷ []) =
    subst (Appends (g.W.Write.contents c.args.out.now) (g.W.Write.contents c.writeln.new.self)) (λ k. told (line k) (directory k) (request k) (reading k) (answer k) ++ LINE_END ∷ []) c.in_ok-writeln.ensures.bytes in
    let wrote_first : Appends (g.W.Write.contents c.writeln.new.self) (g.W.Write.contents c.looked_up_first.new.out) first =
    subst (Appends (g.W.Write.contents c.writeln.new.self) (g.W.Write.contents c.looked_up_first.new.out)) (λ k. looked_up_first (one k) allowed t q.directory (c.with_fragment-both.ensures.path_and_fragment_without_a_query k))
    c.in_ok-looked_up_first.ensures.lines_if_there_is_a_text in
    let wrote_path : Appends (g.W.Write.contents c.looked_up_first.new.out) (g.W.Write.contents c.looked_up.new.out) path =
    subst (Appends (g.W.Write.contents c.looked_up_first.new.out) (g.W.Write.contents c.looked_up.new.out)) (λ k. looked_up (two k) allowed t q.directory (c.as_bytes-request.ensures.bytes_of_the_text k))
    c.in_ok-looked_up.ensures.lines_on_labels_and_candidates in
    on_ok_weaker c.quiet_told.result (λ (quiet : Written (g.W.Write.contents c.looked_up.new.out) (g.W.Write.contents c.quiet_told.new.out) (QuietTold (g.H.FileTree.meaning c.looked_up.new.host) allowed t q.directory q.request)). (
      phrase (words ∷ (LINE_END ∷ []) ∷ first ∷ path ∷ quiet.0 ∷ []),
      (
        subst (Appends (g.W.Write.contents c.args.out.now) (g.W.Write.contents c.quiet_told.new.out)) (append_assoc words (LINE_END ∷ []) (first ++ (path ++ quiet.0)))
            (took_both _ _ _ _ _ wrote_words (took_both _ _ _ _ _ wrote_first (took_both _ _ _ _ _ wrote_path quiet.1.0))),
        subst (λ (x : Result Read Refusal). TellsRead m allowed t c.args.line q x (phrase (words ∷ (LINE_END ∷ []) ∷ first ∷ path ∷ quiet.0 ∷ []))) c.in-Ok.ensures.read_as_it_is_meant
            (quiet.0, (subst (λ (n : Meaning). QuietTold n allowed t q.directory q.request quiet.0) three quiet.1.1, refl)),
      ),
    )) c.quiet_told.ensures.end_of_a_quiet_question
