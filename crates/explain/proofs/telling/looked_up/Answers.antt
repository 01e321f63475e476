use Rattle.std.proofs.Common.{◌≡◌, ℕ, true, List, ◌++◌, map, Some, None, Option, sym, ap, subst, ◌∙◌}
use Rattle.std.proofs.lemmas.List.{append-nil}
use Rattle.std.specs.Io.KnownBytes.{Appends}
use Rattle.texts.specs.Texts.{Text}
use Rattle.tree.specs.Meanings.{Meaning}
use Rattle.settings.specs.Meant.{tables}
use Rattle.settings.specs.Rows.{alias_of}
use Rattle.settings.specs.Tables.{Alias}
use Rattle.alias.specs.Attempts.{attempts}
use Rattle.candidates.specs.Candidates.{asks_for_directory, candidates}
use Rattle.specifier.specs.Sought.{sought_path}
use Rattle.explain.specs.Labels.{labels_lines}
use Rattle.explain.specs.Offers.{candidate_lines, judged, shown}
use Rattle.explain.specs.Readings.{within}
use Rattle.explain.specs.Telling.{attempts_lines, offered_lines}
use Rattle.explain.specs.Trials.{deciding, tried}
use Rattle.explain.proofs.TellingSteps.{labels_is}
use Rattle.explain.proofs.Writing.{took_both}
use Rattle.explain.proofs.telling.looked_up.Goals as goal

pub returns-in_default-clause-lines_on_labels_and_candidates : goal.returns-in_default-clause-lines_on_labels_and_candidates
returns-in_default-clause-lines_on_labels_and_candidates g c =
    let m = g.H.FileTree.meaning c.args.host.now in
    let allowed = g.P.Policy.allowed c.args.policy.now in
    let t = tables c.args.settings.now in
    let dir = c.args.question.directory.now in
    let r = c.args.question.request.now in
    let rows = map alias_of c.aliases-aliases.result.now in
    let ts = c.as_slice.result.now in
    let tries : map (tried rows r) ts ≡ attempts m dir r rows = ap (map (tried rows r)) c.as_slice.ensures.value ∙ c.in_ok-trials.ensures.every_attempt_in_its_order in
    let decides : c.deciding.result ≡ deciding m dir r rows = c.deciding.ensures.first_label_that_tries ∙ ap (λ (n : Meaning). deciding n dir r rows) c.in_ok-trials.ensures.same_meaning in
    let labels : labels_lines rows r c.deciding.result ts ≡ attempts_lines t.aliases r (deciding m dir r t.aliases) (attempts m dir r t.aliases) =
    labels_is rows r c.deciding.result ts (attempts m dir r rows) tries
    ∙ ap (λ (d : Option ℕ). attempts_lines rows r d (attempts m dir r rows)) decides
    ∙ ap (λ (ls : List Alias). attempts_lines ls r (deciding m dir r ls) (attempts m dir r ls)) c.aliases-aliases.ensures.labels_in_the_order_written in
    let none : None ≡ within (sought_path dir r) = c.in_default.ensures.sought_path_if_short in
    subst (Appends (g.W.Write.contents c.args.out.now) (g.W.Write.contents c.write.new.self))
    (labels ∙ sym (append-nil _) ∙ ap (λ (p : Option Text). attempts_lines t.aliases r (deciding m dir r t.aliases) (attempts m dir r t.aliases) ++ offered_lines m allowed t dir r p) none)
    c.in_ok-write.ensures.bytes

pub returns-clause-lines_on_labels_and_candidates : goal.returns-clause-lines_on_labels_and_candidates
returns-clause-lines_on_labels_and_candidates g c =
    let m = g.H.FileTree.meaning c.args.host.now in
    let allowed = g.P.Policy.allowed c.args.policy.now in
    let t = tables c.args.settings.now in
    let dir = c.args.question.directory.now in
    let r = c.args.question.request.now in
    let rows = map alias_of c.aliases-aliases.result.now in
    let ts = c.as_slice.result.now in
    let os = c.as_slice-2.result.now in
    let p = c.as_bytes-path.result.now in
    let tries : map (tried rows r) ts ≡ attempts m dir r rows = ap (map (tried rows r)) c.as_slice.ensures.value ∙ c.in_ok-trials.ensures.every_attempt_in_its_order in
    let decides : c.deciding.result ≡ deciding m dir r rows = c.deciding.ensures.first_label_that_tries ∙ ap (λ (n : Meaning). deciding n dir r rows) c.in_ok-trials.ensures.same_meaning in
    let labels : labels_lines rows r c.deciding.result ts ≡ attempts_lines t.aliases r (deciding m dir r t.aliases) (attempts m dir r t.aliases) =
    labels_is rows r c.deciding.result ts (attempts m dir r rows) tries
    ∙ ap (λ (d : Option ℕ). attempts_lines rows r d (attempts m dir r rows)) decides
    ∙ ap (λ (ls : List Alias). attempts_lines ls r (deciding m dir r ls) (attempts m dir r ls)) c.aliases-aliases.ensures.labels_in_the_order_written in
    let same = c.deciding.ensures.same_meaning ∙ c.in_ok-trials.ensures.same_meaning in
    let judges : map (shown p) os ≡ map (judged m allowed t.restrictions) (candidates t t.fully_specified m (asks_for_directory r) p) =
    ap (map (shown p)) c.as_slice-2.ensures.value
    ∙ c.in_ok-offers.ensures.every_candidate_with_its_verdict
    ∙ (λ k. map (judged (same k) allowed t.restrictions) (candidates t t.fully_specified (same k) (c.asks_for_directory-inside.ensures.slash_at_the_end_or_a_dot k) p)) in
    let some : Some p ≡ within (sought_path dir r) = ap Some c.as_bytes-path.ensures.bytes_of_the_text ∙ c.in-Some.ensures.sought_path_if_short in
    subst (Appends (g.W.Write.contents c.args.out.now) (g.W.Write.contents c.write-2.new.self))
    ((λ k. labels k ++ candidate_lines true (judges k))
    ∙ ap (λ (q : Option Text). attempts_lines t.aliases r (deciding m dir r t.aliases) (attempts m dir r t.aliases) ++ offered_lines m allowed t dir r q) some)
    (took_both _ _ _ _ _ c.in_ok-write.ensures.bytes c.in_ok-write-2.ensures.bytes)
