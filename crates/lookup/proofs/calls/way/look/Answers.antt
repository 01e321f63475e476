use Rattle.std.proofs.Common.{◌≡◌, Bool, refl, ℕ, ◌+◌, ◌*◌, ◌≤◌, true, false, ⊎_elim, mul-le-mul_left, length, sym, ap, subst, ◌∙◌, arith}
use Rattle.texts.specs.Held.{bytes_of}
use Rattle.texts.specs.Parts.{parts, text_at}
use Rattle.texts.specs.Texts.{Text}
use Rattle.tree.specs.Meanings.{kind_of}
use Rattle.alias.specs.Answers.{AskedIf}
use Rattle.settings.specs.Meant.{tables}
use Rattle.candidates.specs.Candidates.{candidates, asks_for_directory, is_directory}
use Rattle.candidates.specs.Left.{left}
use Rattle.lookup.specs.Areas.{OnlyIn}
use Rattle.lookup.specs.Calls.{resumed, trying}
use Rattle.lookup.specs.Faults.{not_found}
use Rattle.lookup.specs.Lookups.{ends_in, failed, missed}
use Rattle.lookup.specs.Moves.{candidates_most, test_moves}
use Rattle.lookup.specs.Opened.{context_of, first_unit}
use Rattle.lookup.proofs.Areas.{text_in_front_stays}
use Rattle.lookup.proofs.Bounds.{candidates_few}
use Rattle.lookup.proofs.CallSteps.{found_in_context, looks_at_candidates, lost_in_context}
use Rattle.lookup.proofs.Contexts.{context_stays}
use Rattle.lookup.proofs.calls.way.look.Goals as goal

pub returns-in-Directory-clause-looks_for_the_path : goal.returns-in-Directory-clause-looks_for_the_path
returns-in-Directory-clause-looks_for_the_path g c =
    let m = g.H.FileTree.meaning c.args.host.now in
    let t = tables c.args.settings.now in
    let w = c.args.work.now in
    let u = c.put-path.new.work in
    let only : OnlyIn (first_unit c.args.asked.round + 3) w u = subst (λ (n : ℕ). OnlyIn (n + 3) w u) c.requires.its_unit c.put-path.ensures.only_its_unit_is_written in
    let same : context_of u c.args.context ≡ context_of w c.args.context = context_stays c.args.asked.round 3 w u c.args.context (omega arith) (omega arith) only c.requires.labelled.query c.requires.labelled.fragment in
    let path : text_at u c.put-path.result ≡ bytes_of c.args.path.now = c.put-path.ensures.text_in_its_place ∙ c.as_bytes.ensures.bytes_of_the_text in
    let there : is_directory (m.kind (parts (bytes_of c.args.path.now))) ≡ true =
    ap (λ (p : Text). is_directory (m.kind (parts p))) (sym (c.of.ensures.part_of_the_text ∙ path)) ∙ ap is_directory (sym c.in-Directory.ensures.answer_by_the_meaning) in
    λ allowed limit.
    found_in_context m allowed t limit (text_at w c.args.asked.text) (bytes_of c.args.path.now) (context_of w c.args.context) (sym c.if-resolve_to_context.ensures.flag_as_set) there
    ∙ (λ k. ends_in (sym path k) (sym same k))

pub returns-in-Nothing : goal.returns-in-Nothing
returns-in-Nothing g c =
    let m = g.H.FileTree.meaning c.args.host.now in
    let t = tables c.args.settings.now in
    let w = c.args.work.now in
    let u = c.put-path.new.work in
    let only : OnlyIn (first_unit c.args.asked.round + 3) w u = subst (λ (n : ℕ). OnlyIn (n + 3) w u) c.requires.its_unit c.put-path.ensures.only_its_unit_is_written in
    let same : context_of u c.args.context ≡ context_of w c.args.context = context_stays c.args.asked.round 3 w u c.args.context (omega arith) (omega arith) only c.requires.labelled.query c.requires.labelled.fragment in
    let path : text_at u c.put-path.result ≡ bytes_of c.args.path.now = c.put-path.ensures.text_in_its_place ∙ c.as_bytes.ensures.bytes_of_the_text in
    let text : text_at u c.args.asked.text ≡ text_at w c.args.asked.text = text_in_front_stays (first_unit c.args.asked.round + 3) w u c.args.asked.text only c.requires.labelled.text in
    let none : is_directory c.kind.result ≡ false = ⊎_elim (λ e. ap is_directory e) (λ e. ap is_directory e) c.in-Nothing.is in
    let there : is_directory (m.kind (parts (bytes_of c.args.path.now))) ≡ false =
    ap (λ (p : Text). is_directory (m.kind (parts p))) (sym (c.of.ensures.part_of_the_text ∙ path)) ∙ ap is_directory (sym c.kind.ensures.answer_by_the_meaning) ∙ none in
    record {
      looks_for_the_path = λ allowed limit.
          lost_in_context m allowed t limit (text_at w c.args.asked.text) (bytes_of c.args.path.now) (context_of w c.args.context) (sym c.if-resolve_to_context.ensures.flag_as_set) there
          ∙ (λ k. failed (not_found (sym text k)) (sym same k));
      fewer_moves = omega arith;
      well_kept = λ p. tt;
      ends_in_a_short_text = c.requires.labelled.short;
      only_its_unit_is_written = c.put-path.ensures.only_its_unit_is_written;
      asked_once_in_context_mode =
          subst (λ (p : Text). AskedIf g.H.FileTree.steps (tables c.args.settings.now).context (kind_of p) c.args.host.now c.kind.new.self)
          (c.of.ensures.part_of_the_text ∙ c.put-path.ensures.text_in_its_place ∙ c.as_bytes.ensures.bytes_of_the_text)
          (subst (λ (b : Bool). AskedIf g.H.FileTree.steps b (kind_of c.of.result.now) c.args.host.now c.kind.new.self) c.if-resolve_to_context.ensures.flag_as_set c.kind.ensures.steps_on);
      same_meaning = c.kind.ensures.same_meaning;
      still_sound = c.kind.ensures.still_sound;
    }

pub returns-clause-looks_for_the_path : goal.returns-clause-looks_for_the_path
returns-clause-looks_for_the_path g c =
    let m = g.H.FileTree.meaning c.args.host.now in
    let t = tables c.args.settings.now in
    let w = c.args.work.now in
    let u = c.put-path.new.work in
    let fully = c.args.context.fully_specified in
    let only : OnlyIn (first_unit c.args.asked.round + 3) w u = subst (λ (n : ℕ). OnlyIn (n + 3) w u) c.requires.its_unit c.put-path.ensures.only_its_unit_is_written in
    let same : context_of u c.args.context ≡ context_of w c.args.context = context_stays c.args.asked.round 3 w u c.args.context (omega arith) (omega arith) only c.requires.labelled.query c.requires.labelled.fragment in
    let path : text_at u c.put-path.result ≡ bytes_of c.args.path.now = c.put-path.ensures.text_in_its_place ∙ c.as_bytes.ensures.bytes_of_the_text in
    let text : text_at u c.args.asked.text ≡ text_at w c.args.asked.text = text_in_front_stays (first_unit c.args.asked.round + 3) w u c.args.asked.text only c.requires.labelled.text in
    let inside : c.asks_for_directory.result ≡ asks_for_directory (text_at w c.args.asked.text) = c.asks_for_directory.ensures.slash_at_the_end_or_a_dot ∙ ap asks_for_directory (c.of-2.ensures.part_of_the_text ∙ text) in
    let all : left t fully (text_at u c.put-path.result) m c.new-walk.result ≡ candidates t fully m (asks_for_directory (text_at w c.args.asked.text)) (bytes_of c.args.path.now) =
    c.new-walk.ensures.every_candidate_is_left t fully (text_at u c.put-path.result) m ∙ (λ k. candidates t fully m (inside k) (path k)) in
    λ allowed limit.
    looks_at_candidates m allowed t limit (text_at w c.args.asked.text) (bytes_of c.args.path.now) (context_of w c.args.context) (sym c.if-resolve_to_context.ensures.flag_as_set)
    ∙ (λ k. resumed m allowed t limit (trying (sym text k) (sym all k)) (missed (sym same k)))

pub returns-clause-fewer_moves : goal.returns-clause-fewer_moves
returns-clause-fewer_moves g c =
    let m = g.H.FileTree.meaning c.args.host.now in
    let t = tables c.args.settings.now in
    let u = c.put-path.new.work in
    let fully = c.args.context.fully_specified in
    let p = text_at u c.put-path.result in
    let all : length (left t fully p m c.new-walk.result) ≡ length (candidates t fully m c.asks_for_directory.result p) = ap length (c.new-walk.ensures.every_candidate_is_left t fully p m) in
    let few : length (candidates t fully m c.asks_for_directory.result p) ≤ candidates_most t =
    candidates_few t fully m c.asks_for_directory.result p ((g.met.H.FileTree.proper c.args.host.now c.requires.sound).few_mains (parts p)) in
    let product : test_moves t * length (left t fully p m c.new-walk.result) ≤ test_moves t * candidates_most t = mul-le-mul_left (test_moves t) (omega (arith, all, few)) in
    omega (arith, product)

pub returns-in-Directory-clause-asked_once_in_context_mode : goal.returns-in-Directory-clause-asked_once_in_context_mode
returns-in-Directory-clause-asked_once_in_context_mode g c =
    subst (λ (p : Text). AskedIf g.H.FileTree.steps (tables c.args.settings.now).context (kind_of p) c.args.host.now c.kind.new.self)
    (c.of.ensures.part_of_the_text ∙ c.put-path.ensures.text_in_its_place ∙ c.as_bytes.ensures.bytes_of_the_text)
    (subst (λ (b : Bool). AskedIf g.H.FileTree.steps b (kind_of c.of.result.now) c.args.host.now c.kind.new.self) c.if-resolve_to_context.ensures.flag_as_set c.kind.ensures.steps_on)

pub returns-clause-asked_once_in_context_mode : goal.returns-clause-asked_once_in_context_mode
returns-clause-asked_once_in_context_mode g c =
    subst (λ (b : Bool). AskedIf g.H.FileTree.steps b (kind_of (bytes_of c.args.path.now)) c.args.host.now c.args.host.now) c.if-resolve_to_context.ensures.flag_as_set refl
