use Rattle.std.proofs.Common.{◌≡◌, ℕ, ◌+◌, ◌*◌, ◌≤◌, IfSome, length, replicate, sym, refl, ap, subst, ◌∙◌, arith}
use Rattle.std.proofs.Math.Path.{transport}
use Rattle.texts.specs.declared.place.Place.{Place}
use Rattle.texts.specs.Parts.{text_at}
use Rattle.texts.proofs.Buffers.{went_in}
use Rattle.specifier.specs.declared.request.Specifier.{Specifier}
use Rattle.specifier.specs.Requests.{fragment_place, path_of, query_place, specifier_of, unescaped}
use Rattle.lookup.specs.Areas.{OnlyIn, place_in}
use Rattle.lookup.specs.Calls.{again}
use Rattle.lookup.specs.Lookups.{Context, taking, with_marks}
use Rattle.lookup.specs.Marks.{taking_context}
use Rattle.lookup.specs.Opened.{context_of, first_unit}
use Rattle.lookup.specs.Turns.{Begins, Labelled, marks_end, with_text}
use Rattle.lookup.proofs.Areas.{front_stays, text_in_front_stays}
use Rattle.lookup.proofs.CallSteps.{round_empty, round_full}
use Rattle.lookup.proofs.TakingApart.{early, fragment_ends, goes_in, marks_there, path_is, path_short, query_ends, read_as, read_none, read_path, size, takes}
use Rattle.lookup.proofs.calls.round.take_apart.Goals as goal

pub returns-in_default : goal.returns-in_default
returns-in_default c =
    let w = c.args.work.now in
    let a = c.args.asked in
    let s = text_at w a.text in
    let none = read_none s c.in_default.field-0 (c.in_default.ensures.reads_the_request ∙ ap specifier_of c.of-request.ensures.part_of_the_text) in record {
      one_move_of_the_round = record {
        means = λ m allowed t limit. round_empty m allowed t limit (text_at w a.directory) s (context_of w c.args.context) none;
        falls = λ m t. omega arith;
        kept = λ row free high. tt;
        rounds = refl;
        query = c.requires.sound.query;
        fragment = c.requires.sound.fragment;
        front = refl;
        long = refl;
        short = c.requires.short;
      };
    }

pub unwrap-len-requires : goal.unwrap-len-requires
unwrap-len-requires c =
    let s = text_at c.args.work.now c.args.asked.text in
    let part = c.of-request.ensures.part_of_the_text in
    let read = read_path s c.in-Ok.specifier (c.in-Ok.ensures.reads_the_request ∙ ap specifier_of part) in
    let path : unescaped (text_at c.of-request.result.now c.in-Ok.specifier.path) ≡ path_of s = (λ k. unescaped (text_at (part k) (read.1 k).path)) ∙ path_is s in
    goes_in c.write_path.result (unescaped (text_at c.of-request.result.now c.in-Ok.specifier.path)) 255
    (omega (arith, ap length path, path_short s, size c.args.work.now c.args.asked c.requires.in_its_first_unit c.requires.short (omega (arith, c.requires.room, c.requires.its_round)), c.requires.short))
    c.write_path.ensures.length_if_it_fits

pub taking-context-requires-clause-few : goal.taking-context-requires-clause-few
taking-context-requires-clause-few c = omega (arith, c.requires.in_its_first_unit, c.requires.its_round, c.requires.few)

pub taking-context-requires-clause-short_query : goal.taking-context-requires-clause-short_query
taking-context-requires-clause-short_query c =
    let s = text_at c.args.work.now c.args.asked.text in
    let read = read_path s c.in-Ok.specifier (c.in-Ok.ensures.reads_the_request ∙ ap specifier_of c.of-request.ensures.part_of_the_text) in
    let many = size c.args.work.now c.args.asked c.requires.in_its_first_unit c.requires.short (omega (arith, c.requires.room, c.requires.its_round)) in
    subst (λ (p : Specifier). IfSome {T = Place} p.query (λ q. q.start ≤ 255)) (sym read.1) (early (query_place s) (length s) (omega (arith, many, c.requires.short)) (query_ends s))

pub taking-context-requires-clause-short_fragment : goal.taking-context-requires-clause-short_fragment
taking-context-requires-clause-short_fragment c =
    let s = text_at c.args.work.now c.args.asked.text in
    let read = read_path s c.in-Ok.specifier (c.in-Ok.ensures.reads_the_request ∙ ap specifier_of c.of-request.ensures.part_of_the_text) in
    let many = size c.args.work.now c.args.asked c.requires.in_its_first_unit c.requires.short (omega (arith, c.requires.room, c.requires.its_round)) in
    subst (λ (p : Specifier). IfSome {T = Place} p.fragment (λ q. q.start ≤ 255)) (sym read.1) (early (fragment_place s) (length s) (omega (arith, many, c.requires.short)) (fragment_ends s))

pub go_on-requires-clause-labelled : goal.go_on-requires-clause-labelled
go_on-requires-clause-labelled c =
    let w = c.args.work.now in
    let a = c.args.asked in
    let s = text_at w a.text in
    let x = c.put-path.result in
    let room : 256 * first_unit a.round + 256 ≤ length w = omega (arith, c.requires.room, c.requires.its_round) in
    let read = read_path s c.in-Ok.specifier (c.in-Ok.ensures.reads_the_request ∙ ap specifier_of c.of-request.ensures.part_of_the_text) in
    let d = taking_context c.args.context (read_as s) a.text.start in
    let there : x ≡ place_in (first_unit a.round + 1) (length c.of-path.result.now) = subst (λ (n : ℕ). x ≡ place_in (n + 1) (length c.of-path.result.now)) c.first_unit.ensures.first_of_its_units c.put-path.ensures.place_in_its_unit in
    let start : x.start ≡ 256 * (first_unit a.round + 1) = ap (λ (p : Place). p.start) there in
    let raw : unescaped (text_at c.of-request.result.now c.in-Ok.specifier.path) ≡ path_of s = (λ k. unescaped (text_at (c.of-request.ensures.part_of_the_text k) (read.1 k).path)) ∙ path_is s in
    let went = went_in (unescaped (text_at c.of-request.result.now c.in-Ok.specifier.path)) (replicate 255 0) c.write_path.new.out c.unwrap-len.result (sym c.unwrap-len.ensures ∙ c.write_path.ensures.length_if_it_fits) c.write_path.ensures.bytes_if_it_fits in
    let many = size w a c.requires.in_its_first_unit c.requires.short room in
    let few : x.len ≤ 255 = omega (arith, ap (λ (p : Place). p.len) there, ap length (c.of-path.ensures.part_of_the_text ∙ went.0 ∙ raw), path_short s, many, c.requires.short) in
    let labelled : Labelled d (with_text a x) = record {
      directory = omega (arith, c.requires.low_directory);
      text = omega (arith, start, few);
      short = few;
      begun = omega (arith, c.requires.its_round);
      query = marks_there w a c.requires.in_its_first_unit c.requires.short room c.args.context.rounds c.requires.its_round (query_place s) c.args.context.query (query_ends s) c.requires.sound.query;
      fragment = marks_there w a c.requires.in_its_first_unit c.requires.short room c.args.context.rounds c.requires.its_round (fragment_place s) c.args.context.fragment (fragment_ends s) c.requires.sound.fragment;
    } in
    transport (λ k. Labelled ((ap (λ (p : Specifier). taking_context c.args.context p a.text.start) (sym read.1) ∙ sym c.taking-context.ensures.newer_ones_take_the_place) k) (sym c.with_text.ensures.same_with_another_text k)) labelled

pub returns : goal.returns
returns c =
    let w = c.args.work.now in
    let a = c.args.asked in
    let s = text_at w a.text in
    let x = c.put-path.result in
    let u = c.put-path.new.work in
    let out = c.write_path.new.out in
    let part = c.of-request.ensures.part_of_the_text in
    let room : 256 * first_unit a.round + 256 ≤ length w = omega (arith, c.requires.room, c.requires.its_round) in
    let read = read_path s c.in-Ok.specifier (c.in-Ok.ensures.reads_the_request ∙ ap specifier_of part) in
    let d = taking_context c.args.context (read_as s) a.text.start in
    let only : OnlyIn (first_unit a.round + 1) w u = subst (λ (n : ℕ). OnlyIn (n + 1) w u) c.first_unit.ensures.first_of_its_units c.put-path.ensures.only_its_unit_is_written in
    let dir : text_at u a.directory ≡ text_at w a.directory = text_in_front_stays (first_unit a.round + 1) w u a.directory only (omega (arith, c.requires.low_directory)) in
    let raw : unescaped (text_at c.of-request.result.now c.in-Ok.specifier.path) ≡ path_of s = (λ k. unescaped (text_at (part k) (read.1 k).path)) ∙ path_is s in
    let went = went_in (unescaped (text_at c.of-request.result.now c.in-Ok.specifier.path)) (replicate 255 0) out c.unwrap-len.result (sym c.unwrap-len.ensures ∙ c.write_path.ensures.length_if_it_fits) c.write_path.ensures.bytes_if_it_fits in
    let path : text_at u x ≡ path_of s = c.put-path.ensures.text_in_its_place ∙ c.of-path.ensures.part_of_the_text ∙ went.0 ∙ raw in
    let taken : context_of u d ≡ taking s (context_of w c.args.context) = takes w a c.requires.in_its_first_unit c.requires.short room c.args.context.rounds c.requires.its_round u only c.args.context c.requires.sound.query c.requires.sound.fragment in
    let b = transport (λ k. Begins (marks_end u (c.with_text.ensures.same_with_another_text k) ((c.taking-context.ensures.newer_ones_take_the_place ∙ ap (λ (p : Specifier). taking_context c.args.context p a.text.start) read.1) k)) u (c.with_text.ensures.same_with_another_text k) ((c.taking-context.ensures.newer_ones_take_the_place ∙ ap (λ (p : Specifier). taking_context c.args.context p a.text.start) read.1) k) c.go_on.result.0 c.go_on.new.work c.go_on.result.1) c.go_on.ensures.one_move_of_the_round in
    record {
      one_move_of_the_round = record {
        means = λ m allowed t limit.
            round_full m allowed t limit (text_at w a.directory) s (context_of w c.args.context) read.0
            ∙ (λ k. let e : Context = sym taken k in with_marks m allowed t (again m allowed t limit) e.query e.fragment (sym dir k) (sym path k) e)
            ∙ b.means m allowed t limit;
        falls = b.falls;
        kept = b.kept;
        rounds = b.rounds;
        query = b.query;
        fragment = b.fragment;
        front = b.front ∙ front_stays (first_unit a.round + 1) (256 * first_unit a.round) w u only (omega arith);
        long = b.long ∙ only.long;
        short = b.short;
      };
    }
