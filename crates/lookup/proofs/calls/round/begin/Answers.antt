use Rattle.std.proofs.Common.{◌≡◌, ℕ, suc, ◌+◌, ◌*◌, ◌-◌, ◌<◌, ◌≤◌, length, MatchOption, Option, rules, mul-suc, sym, refl, ap, subst, ◌∙◌, arith}
use Rattle.std.proofs.lemmas.Bool.{lt-ltb}
use Rattle.texts.specs.declared.text.Text.{Text as Held}
use Rattle.texts.specs.Held.{bytes_of}
use Rattle.texts.specs.Parts.{text_at}
use Rattle.lookup.specs.declared.calls.ResolveContext.{ResolveContext}
use Rattle.lookup.specs.Areas.{OnlyIn}
use Rattle.lookup.specs.Calls.{again}
use Rattle.lookup.specs.Lookups.{Context, counted, round}
use Rattle.lookup.specs.Moves.{attempts_most, label_moves, rounds_left}
use Rattle.lookup.specs.Opened.{context_of, first_unit}
use Rattle.lookup.specs.Turns.{Begins, require_row, round_ends}
use Rattle.lookup.proofs.Areas.{fewer_stay, front_stays, old_marks_stay, text_in_front_stays}
use Rattle.lookup.proofs.CallSteps.{all_rounds_run, begun}
use Rattle.lookup.proofs.TakingApart.{counts}
use Rattle.lookup.proofs.calls.round.begin.Goals as goal

pub returns-then-context-limit : goal.returns-then-context-limit
returns-then-context-limit c =
    let w = c.args.work.now in
    let a = c.args.asked in record {
      one_move_of_the_call = λ m allowed t. record {
        means = all_rounds_run m allowed t c.args.limit (text_at w a.directory) (text_at w a.text) (context_of w c.args.context) (search rules);
        falls = omega arith;
        kept = tt;
        sound = c.requires.sound;
        later = omega arith;
        below = refl;
        long = refl;
        short = λ z. tt;
      };
    }

pub returns : goal.returns
returns c =
    let w = c.args.work.now in
    let u = c.put-text.new.work in
    let a = c.args.asked in
    let x = c.put-text.result in
    let k = c.args.context in
    let less : k.rounds < c.args.limit = search rules in
    let only : OnlyIn (first_unit k.rounds) w u = subst (λ (n : ℕ). OnlyIn n w u) c.first_unit.ensures.first_of_its_units c.put-text.ensures.only_its_unit_is_written in
    let low : 256 * first_unit a.round ≤ 256 * first_unit k.rounds = omega (arith, c.requires.comes_after) in
    let dir : text_at u a.directory ≡ text_at w a.directory = text_in_front_stays (first_unit k.rounds) w u a.directory only (omega (arith, c.requires.placed.directory, low)) in
    let held : bytes_of c.unwrap-request.result ≡ text_at w a.text =
    subst (λ (o : Option (Held 255)). MatchOption o (255 < length c.of.result.now) (λ t. bytes_of t ≡ c.of.result.now)) c.unwrap-request.ensures c.new.ensures.same_bytes_or_too_many ∙ c.of.ensures.part_of_the_text in
    let text : text_at u x ≡ text_at w a.text = c.put-text.ensures.text_in_its_place ∙ c.as_bytes.ensures.bytes_of_the_text ∙ held in
    let query = old_marks_stay k.rounds w u k.query only c.requires.sound.query in
    let fragment = old_marks_stay k.rounds w u k.fragment only c.requires.sound.fragment in
    let marks : context_of u k ≡ context_of w k = λ i. record { rounds = k.rounds; fully = k.fully_specified; query = query i; fragment = fragment i } in
    let one = c.counted.ensures.one_more_round in
    let b = subst (λ (d : ResolveContext). Begins (round_ends u (record { round = k.rounds; directory = a.directory; text = x }) d) u (record { round = k.rounds; directory = a.directory; text = x }) d c.take_apart.result.0 c.take_apart.new.work c.take_apart.result.1) one c.take_apart.ensures.one_move_of_the_round in
    record {
      one_move_of_the_call = λ m allowed t.
          let l = 2 + 2 * label_moves t (attempts_most t.aliases) in
          let left = c.args.limit - c.take_apart.result.1.rounds in
          let next : c.args.limit - k.rounds ≡ suc left = omega (arith, less, b.rounds) in
          let more : rounds_left t (c.args.limit - k.rounds) ≡ rounds_left t left + l = ap (λ (n : ℕ). l * n) next ∙ mul-suc l left ∙ omega arith in record {
            means =
                begun m allowed t c.args.limit (text_at w a.directory) (text_at w a.text) (context_of w k) (lt-ltb _ _ less)
                ∙ (λ i. round m allowed t (again m allowed t c.args.limit) (sym dir i) (sym text i) (counted (sym marks i)))
                ∙ ap (λ (d : Context). round m allowed t (again m allowed t c.args.limit) (text_at u a.directory) (text_at u x) d) (sym (counts u k))
                ∙ b.means m allowed t c.args.limit;
            falls = omega (arith, more, b.falls m t);
            kept = b.kept (require_row a) (omega (arith, c.requires.comes_after)) (omega (arith, c.requires.comes_after));
            sound = record { few = omega (arith, b.rounds, less); query = b.query; fragment = b.fragment };
            later = omega (arith, b.rounds);
            below = fewer_stay (256 * first_unit k.rounds) (256 * (first_unit a.round + 0)) u c.take_apart.new.work b.front (omega (arith, low)) ∙ front_stays (first_unit k.rounds) (256 * (first_unit a.round + 0)) w u only (omega (arith, low));
            long = b.long ∙ only.long;
            short = λ z. b.short;
          };
    }
