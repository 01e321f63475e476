use Rattle.std.proofs.Common.{◌≡◌, ◌+◌, ◌<◌, ◌++◌, sym, [], length, min, take, slice_index_or, slice_set, refl, ap, ◌∙◌, arith}
use Rattle.std.proofs.lemmas.List.{take_more_set}
use Rattle.std.proofs.Math.Path.{transport}
use Rattle.settings.specs.Meant.{tables}
use Rattle.lookup.specs.Blank.{blank_call}
use Rattle.resolver.specs.declared.Answered.TheVariants.{Unserved}
use Rattle.resolver.specs.declared.Call.{Call}
use Rattle.resolver.specs.declared.Call.TheVariants.{Resolve}
use Rattle.resolver.specs.declared.Reply.{Reply}
use Rattle.resolver.specs.Runs.{Reached, ceiling}
use Rattle.resolver.specs.Served.{events, stays, buffers_of, due, memory_by, no_call_left, paths_of}
use Rattle.resolver.proofs.Served.{memory_to, moved_to, others_wait, paths_then, reached_through, served_to}
use Rattle.resolver.proofs.Resolver.serve.Goals as goal

pub loop-i-init : goal.loop-i-init
loop-i-init g c = record {
  still_sound = c.requires.sound;
  same_meaning = refl;
  same_settings = refl;
  same_policy = refl;
  moved_so_far = stays;
  as_many_bytes = refl;
  as_many_rows = refl;
  served_so_far = λ n h. no_call_left;
  others_wait = refl;
  counted_so_far = omega (arith, c.args.self.now.counts_up_to_its_ceiling);
  area_so_far = refl;
  rows_so_far = refl;
}

pub loop-i-preserved : goal.loop-i-preserved
loop-i-preserved g c =
    let s = c.args.self.now in
    let before = c.loop-i.invariant in
    let one = c.serve_one.ensures in
    let i = c.loop-i.i in
    let calls = c.args.calls.now in
    let olds = c.args.replies.now in
    let news = c.loop-i.replies in
    let new = c.serve_one.new.reply in
    let texts = c.args.texts.now in
    let no_call : Call = Resolve (record { start = 0; len = 0 }) (record { start = 0; len = 0 }) in
    let no_reply : Reply = record { answered = Unserved; first = []; second = []; third = [] } in
    let call : Call = slice_index_or calls i no_call in
    let old : Reply = slice_index_or news i no_reply in
    let called : i < length calls = omega (arith, c.loop-i-test.true, c.min-served.ensures) in
    let replied : i < length news = omega (arith, c.loop-i-test.true, c.min-served.ensures, c.loop-i.auto.replies) in
    let waited : i < length olds = omega (arith, c.loop-i-test.true, c.min-served.ensures) in
    let counted : c.serve_one.new.self.handed_out ≡ min (s.handed_out + paths_of (take (i + 1) (slice_set news i new))) ceiling =
    omega (arith, one.paths_count, before.counted_so_far, ap paths_of (take_more_set news i new replied), paths_then (take i news) new) in
    record {
      still_sound = one.still_sound;
      same_meaning = one.same_meaning ∙ before.same_meaning;
      same_settings = one.settings_and_policy_stay.0 ∙ before.same_settings;
      same_policy = one.settings_and_policy_stay.1 ∙ before.same_policy;
      moved_so_far = moved_to g.H.FileTree.steps calls i no_call s.host c.loop-i.self.host c.serve_one.new.self.host called before.moved_so_far one.host_is_told;
      as_many_bytes = omega (arith, c.serve_one.auto.area, before.as_many_bytes);
      as_many_rows = omega (arith, c.serve_one.auto.rows, before.as_many_rows);
      served_so_far = λ n h.
          let here : c.loop-i.self.handed_out ≡ min (n + paths_of (take i news)) ceiling = omega (arith, h, before.counted_so_far) in
          served_to (g.H.FileTree.meaning s.host) (g.P.Policy.allowed s.policy) (tables s.settings) (length c.args.area.now) (length c.args.rows.now) texts n calls olds news i new no_call no_reply called replied waited before.others_wait (before.served_so_far n h)
          (transport (λ j. (new.answered, buffers_of new) ≡ due (before.same_meaning j) (g.P.Policy.allowed (before.same_policy j)) (tables (before.same_settings j)) (before.as_many_bytes j) (before.as_many_rows j) texts (n + paths_of (take i news)) call old) (one.reply_is_due (n + paths_of (take i news)) here));
      others_wait = others_wait olds news i new replied waited before.others_wait;
      counted_so_far = counted;
      area_so_far =
          memory_to (length c.args.area.now) (length c.args.rows.now) texts 0 calls olds news i no_call no_reply c.args.area.now c.loop-i.area c.serve_one.new.area called replied waited before.others_wait before.area_so_far
          (one.area_as_defined ∙ (λ j. memory_by (before.as_many_bytes j) (before.as_many_rows j) texts 0 call old c.loop-i.area));
      rows_so_far =
          memory_to (length c.args.area.now) (length c.args.rows.now) texts blank_call calls olds news i no_call no_reply c.args.rows.now c.loop-i.rows c.serve_one.new.rows called replied waited before.others_wait before.rows_so_far
          (one.rows_as_defined ∙ (λ j. memory_by (before.as_many_bytes j) (before.as_many_rows j) texts blank_call call old c.loop-i.rows));
    }

pub returns-clause-run_goes_on_as_defined : goal.returns-clause-run_goes_on_as_defined
returns-clause-run_goes_on_as_defined g c past h =
    let s = c.args.self.now in
    let before = c.loop-i.invariant in
    let m = g.H.FileTree.meaning s.host in
    let allowed = g.P.Policy.allowed s.policy in
    let t = tables s.settings in
    let area = length c.args.area.now in
    let rows = length c.args.rows.now in
    let all : c.loop-i.i ≡ c.min-served.result = omega (arith, c.loop-i-test.false, c.loop-i.auto.i-end) in
    let calls = take c.loop-i.i c.args.calls.now in
    let olds = take c.loop-i.i c.args.replies.now in
    let news = take c.loop-i.i c.loop-i.replies in
    transport (λ i. Reached (sym before.same_meaning i) (g.P.Policy.allowed (sym before.same_policy i)) (tables (sym before.same_settings i)) (past ++ events area rows c.args.texts.now (take (all i) c.args.calls.now) (take (all i) c.args.replies.now) (take (all i) c.loop-i.replies)) c.loop-i.self.handed_out)
    (reached_through m allowed t area rows c.args.texts.now past calls olds news s.handed_out c.loop-i.self.handed_out h before.served_so_far before.counted_so_far)
