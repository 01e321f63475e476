use Rattle.std.proofs.Common.{◌≡◌, ◌++◌, OnOk, length, min, subst, arith}
use Rattle.settings.specs.Meant.{tables}
use Rattle.resolver.specs.Runs.{ceiling}
use Rattle.texts.specs.Texts.{Text}
use Rattle.sheets.proofs.Serving.{batch_told, blank_wide}
use Rattle.sheets.proofs.work.Lent.serve.Goals as goal

pub push_replies-requires : goal.push_replies-requires
push_replies-requires g c =
    let serve = c.serve-served.ensures in
    let n = c.args.resolver.now.handed_out in
    let few : n ≡ min n ceiling = omega (arith, c.args.resolver.now.counts_up_to_its_ceiling) in
    record {
      few_rounds = (batch_told (g.H.FileTree.meaning c.args.resolver.now.host) (g.P.Policy.allowed c.args.resolver.now.policy) (tables c.args.resolver.now.settings) c.args.sheet.now
          (length c.args.self.now.area) (length c.args.self.now.rows) n c.serve-served.result (length c.args.self.now.replies) c.args.calls.now c.fill.new.self c.serve-served.new.replies c.blank.result
          (omega arith) (omega arith) (omega (arith, c.requires.few_calls)) serve.as_many_as_have_a_reply (c.fill.ensures.after (λ y e. e)) (blank_wide c.blank.result c.blank.ensures.buffers_of_zeros)
          (serve.every_run_answers_by_its_definition n few)).1;
    }

pub returns-clause-rows_behind : goal.returns-clause-rows_behind
returns-clause-rows_behind g c =
    let serve = c.serve-served.ensures in
    let n = c.args.resolver.now.handed_out in
    let few : n ≡ min n ceiling = omega (arith, c.args.resolver.now.counts_up_to_its_ceiling) in
    let told = (batch_told (g.H.FileTree.meaning c.args.resolver.now.host) (g.P.Policy.allowed c.args.resolver.now.policy) (tables c.args.resolver.now.settings) c.args.sheet.now
    (length c.args.self.now.area) (length c.args.self.now.rows) n c.serve-served.result (length c.args.self.now.replies) c.args.calls.now c.fill.new.self c.serve-served.new.replies c.blank.result
    (omega arith) (omega arith) (omega (arith, c.requires.few_calls)) serve.as_many_as_have_a_reply (c.fill.ensures.after (λ y e. e)) (blank_wide c.blank.result c.blank.ensures.buffers_of_zeros)
    (serve.every_run_answers_by_its_definition n few)).0 in
    subst (λ (x : Text). OnOk c.push_replies.result (c.push_replies.new.rows.items ≡ c.args.rows.now.items ++ x)) told c.push_replies.ensures.rows_behind
