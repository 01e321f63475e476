use Rattle.std.proofs.Common.{◌∷◌, [], ◌++◌, ap, sym, subst}
use Rattle.tree.specs.Meanings.{Meaning}
use Rattle.settings.specs.Meant.{tables}
use Rattle.settings.proofs.Limited.{within_limits}
use Rattle.lookup.specs.Outcomes.{Room, room_of}
use Rattle.resolver.specs.Runs.{Buffers, Event, Reached, asked, resolved_right}
use Rattle.resolver.proofs.Handed.{few_rounds, first_candidate, not_found_if_none, only_acceptable}
use Rattle.resolver.proofs.Runs.{reached_then}
use Rattle.resolver.proofs.Resolver.resolve.Goals as goal

pub returns-clause-run_goes_on_as_defined : goal.returns-clause-run_goes_on_as_defined
returns-clause-run_goes_on_as_defined g c =
    let s = c.args.self.now in
    let m = g.H.FileTree.meaning s.host in
    let allowed = g.P.Policy.allowed s.policy in
    let t = tables s.settings in
    let room : Room = room_of c.args.area.now c.args.rows.now c.args.first.now c.args.second.now c.args.third.now in
    let a = c.answer_call-resolution.result in
    let before : Buffers = (c.args.first.now, (c.args.second.now, c.args.third.now)) in
    let after : Buffers = (c.answer_call-resolution.new.first, (c.answer_call-resolution.new.second, c.answer_call-resolution.new.third)) in
    let e : Event = asked c.args.directory.now c.args.request.now room a before after in
    λ past h.
    subst (λ (n : Meaning). Reached n allowed t (past ++ e ∷ []) c.counted.result) (sym c.answer_call-resolution.ensures.same_meaning)
    (reached_then m allowed t past e s.handed_out c.counted.result h (resolved_right c.args.directory.now c.args.request.now room a before after c.answer_call-resolution.ensures.answered_as_defined c.answer_call-resolution.ensures.buffers_as_defined) c.counted.ensures.a_path_counts)

pub returns-clause-at_most_64_rounds_run : goal.returns-clause-at_most_64_rounds_run
returns-clause-at_most_64_rounds_run g c =
    let s = c.args.self.now in
    few_rounds (g.H.FileTree.meaning s.host) (g.P.Policy.allowed s.policy) (tables s.settings)
    (room_of c.args.area.now c.args.rows.now c.args.first.now c.args.second.now c.args.third.now) c.args.directory.now c.args.request.now
    (c.args.first.now, (c.args.second.now, c.args.third.now)) c.answer_call-resolution.result c.answer_call-resolution.new.first
    c.answer_call-resolution.ensures.answered_as_defined

pub returns-clause-only_acceptable_paths_are_handed_out : goal.returns-clause-only_acceptable_paths_are_handed_out
returns-clause-only_acceptable_paths_are_handed_out g c =
    let s = c.args.self.now in
    only_acceptable (g.H.FileTree.meaning s.host) (g.P.Policy.allowed s.policy) (tables s.settings)
    (room_of c.args.area.now c.args.rows.now c.args.first.now c.args.second.now c.args.third.now) c.args.directory.now c.args.request.now
    (c.args.first.now, (c.args.second.now, c.args.third.now)) c.answer_call-resolution.result c.answer_call-resolution.new.first
    c.answer_call-resolution.ensures.answered_as_defined
    (ap (λ (b : Buffers). b.0) c.answer_call-resolution.ensures.buffers_as_defined)

pub returns-clause-first_acceptable_candidate_is_handed_out : goal.returns-clause-first_acceptable_candidate_is_handed_out
returns-clause-first_acceptable_candidate_is_handed_out g c =
    let s = c.args.self.now in
    first_candidate (g.H.FileTree.meaning s.host) (g.P.Policy.allowed s.policy) (tables s.settings)
    (room_of c.args.area.now c.args.rows.now c.args.first.now c.args.second.now c.args.third.now) c.args.directory.now c.args.request.now
    (c.args.first.now, (c.args.second.now, c.args.third.now)) c.answer_call-resolution.result c.answer_call-resolution.new.first
    c.answer_call-resolution.ensures.answered_as_defined
    (ap (λ (b : Buffers). b.0) c.answer_call-resolution.ensures.buffers_as_defined)
    (g.met.H.FileTree.proper s.host c.requires.sound) (within_limits s.settings)

pub returns-clause-nothing_is_found_exactly_when_no_candidate_is_acceptable : goal.returns-clause-nothing_is_found_exactly_when_no_candidate_is_acceptable
returns-clause-nothing_is_found_exactly_when_no_candidate_is_acceptable g c =
    let s = c.args.self.now in
    not_found_if_none (g.H.FileTree.meaning s.host) (g.P.Policy.allowed s.policy) (tables s.settings)
    (room_of c.args.area.now c.args.rows.now c.args.first.now c.args.second.now c.args.third.now) c.args.directory.now c.args.request.now
    (c.args.first.now, (c.args.second.now, c.args.third.now)) c.answer_call-resolution.result c.answer_call-resolution.new.first
    c.answer_call-resolution.ensures.answered_as_defined
    (ap (λ (b : Buffers). b.0) c.answer_call-resolution.ensures.buffers_as_defined)
    (g.met.H.FileTree.proper s.host c.requires.sound) (within_limits s.settings)
