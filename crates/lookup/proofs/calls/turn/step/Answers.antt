use Rattle.std.proofs.Common.{◌≡◌, None, Ok, rules}
use Rattle.settings.specs.Meant.{tables}
use Rattle.lookup.specs.declared.calls.Stage.TheVariants as stage
use Rattle.lookup.proofs.TurnMoves.{ends_moves, told_moves}
use Rattle.lookup.proofs.calls.turn.step.Goals as goal

pub returns-in-Require-clause-one_move_of_the_call : goal.returns-in-Require-clause-one_move_of_the_call
returns-in-Require-clause-one_move_of_the_call g c =
    let none : c.told-told.result ≡ Ok None = c.is_nothing.ensures.nothing_if_so (search rules) in
    told_moves _ _ _ _ _ c.args.row c.args.back _ c.args.context c.told-told.ensures.caught_faults_are_nothing (stage.Require) _ _ _ c.in-Require.is none
    (c.begin.ensures.one_move_of_the_call (g.H.FileTree.meaning c.args.host.now) (g.P.Policy.allowed c.args.policy.now) (tables c.args.settings.now))

pub returns-in-Marked-clause-one_move_of_the_call : goal.returns-in-Marked-clause-one_move_of_the_call
returns-in-Marked-clause-one_move_of_the_call g c =
    let none : c.told-told.result ≡ Ok None = c.is_nothing.ensures.nothing_if_so (search rules) in
    told_moves _ _ _ _ _ c.args.row c.args.back _ c.args.context c.told-told.ensures.caught_faults_are_nothing (stage.Marked c.in-Marked.fragment) _ _ _ c.in-Marked.is none
    (c.put_back.ensures.one_move_of_the_call (g.H.FileTree.meaning c.args.host.now) (g.P.Policy.allowed c.args.policy.now) (tables c.args.settings.now) c.args.limit c.args.work.now c.requires.sound.few)

pub returns-in-Labels-clause-one_move_of_the_call : goal.returns-in-Labels-clause-one_move_of_the_call
returns-in-Labels-clause-one_move_of_the_call g c =
    let none : c.told-told.result ≡ Ok None = c.is_nothing.ensures.nothing_if_so (search rules) in
    told_moves _ _ _ _ _ c.args.row c.args.back _ c.args.context c.told-told.ensures.caught_faults_are_nothing (stage.Labels c.in-Labels.progress) _ _ _ c.in-Labels.is none
    (c.on_labels.ensures.one_move_of_the_call (g.P.Policy.allowed c.args.policy.now) c.args.limit c.requires.sound.few)

pub returns-in-Candidates-clause-one_move_of_the_call : goal.returns-in-Candidates-clause-one_move_of_the_call
returns-in-Candidates-clause-one_move_of_the_call g c =
    let none : c.told-told.result ≡ Ok None = c.is_nothing.ensures.nothing_if_so (search rules) in
    told_moves _ _ _ _ _ c.args.row c.args.back _ c.args.context c.told-told.ensures.caught_faults_are_nothing (stage.Candidates c.in-Candidates.path c.in-Candidates.fully_specified c.in-Candidates.walk) _ _ _ c.in-Candidates.is none
    (c.on_candidates-next.ensures.one_move_of_the_call (g.P.Policy.allowed c.args.policy.now) c.args.limit c.requires.sound.few)

pub returns-in-Tested-clause-one_move_of_the_call : goal.returns-in-Tested-clause-one_move_of_the_call
returns-in-Tested-clause-one_move_of_the_call g c =
    let none : c.told-told.result ≡ Ok None = c.is_nothing.ensures.nothing_if_so (search rules) in
    told_moves _ _ _ _ _ c.args.row c.args.back _ c.args.context c.told-told.ensures.caught_faults_are_nothing (stage.Tested c.in-Tested.progress) _ _ _ c.in-Tested.is none
    (c.on_test.ensures.one_move_of_the_call c.args.limit c.requires.sound.few)

pub returns-then-not-is_nothing-clause-one_move_of_the_call : goal.returns-then-not-is_nothing-clause-one_move_of_the_call
returns-then-not-is_nothing-clause-one_move_of_the_call g c =
    ends_moves (g.H.FileTree.meaning c.args.host.now) (g.P.Policy.allowed c.args.policy.now) (tables c.args.settings.now) c.args.limit c.args.work.now c.args.row c.args.back c.told-told.result c.args.context c.told-told.ensures.caught_faults_are_nothing
    (c.is_nothing.ensures.an_end_if_not (search rules)) c.requires.sound
