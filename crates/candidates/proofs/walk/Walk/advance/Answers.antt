use Rattle.std.proofs.Common.{rules, refl, subst, ◌∙◌}
use Rattle.tree.specs.Meanings.{Meaning}
use Rattle.candidates.specs.Asked.{AskedBetween}
use Rattle.candidates.proofs.Asking.{onward, standing}
use Rattle.candidates.proofs.walk.Walk.advance.Goals as goal

pub loop-host-init : goal.loop-host-init
loop-host-init g c = record {
  sound = c.requires.sound;
  same_meaning = refl;
  nothing_written = refl;
  as_much_left = refl;
  asked_only_at_the_directory = standing g.H.FileTree.steps (g.H.FileTree.meaning c.args.host.now) c.args.sought.now.path.now c.args.self.now.stage c.args.host.now;
}

pub returns-then-is_some-clause-asked_only_at_the_directory : goal.returns-then-is_some-clause-asked_only_at_the_directory
returns-then-is_some-clause-asked_only_at_the_directory g c =
    let path = c.args.sought.now.path.now in
    onward g.H.FileTree.steps (g.H.FileTree.meaning c.args.host.now) path c.loop-host.invariant.asked_only_at_the_directory
    (subst (λ (m : Meaning). AskedBetween g.H.FileTree.steps m path c.loop-host.self.stage c.step-candidate.result.1.stage c.loop-host.host c.step-candidate.new.host) c.loop-host.invariant.same_meaning c.step-candidate.ensures.asked_only_at_the_directory)

pub loop-host-preserved : goal.loop-host-preserved
loop-host-preserved g c =
    let path = c.args.sought.now.path.now in
    record {
      sound = c.step-candidate.ensures.still_sound;
      same_meaning = c.step-candidate.ensures.same_meaning ∙ c.loop-host.invariant.same_meaning;
      nothing_written = search rules;
      as_much_left = search rules;
      asked_only_at_the_directory =
          onward g.H.FileTree.steps (g.H.FileTree.meaning c.args.host.now) path c.loop-host.invariant.asked_only_at_the_directory
          (subst (λ (m : Meaning). AskedBetween g.H.FileTree.steps m path c.loop-host.self.stage c.step-candidate.result.1.stage c.loop-host.host c.step-candidate.new.host) c.loop-host.invariant.same_meaning c.step-candidate.ensures.asked_only_at_the_directory);
    }
