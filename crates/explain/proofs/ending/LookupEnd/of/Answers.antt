use Rattle.std.proofs.Common.{◌≡◌, ℕ, List, length, replicate, ap, arith}
use Rattle.std.proofs.lemmas.List.{length-replicate}
use Rattle.settings.specs.Meant.{tables}
use Rattle.lookup.specs.Outcomes.{room_of}
use Rattle.resolver.specs.Runs.{Buffers}
use Rattle.explain.proofs.EndSteps.{ends_as_defined, room_is_lent}
use Rattle.explain.proofs.ending.LookupEnd.of.Goals as goal

pub returns-clause-ends_as_defined : goal.returns-clause-ends_as_defined
returns-clause-ends_as_defined g c =
    let s = c.args.resolver.now in
    let new = c.resolve-resolution.new in
    let area = c.args.memory.now.area in
    let rows = c.args.memory.now.rows in
    let zeros : List ℕ = replicate 255 0 in
    let before : Buffers = (zeros, (zeros, zeros)) in
    let after : Buffers = (new.first, (new.second, new.third)) in
    let wide : length area ≡ 131072 = omega arith in
    let many : length rows ≡ 1024 = omega arith in
    let long : length zeros ≡ 255 = length-replicate {A = ℕ} 255 0 in
    ends_as_defined (g.H.FileTree.meaning s.host) (g.P.Policy.allowed s.policy) (tables s.settings) (room_of area rows zeros zeros zeros) c.args.question.directory.now c.args.question.request.now before after c.resolve-resolution.result
    (room_is_lent area rows zeros zeros zeros wide many long long long)
    c.resolve-resolution.ensures.answered_as_defined c.resolve-resolution.ensures.buffers_as_defined
