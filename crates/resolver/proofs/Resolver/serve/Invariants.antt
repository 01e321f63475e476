use Rattle.std.proofs.Common.{◌≡◌, ℕ, ◌+◌, length, min, take, drop}
use Rattle.lookup.specs.Blank.{blank_call}
use Rattle.resolver.specs.Runs.{ceiling}
use Rattle.resolver.specs.Served.{MovesOn, Served, memory_then, paths_of}
use Rattle.settings.specs.Meant.{tables}
use Rattle.resolver.proofs.Resolver.serve.Given as goal

-- The calls so far have their replies; all else is as it was.
abbrev pub invariant-loop-i : goal.invariant-loop-i
invariant-loop-i g l =
    let s = l.fn.self in
    let m = g.H.FileTree.meaning s.host in
    record {
      still_sound : g.H.FileTree.sound l.self.host;
      same_meaning : g.H.FileTree.meaning l.self.host ≡ m;
      same_settings : l.self.settings ≡ s.settings;
      same_policy : l.self.policy ≡ s.policy;
      moved_so_far : MovesOn g.H.FileTree.steps (take l.i l.calls) s.host l.self.host;
      as_many_bytes : length l.area ≡ length l.fn.area;
      as_many_rows : length l.rows ≡ length l.fn.rows;
      served_so_far : (n : ℕ) → s.handed_out ≡ min n ceiling → Served m (g.P.Policy.allowed s.policy) (tables s.settings) (length l.fn.area) (length l.fn.rows) l.texts n (take l.i l.calls) (take l.i l.fn.replies) (take l.i l.replies);
      others_wait : drop l.i l.replies ≡ drop l.i l.fn.replies;
      counted_so_far : l.self.handed_out ≡ min (s.handed_out + paths_of (take l.i l.replies)) ceiling;
      area_so_far : l.area ≡ memory_then (length l.fn.area) (length l.fn.rows) l.texts 0 (take l.i l.calls) (take l.i l.fn.replies) l.fn.area;
      rows_so_far : l.rows ≡ memory_then (length l.fn.area) (length l.fn.rows) l.texts blank_call (take l.i l.calls) (take l.i l.fn.replies) l.fn.rows;
    }
