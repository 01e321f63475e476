use Rattle.std.proofs.Common.{◌≡◌, ◌<◌, length}
use Rattle.texts.specs.Hashes.{hashed}
use Rattle.texts.proofs.path.hash.Given as goal

-- The bytes in front gave the number.
abbrev pub invariant-loop-left : goal.invariant-loop-left
invariant-loop-left l = record {
  from_the_bytes_in_front : hashed l.hash l.left ≡ hashed 0 l.text;
  below_128 : l.hash < 128;
}

abbrev pub decreases-loop-left : goal.decreases-loop-left
decreases-loop-left l = length l.left
