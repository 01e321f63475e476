use Rattle.std.proofs.Common.{◌≡◌, ◌+◌, drop}
use Rattle.specifier.specs.Requests.{until_hash}
use Rattle.specifier.proofs.scan.until_hash.Given as goal

abbrev pub invariant-loop-i : goal.invariant-loop-i
invariant-loop-i l = l.i + until_hash l.prev (drop l.i l.text) ≡ until_hash l.before l.text
