use Rattle.std.proofs.Common.{sym, arith}
use Rattle.texts.proofs.ByteLoops.{ends_at}
use Rattle.texts.proofs.bytes.ends_in.Goals as goal

pub returns-in-len1-up : goal.returns-in-len1-up
returns-in-len1-up c = record { byte_at_the_end = sym (ends_at c.args.byte c.args.text.now (omega arith)) }
