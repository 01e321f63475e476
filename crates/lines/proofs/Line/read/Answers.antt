use Rattle.std.proofs.Common.{◌+◌, arith}
use Rattle.lines.proofs.Texts.{three_parts}
use Rattle.lines.proofs.Line.read.Goals as goal

pub returns-clause-nothing_but_head_and_texts : goal.returns-clause-nothing_but_head_and_texts
returns-clause-nothing_but_head_and_texts c = three_parts c.args.line.now 12 (12 + c.in_ok-head.head.first) (omega arith)
