use Rattle.std.proofs.Common.{arith}
use Rattle.texts.proofs.Buffers.{appended_in, appended_out}
use Rattle.texts.proofs.bytes.append_text.Goals as goal

pub returns-then-out-len : goal.returns-then-out-len
returns-then-out-len c =
    let g = appended_out c.args.len c.args.out.now c.args.more.now (omega arith) (omega arith) in
    record { length_if_it_fits = g.0; bytes_beyond_stay = g.1 }

pub returns : goal.returns
returns c =
    let g = appended_in c.args.len c.args.out.now c.args.more.now c.copy_from_slice.new.self (omega arith) c.copy_from_slice.ensures.after in
    record { length_if_it_fits = g.0; bytes_beyond_stay = g.1 }
