use Rattle.std.proofs.Common.{◌≡◌, ◌+◌, ◌*◌, ◌-◌, ◌++◌, length, take, ap, ◌∙◌, arith}
use Rattle.std.proofs.lemmas.Slice.{take-put_mid}
use Rattle.lines.proofs.Written.{none_written, room_more, columns_more, all_written}
use Rattle.lines.proofs.columns.write_columns.Goals as goal

pub returns-in_err-a : goal.returns-in_err-a
returns-in_err-a g c = record { writes_the_columns = c.from_residual.ensures ∙ none_written c.args.numbers.now c.loop-i.i c.loop-i-test.true c.loop-i.invariant.room c.in_err-a.ensures.writes_the_column }

pub loop-i-preserved : goal.loop-i-preserved
loop-i-preserved g c =
    let ns = c.args.numbers.now in
    let i = c.loop-i.i in
    let made = c.in_ok-a.ensures.writes_the_column in
    let there = c.copy_from_slice.ensures.after in
    let bytes = c.copy_from_slice.new.self in
    let long : 4 * (i + 1) ≡ 4 * i + length bytes = omega (arith, ap length there) in
    let four : take (4 * (i + 1)) _ ≡ take (4 * i) c.loop-i.cells ++ bytes =
    take-put_mid (4 * i) (4 * i + 4 - 4 * i) c.loop-i.cells bytes (4 * (i + 1)) long (omega arith) in
    record {
      so_far = columns_more ns i c.loop-i-test.true _ _ _ _ c.loop-i.invariant.so_far made four there;
      room = room_more ns i c.loop-i-test.true _ made c.loop-i.invariant.room;
    }

pub returns : goal.returns
returns g c =
    record {
      writes_the_columns =
          all_written c.args.numbers.now c.loop-i.cells c.loop-i.i g.row.LEN (omega arith) c.requires.four_bytes_each c.loop-i-test.false c.loop-i.invariant.room c.loop-i.invariant.so_far;
    }
