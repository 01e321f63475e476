use Rattle.std.proofs.Common.{None, Ok, sym}
use Rattle.std.proofs.Math.Path.{transport}
use Rattle.lookup.specs.declared.calls.Move.TheVariants.{Stay}
use Rattle.lookup.specs.Turns.{Moved, marked_row}
use Rattle.lookup.proofs.TurnMoves.{put_back_moves}
use Rattle.lookup.proofs.calls.turn.put_back.Goals as goal

pub returns : goal.returns
returns c = record {
  one_move_of_the_call = λ m allowed t limit w few.
      transport (λ k. Moved m allowed t limit w (marked_row c.args.asked c.args.fragment) (Ok None) c.args.context (Stay (sym c.labelled-row.ensures.call_at_its_labels k)) w (sym c.with_fragment.ensures.fragment_alone_changes k))
      (put_back_moves m allowed t limit w c.args.asked c.args.fragment c.args.context c.new.result c.new.ensures.every_attempt_is_left c.requires.placed c.requires.begun c.requires.sound few);
}
