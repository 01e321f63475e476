use Rattle.std.proofs.Common.{sym, ap, subst}
use Rattle.std.specs.Option.{option_map}
use Rattle.texts.specs.Parts.{text_at}
use Rattle.lookup.specs.declared.calls.OpenCall.{OpenCall}
use Rattle.lookup.specs.declared.calls.Move.TheVariants.{Stay}
use Rattle.lookup.specs.Opened.{context_of}
use Rattle.lookup.specs.Turns.{Begins, marks_end}
use Rattle.lookup.proofs.CallSteps.{marks_alone, marks_some}
use Rattle.lookup.proofs.RoundMoves.{path_begins}
use Rattle.lookup.proofs.calls.round.go_on.Goals as goal

pub returns-then-is_some : goal.returns-then-is_some
returns-then-is_some c =
    let w = c.args.work.now in
    let a = c.args.asked in
    let d = context_of w c.args.context in record {
      one_move_of_the_round =
          subst (λ (row : OpenCall). Begins (marks_end w a c.args.context) w a c.args.context (Stay row) w c.args.context) (sym c.labelled.ensures.call_at_its_labels)
          (path_begins a c.args.context c.requires.labelled c.requires.its_round c.new.result c.new.ensures.every_attempt_is_left w
          (λ m allowed t limit. marks_some m allowed t limit (text_at w a.directory) (text_at w a.text) d (text_at w) c.args.context.query d.fragment (sym c.if-is_some.ensures)));
    }

pub returns-in-None : goal.returns-in-None
returns-in-None c =
    let w = c.args.work.now in
    let a = c.args.asked in
    let d = context_of w c.args.context in record {
      one_move_of_the_round =
          subst (λ (row : OpenCall). Begins (marks_end w a c.args.context) w a c.args.context (Stay row) w c.args.context) (sym c.labelled.ensures.call_at_its_labels)
          (path_begins a c.args.context c.requires.labelled c.requires.its_round c.new.result c.new.ensures.every_attempt_is_left w
          (λ m allowed t limit. marks_alone m allowed t limit (text_at w a.directory) (text_at w a.text) d d.query d.fragment (ap (option_map (text_at w)) c.in-None.is)));
    }
