-- A row in which no call stands. Assumes nothing.
use Rattle.lookup.specs.declared.calls.OpenCall.{OpenCall}
use Rattle.lookup.specs.declared.calls.Stage.TheVariants as stage

abbrev pub blank_call : OpenCall
blank_call = record { asked = record { round = 0; directory = record { start = 0; len = 0 }; text = record { start = 0; len = 0 } }; stage = stage.Require }
