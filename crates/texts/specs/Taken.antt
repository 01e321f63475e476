-- What a call answers that takes something unless there is a refusal. Assumes nothing.
use Rattle.std.specs.Prelude.{Some, None, Option, Ok, Err, Result}

-- nothing to tell, or the refusal
abbrev pub taken_unless : {R : Type 0} → Option R → Result Unit R
taken_unless None = Ok tt
taken_unless (Some r) = Err r
