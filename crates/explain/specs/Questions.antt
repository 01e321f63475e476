-- What a line behind the front says: the question that it asks, or that the resolver forgets. Assumes nothing.
use Rattle.std.specs.Prelude.{Bool, false, cond, ◌&&◌, Some, None, Ok, Err, Option, Result, ◌==◌}
use Rattle.std.specs.Result.{result_map_both}
use Rattle.lines.specs.Sheets.{Content, content_of}
use Rattle.texts.specs.Texts.{Text, empty}
use Rattle.explain.specs.declared.question.Order.{Order}
use Rattle.explain.specs.declared.question.Order.TheVariants as order
use Rattle.explain.specs.declared.question.Question.{Question}
use Rattle.explain.specs.declared.refusal.Refusal.{Refusal}
use Rattle.explain.specs.declared.refusal.Refusal.TheVariants.{Line, Directory, Request, Empty, TooLong}

-- a directory and a request
pub record Asked : Type 0 where
  pub directory : Text
  pub request : Text

-- what a line with this content asks: its kind is 40
abbrev pub asked_by : Option Content → Result Asked Refusal
asked_by None = Err Line
asked_by (Some c) = cond (c.kind == 40) (Ok (record { directory = c.first; request = c.second })) (Err Line)

-- what a line asks
abbrev pub question_of : Text → Result Asked Refusal
question_of line = asked_by (content_of line)

-- what a question that was read asks
abbrev pub asked : Question → Asked
asked q = record { directory = q.directory.now; request = q.request.now }

-- a question, or a forget
pub data Ordered : Type 0 where
  ask : Asked → Ordered
  forget : Ordered

-- a line with this content makes the resolver forget: its kind is 41, and it has no texts
abbrev pub forgets : Option Content → Bool
forgets None = false
forgets (Some c) = c.kind == 41 && (empty c.first && empty c.second)

-- what a line says
abbrev pub order_of : Text → Result Ordered Refusal
order_of line = cond (forgets (content_of line)) (Ok forget) (result_map_both ask (λ e. e) (question_of line))

-- what an order that was read says
abbrev pub ordered : Order → Ordered
ordered (order.Ask q) = ask (asked q)
ordered order.Forget = forget

-- the text that a refusal is about
abbrev pub blamed : Refusal → Asked → Text
blamed Directory a = a.directory
blamed Line a = a.request
blamed Request a = a.request
blamed Empty a = a.request
blamed TooLong a = a.request
