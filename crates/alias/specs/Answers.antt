-- What the code answers for a rewritten request, and what it asks of the tree. Assumes nothing.
use Rattle.std.specs.Prelude.{◌≡◌, ℕ, Bool, true, false, cond, not, ◌&&◌, List, length, take, Ok, Err, Result, Some, None, Option, nat_le}
use Rattle.texts.specs.Texts.{Text, empty}
use Rattle.tree.specs.Meanings.{Question}
use Rattle.alias.specs.declared.rewrite.NewRequest.{NewRequest}
use Rattle.alias.specs.declared.rewrite.NewRequest.TheVariants.{Value, Made}
use Rattle.alias.specs.declared.rewrite.TooLong.{TooLong}
use Rattle.alias.specs.Forms.{Form, behind, exact, form, plain, wildcard}
use Rattle.alias.specs.Rewrites.{Rewritten, as_written, made, returns_to, skipped, too_long}

-- the text that is made
abbrev pub text_made : Rewritten → Option Text
text_made skipped = None
text_made as_written = None
text_made (made t) = Some t
text_made too_long = None

-- the answer, with n bytes of room for a text that is made
abbrev pub told : Rewritten → ℕ → Result (Option NewRequest) TooLong
told skipped n = Ok None
told as_written n = Ok (Some Value)
told (made t) n = cond (nat_le (length t) n) (Ok (Some (Made (length t)))) (Err (record {}))
told too_long n = Err (record {})

-- the new request, if there is one
abbrev pub new_request : Text → Rewritten → Option Text
new_request value skipped = None
new_request value as_written = Some value
new_request value (made t) = Some t
new_request value too_long = None

-- the text of a new request: the value, or a text that was made, which stands at the front of the work text
abbrev pub request_text : NewRequest → Text → List ℕ → Text
request_text Value value work = value
request_text (Made n) value work = take n work

-- the new request of an answer, if it has one
abbrev pub held_request : Result (Option NewRequest) TooLong → Text → List ℕ → Option Text
held_request (Ok None) value work = None
held_request (Ok (Some new)) value work = Some (request_text new value work)
held_request (Err e) value work = None

-- what is behind a plain label asks for the value's kind unless it is nothing
abbrev pub tail_asks : Option Text → Bool
tail_asks None = false
tail_asks (Some tail) = not (empty tail)

abbrev pub form_asks : Form → Text → Bool
form_asks (exact k) r = false
form_asks (wildcard prefix suffix) r = false
form_asks (plain k) r = tail_asks (behind k r)

-- the tree is asked for the kind of the normalized value
abbrev pub asks : Text → Text → Text → Bool
asks l v r = not (returns_to v r) && form_asks (form l) r

-- a state after one question, or as it was
abbrev pub AskedIf : {S : Type 0} → (S → Question → S → Type 0) → Bool → Question → S → S → Type 0
AskedIf steps true q s t = steps s q t
AskedIf steps false q s t = t ≡ s
