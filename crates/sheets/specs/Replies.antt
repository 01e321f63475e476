-- The row of a reply, told by its answer and its buffers. Assumes nothing.
use Rattle.std.specs.Prelude.{◌≤◌, ℕ, List, [], ◌∷◌, take, Some, None, Ok, Err, Option, Result}
use Rattle.texts.specs.Texts.{Text}
use Rattle.lookup.specs.declared.resolution.Found.{Found}
use Rattle.lookup.specs.declared.resolution.Refused.{Refused}
use Rattle.lookup.specs.Resolutions.{error_number}
use Rattle.resolver.specs.declared.Answered.{Answered}
use Rattle.resolver.specs.declared.Answered.TheVariants.{Counted, Forgotten, Resolved, Unserved}
use Rattle.resolver.specs.declared.Reply.{Reply}
use Rattle.resolver.specs.Runs.{Buffers}
use Rattle.resolver.specs.Served.{buffers_of}
use Rattle.sheets.specs.Rows.{row}

-- the text of so many bytes at the front of a buffer, if there is one
abbrev pub front : Option ℕ → List ℕ → Text
front None buffer = []
front (Some n) buffer = take n buffer

-- the row of an answer, whose texts stand in three buffers
abbrev pub answer_row : Result Found Refused → ℕ → Buffers → Text
answer_row (Ok f) rounds b = row 0 rounds (take f.path b.0) (front f.query b.1.0) (front f.fragment b.1.1)
answer_row (Err e) rounds b = row (error_number e.error) rounds (front e.first b.0) (front e.second b.1.0) []

-- only what was resolved has a row
abbrev pub answered_row : Answered → Buffers → Text
answered_row Unserved b = []
answered_row (Resolved a) b = answer_row a.outcome a.rounds b
answered_row Forgotten b = []
answered_row (Counted n) b = []

-- the row of a reply
abbrev pub reply_row : Reply → Text
reply_row reply = answered_row reply.answered (buffers_of reply)

-- the rounds of an answer fit their column
abbrev pub FewRounds : Answered → Type 0
FewRounds Unserved = Unit {0}
FewRounds (Resolved a) = a.rounds ≤ 999
FewRounds Forgotten = Unit {0}
FewRounds (Counted n) = Unit {0}

-- and so do those of all replies
abbrev pub AllFew : List Reply → Type 0
AllFew [] = Unit {0}
AllFew (reply ∷ more) = FewRounds reply.answered × AllFew more
