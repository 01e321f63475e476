-- All that is told of a sheet, as one text. Assumes nothing.
use Rattle.std.specs.Prelude.{◌≡◌, ℕ, ◌+◌, min, Bool, true, false, cond, List, [], ◌∷◌, ◌++◌, IfSome, take, drop, length, map, nat_le, is_some, Some, None, Option, Ok, Err, Result, codes}
use Rattle.std.specs.List.{flat_map}
use Rattle.std.specs.Io.KnownBytes.{Appends}
use Rattle.lines.specs.Sheets.{LINE_END, behind_line, line_of}
use Rattle.texts.specs.Parts.{parts}
use Rattle.texts.specs.Texts.{Text, empty}
use Rattle.specifier.specs.Accepted.{askable, startable}
use Rattle.specifier.specs.Sought.{sought_path}
use Rattle.tree.specs.Acceptances.{Allowed}
use Rattle.tree.specs.Meanings.{Meaning}
use Rattle.listing.specs.Meanings.{listed}
use Rattle.settings.specs.Tables.{Alias, Tables, unset}
use Rattle.alias.specs.Attempts.{Attempt, again, attempts, ignored, overlong, unmatched}
use Rattle.alias.specs.Left.{label_of}
use Rattle.candidates.specs.Candidates.{asks_for_directory, candidates}
use Rattle.lookup.specs.Outcomes.{Room, answer, refusal}
use Rattle.sheets.specs.Rows.{lent}
use Rattle.resolver.specs.Runs.{ceiling}
use Rattle.explain.specs.declared.cause.Cause.TheVariants as cause
use Rattle.explain.specs.declared.refusal.Refusal.{Refusal}
use Rattle.explain.specs.Answers.{answer_of}
use Rattle.explain.specs.Causes.{refused_sentence}
use Rattle.explain.specs.Ends.{End, end_of, end_sentence, forgot_sentence, in_path, in_refusal, tally_sentence}
use Rattle.explain.specs.Filling.{Front, Noted, filled_by}
use Rattle.explain.specs.SheetLines.{next_line}
use Rattle.explain.specs.Labels.{passed_over, touching_words, undecided_lines}
use Rattle.explain.specs.Legible.{legible, phrase}
use Rattle.explain.specs.Offers.{candidate_lines, judged}
use Rattle.explain.specs.Questions.{Asked, Ordered, ask, blamed, forget, order_of}
use Rattle.explain.specs.Quiet.{QuietQuestion, quiet_outcome, quiet_sentence}
use Rattle.explain.specs.Readings.{Meaning as Read, fragment_first, meant, within}
use Rattle.explain.specs.Told.{told}
use Rattle.explain.specs.Trials.{deciding}

-- a writer holds a text more than before, of which this is so; where its bytes are not known, nothing is said of them
abbrev pub Written : Option Text → Option Text → (Text → Type 0) → Type 0
Written old new Says = (more : Text) × (Appends old new more × Says more)

-- an attempt, as the first one of a label or behind others
abbrev pub attempt_words : Bool → Attempt → Text
attempt_words first (again t) = cond first (codes ": tried is ") (codes ", then ") ++ legible t
attempt_words first (ignored t) = cond first (codes ": ignored with 24 is ") (codes ", then ignored with 24 is ") ++ legible t
attempt_words first (unmatched r k) = codes ", and where none is found it is refused with 23"
attempt_words first overlong = cond first (codes ": ") (codes ", then ") ++ codes "refused with 28, since a text passes 255 bytes"

abbrev pub attempts_words : List Attempt → Text
attempts_words [] = []
attempts_words (a ∷ more) = attempt_words true a ++ flat_map (attempt_words false) more

-- the lines on the labels, with the place of the one of which something is tried
abbrev pub attempts_lines : List Alias → Text → Option ℕ → List Attempt → Text
attempts_lines aliases request None tries = undecided_lines aliases request
attempts_lines aliases request (Some place) tries =
    phrase (flat_map (passed_over request) (take place aliases) ∷ touching_words request (label_of (drop place aliases)) ∷ attempts_words tries ∷ (LINE_END ∷ []) ∷ [])

module _ (m : Meaning) (allowed : Allowed) (t : Tables) (dir : Text) where
  -- the lines on the candidates of a path, if there is one
  abbrev pub offered_lines : Text → Option Text → Text
  offered_lines r None = []
  offered_lines r (Some p) = candidate_lines true (map (judged m allowed t.restrictions) (candidates t t.fully_specified m (asks_for_directory r) p))

  -- what the labels make of a text that is looked up, and the candidates of its path
  abbrev pub looked_up : Text → Text
  looked_up r = attempts_lines t.aliases r (deciding m dir r t.aliases) (attempts m dir r t.aliases) ++ offered_lines r (within (sought_path dir r))

  -- the same, if there is such a text
  abbrev pub looked_up_first : Option Text → Text
  looked_up_first None = []
  looked_up_first (Some r) = looked_up r

-- what is said of a quiet question: where it ends, if it is one
abbrev pub quiet_lines : Option (Option Text) → Text
quiet_lines None = []
quiet_lines (Some p) = quiet_sentence p ++ LINE_END ∷ []

module _ (m : Meaning) (allowed : Allowed) (t : Tables) where
  -- the end of a quiet question, and of no other: every call that is accepted answers so
  pub record QuietEnds (dir r : Text) (end : Option (Option Text)) : Type 0 where
    pub only_if_quiet : is_some end ≡ true → QuietQuestion m t dir r
    pub if_quiet_and_accepted : startable dir ≡ true → askable r ≡ true → QuietQuestion m t dir r → is_some end ≡ true
    pub answers_so : IfSome end (λ p. (room : Room) → refusal room dir r ≡ None → answer m allowed t room dir r ≡ quiet_outcome r p)

  -- a text is what is said of a quiet question
  abbrev pub QuietTold : Text → Text → Text → Type 0
  QuietTold dir r s = (end : Option (Option Text)) × (QuietEnds dir r end × (s ≡ quiet_lines end))

  -- a text is all that is told of a question of a line: why it is refused; or how it is read with what the host says, what is looked up for it, and where it ends if it is quiet
  abbrev pub TellsRead : ℕ → Asked → Result Read Refusal → Text → Type 0
  TellsRead line q (Err e) s = s ≡ refused_sentence line (cause.Question e) (blamed e q) ++ LINE_END ∷ []
  TellsRead line q (Ok read) s =
      (quiet : Text)
      × (QuietTold q.directory q.request quiet
      × (s
      ≡ phrase
      (told line q.directory q.request read (answer_of m q.directory read.way read.path read.sought)
      ∷ (LINE_END ∷ [])
      ∷ looked_up_first m allowed t q.directory (within (fragment_first read))
      ∷ looked_up m allowed t q.directory read.path
      ∷ quiet
      ∷ [])))

  abbrev pub Tells : ℕ → Asked → Text → Type 0
  Tells line q s = TellsRead line q (meant q.directory q.request) s

-- how many paths an end hands out
abbrev pub paths_of : End → ℕ
paths_of (in_path p q f n) = 1
paths_of (in_refusal k a b n) = 0

-- a host, a policy and settings that questions are explained by, and those of the resolver that looks them up
module _ (m n : Meaning) (allowed policy : Allowed) (t u : Tables) where
  -- where a lookup of the resolver ends
  abbrev pub end_at : Asked → End
  end_at q = end_of (answer n policy u lent q.directory q.request)

  -- a text is all that is told of a line behind the front: of its question with what its lookup ends in, that the resolver forgets, or why the line is refused; and so many paths were handed out before and then
  abbrev pub TellsOrder : ℕ → Text → Result Ordered Refusal → ℕ → ℕ → Text → Type 0
  TellsOrder number line (Err e) before after s = (after ≡ before) × (s ≡ refused_sentence number (cause.Question e) line ++ LINE_END ∷ [])
  TellsOrder number line (Ok forget) before after s = (after ≡ before) × (s ≡ forgot_sentence number ++ LINE_END ∷ [])
  TellsOrder number line (Ok (ask q)) before after s =
      (after ≡ min (before + paths_of (end_at q)) ceiling)
      × ((first : Text) × (Tells m allowed t number q first × (s ≡ phrase (first ∷ end_sentence (end_at q) ∷ (LINE_END ∷ []) ∷ []))))

  abbrev pub TellsLine : ℕ → Text → ℕ → ℕ → Text → Type 0
  TellsLine number line before after s = TellsOrder number line (order_of line) before after s

  -- a text is what is told of lines in their order, where so many came before, from one rest of a sheet to another
  pub data TellsLines : ℕ → Text → ℕ → ℕ → Text → ℕ → Text → Type 0 where
    none_yet : {k : ℕ} {rest : Text} {count : ℕ} → TellsLines k rest count k rest count []
    one_more :
        {k : ℕ} {rest : Text} {count j : ℕ} {left : Text} {now after : ℕ} {s : Text} (x : Text)
        → TellsLines k rest count j left now s → empty left ≡ false → TellsLine (next_line j) (line_of left) now after x → TellsLines k rest count (next_line j) (behind_line left) after (s ++ x)

  -- a text is what is told of all lines that are left of a sheet, where so many came before; and so many paths were handed out then
  abbrev pub TellsRest : ℕ → Text → ℕ → ℕ → Text → Type 0
  TellsRest k rest count after s = (j : ℕ) × ((left : Text) × (TellsLines k rest count j left after s × (empty left ≡ true)))

-- the line on a line of the front that is refused
abbrev pub refused_line : Noted → Text
refused_line n = refused_sentence n.line n.why n.text ++ LINE_END ∷ []

-- a path of at most 255 parts may be handed out
abbrev pub few_parts : Allowed
few_parts path = nat_le (length (parts path)) 255

-- a text is all that is told of a sheet with this front: the lines that are refused there, those behind it in their order, and how many paths were handed out
abbrev pub TellsFront : Front → Text → Type 0
TellsFront f s =
    (lines : Text)
    × ((count : ℕ)
    × (TellsRest (listed f.rows) (listed f.rows) few_parts few_parts f.tables f.tables f.lines f.rest 0 count lines
    × (s ≡ phrase (flat_map refused_line f.refused ∷ lines ∷ tally_sentence count ∷ (LINE_END ∷ []) ∷ []))))

abbrev pub TellsSheet : Text → Text → Type 0
TellsSheet sheet s = TellsFront (filled_by [] unset sheet) s
