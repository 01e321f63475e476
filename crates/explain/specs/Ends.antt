-- What a lookup ends in, in texts, and the sentences of the resolver. Assumes nothing.
use Rattle.std.specs.Prelude.{ℕ, ◌==◌, cond, List, [], ◌∷◌, ◌++◌, take, Ok, Err, Some, None, Option, Result, codes, decimal}
use Rattle.std.specs.Option.{option_map}
use Rattle.texts.specs.Texts.{Text}
use Rattle.lookup.specs.declared.resolution.Found.{Found}
use Rattle.lookup.specs.declared.resolution.Refused.{Refused}
use Rattle.lookup.specs.Faults.{number, texts}
use Rattle.lookup.specs.Outcomes.{Outcome, path, refused}
use Rattle.lookup.specs.Resolutions.{error_number}
use Rattle.resolver.specs.Runs.{Buffers}
use Rattle.explain.specs.declared.ending.LookupEnd.{LookupEnd}
use Rattle.explain.specs.Legible.{legible, phrase}
use Rattle.explain.specs.Told.{piece_words}

-- a path with its query and fragment, or the number of a refusal with its texts; and the rounds run
pub data End : Type 0 where
  in_path : Text → Option Text → Option Text → ℕ → End
  in_refusal : ℕ → Option Text → Option Text → ℕ → End

-- the end that the definition of a lookup gives
abbrev pub end_of : Outcome → End
end_of (path p q f n) = in_path p q f n
end_of (refused f n) = in_refusal (number f) (texts f).0 (texts f).1 n

-- the text at the front of a buffer, by its length, if it has one
abbrev pub front_text : Option ℕ → List ℕ → Option Text
front_text len buffer = option_map (λ n. take n buffer) len

-- the end that an answer tells with its buffers
abbrev pub told_end : Result Found Refused → ℕ → Buffers → End
told_end (Ok f) rounds b = in_path (take f.path b.0) (front_text f.query b.1.0) (front_text f.fragment b.1.1) rounds
told_end (Err e) rounds b = in_refusal (error_number e.error) (front_text e.first b.0) (front_text e.second b.1.0) rounds

abbrev pub end_in : LookupEnd → End
end_in e = told_end e.resolution.outcome e.resolution.rounds (e.first, (e.second, e.third))

-- a text with the word in front of it, if there is one
abbrev pub named_words : Text → Option Text → Text
named_words word None = []
named_words word (Some t) = word ++ legible t

-- the rounds run
abbrev pub rounds_words : ℕ → Text
rounds_words n = cond (n == 1) (codes ", after 1 round") (phrase (codes ", after " ∷ decimal n ∷ codes " rounds" ∷ []))

-- the sentence on the end of a lookup
abbrev pub end_sentence : End → Text
end_sentence (in_path p query fragment rounds) =
    phrase (codes "  The lookup ends in " ∷ legible p ∷ piece_words (codes "query") query ∷ piece_words (codes "fragment") fragment ∷ rounds_words rounds ∷ [])
end_sentence (in_refusal number first second rounds) =
    phrase (codes "  The lookup is refused with " ∷ decimal number ∷ named_words (codes " on ") first ∷ named_words (codes " and ") second ∷ rounds_words rounds ∷ [])

-- the sentence on a line that makes the resolver forget
abbrev pub forgot_sentence : ℕ → Text
forgot_sentence line = phrase (codes "Line " ∷ decimal line ∷ codes " makes the resolver forget what it held to answer faster" ∷ [])

-- the sentence on the paths handed out
abbrev pub tally_sentence : ℕ → Text
tally_sentence paths = codes "The tally of paths handed out is " ++ decimal paths
