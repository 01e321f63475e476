-- What the code answers for a candidate. Assumes nothing.
use Rattle.std.specs.Prelude.{ℕ, List, ◌++◌, take, Some, None, Option, Ok, Err, Result}
use Rattle.texts.specs.Texts.{Text}
use Rattle.candidates.specs.declared.forming.Fault.{Fault}
use Rattle.candidates.specs.declared.forming.Stem.{Stem}
use Rattle.candidates.specs.declared.forming.Fault.TheVariants.{BrokenManifest, TooLong}
use Rattle.candidates.specs.Candidates.{Candidate, broken_at, overlong, try}

-- why nothing more of a path is tried
abbrev pub faulted : Text → Fault → Candidate
faulted p BrokenManifest = broken_at p
faulted p TooLong = overlong

-- what an answer says of a path, with the text in front of the buffer
abbrev pub said : Text → List ℕ → Result ℕ Fault → Candidate
said p out (Ok n) = try (take n out)
said p out (Err f) = faulted p f

-- the text that an extension goes behind
abbrev pub stem_text : Stem → Text
stem_text s = (s.path.now ++ s.slash.now) ++ s.name.now

-- how long the text is that was written
abbrev pub written_length : Option (Result ℕ Fault) → ℕ
written_length None = 0
written_length (Some (Ok n)) = n
written_length (Some (Err f)) = 0
