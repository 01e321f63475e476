-- What a host says of a request that was read. Assumes nothing.
use Rattle.std.specs.Prelude.{Some, None, Option}
use Rattle.texts.specs.Held.{bytes_of}
use Rattle.texts.specs.Parts.{parts}
use Rattle.texts.specs.Texts.{Text}
use Rattle.tree.specs.declared.answers.Kind.{Kind}
use Rattle.tree.specs.declared.answers.Way.TheVariants as way
use Rattle.tree.specs.Meanings.{Finding, Meaning, faulty, found, missing}
use Rattle.specifier.specs.declared.branch.Branch.{Branch}
use Rattle.specifier.specs.declared.branch.Branch.TheVariants as branch
use Rattle.explain.specs.declared.answer.Answer.{Answer}
use Rattle.explain.specs.declared.answer.Answer.TheVariants as answer

-- the kind of the path that is looked for, no such path, or what the lookup finds
pub data Heard : Type 0 where
  kind_is : Kind → Heard
  no_path : Heard
  found_by : Finding → Heard

-- what an answer says
abbrev pub heard : Answer → Heard
heard (answer.Kind k) = kind_is k
heard answer.NoPath = no_path
heard (answer.Found t) = found_by (found (bytes_of t))
heard answer.Missing = found_by missing
heard answer.Broken = found_by faulty

-- the kind of a path, if there is one
abbrev pub kind_of_path : Meaning → Option Text → Heard
kind_of_path m None = no_path
kind_of_path m (Some t) = kind_is (m.kind (parts t))

-- absolute and relative requests ask for a kind; a package or a hash is looked up by the request's path, from the directory
abbrev pub answer_of : Meaning → Text → Branch → Text → Option Text → Heard
answer_of m directory branch.Absolute path sought = kind_of_path m sought
answer_of m directory branch.Relative path sought = kind_of_path m sought
answer_of m directory branch.Hash path sought = found_by (m.lookup way.Hash path (parts directory))
answer_of m directory branch.Package path sought = found_by (m.lookup way.Package path (parts directory))
