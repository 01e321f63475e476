-- Worked examples of labels: which requests they touch, and what is tried. Assumes nothing.
use Rattle.std.specs.Prelude.{◌≡◌, Bool, true, false, cond, List, [], ◌∷◌, codes}
use Rattle.std.specs.List.{AllByRecursion}
use Rattle.texts.specs.Texts.{Text}
use Rattle.texts.specs.Parts.{parts, same_parts}
use Rattle.tree.specs.declared.answers.Kind.TheVariants.{Nothing, File}
use Rattle.tree.specs.Meanings.{Meaning, missing, unnoted}
use Rattle.settings.specs.Tables.{Alias, Value, ignore, labelled, to}
use Rattle.alias.specs.Attempts.{Attempt, again, attempts, ignored, unmatched}
use Rattle.alias.specs.Forms.{touches}

-- labels, each with a request and whether it is touched
abbrev pub touchings : List (Text × Text × Bool)
touchings =
    (codes "policy", codes "policy/late", true)
    ∷ (codes "policy", codes "policy", true)
    ∷ (codes "policy", codes "policy\\late", true)
    ∷ (codes "print", codes "printer", false)
    ∷ (codes "print", codes "print.js", false)
    ∷ (codes "ui", codes "ui/b", true)
    ∷ (codes "ui", codes "uix", false)
    ∷ (codes "ui", codes "u", false)
    ∷ (codes "ui$", codes "ui", true)
    ∷ (codes "ui$", codes "ui/b", false)
    ∷ (codes "ui$", codes "ui$", false)
    ∷ (codes "u*$", codes "u*", true)
    ∷ (codes "u*$", codes "ui", false)
    ∷ (codes "@ui*", codes "@x", true)
    ∷ (codes "@ui*", codes "x", false)
    ∷ (codes "*", codes "x", true)
    ∷ []

-- a tree with one file
abbrev pub only : Text → Meaning
only file = record {
  kind = λ p. cond (same_parts p (parts file)) File Nothing;
  manifest = λ p. unnoted;
  lookup = λ w request dir. missing;
}

-- the values that a label is given
abbrev pub texts : List Text → List Value
texts [] = []
texts (t ∷ ts) = to t ∷ texts ts

-- labels, a request from `/lib`, and what is tried; the one file is `/f`
abbrev pub tryings : List (List Alias × Text × List Attempt)
tryings =
    (labelled (codes "ui") (texts (codes "/lib/ui" ∷ [])) ∷ [], codes "ui/b", again (codes "/lib/ui/b") ∷ unmatched (codes "ui/b") (codes "ui") ∷ [])
    ∷ (labelled (codes "ui") (texts (codes "/lib/ui" ∷ [])) ∷ [], codes "uix", [])
    ∷ (labelled (codes "ui") (texts (codes "/lib/ui" ∷ [])) ∷ [], codes "ui", again (codes "/lib/ui") ∷ unmatched (codes "ui") (codes "ui") ∷ [])
    ∷ (labelled (codes "one") (texts (codes "two" ∷ [])) ∷ labelled (codes "two") (texts (codes "one" ∷ [])) ∷ [], codes "one", again (codes "two") ∷ unmatched (codes "one") (codes "one") ∷ [])
    ∷ (labelled (codes "ui") (texts (codes "/v" ∷ codes "/w" ∷ [])) ∷ [], codes "ui//b/", again (codes "/v/b") ∷ again (codes "/w/b") ∷ unmatched (codes "ui//b/") (codes "ui") ∷ [])
    ∷ (labelled (codes "ui") (to (codes "/v") ∷ ignore ∷ to (codes "/w") ∷ []) ∷ [], codes "ui\\b", again (codes "/v/b") ∷ ignored (codes "/lib/ui") ∷ [])
    ∷ (labelled (codes "ui") (texts (codes "/f" ∷ codes "/v" ∷ [])) ∷ [], codes "ui/b", again (codes "/v/b") ∷ unmatched (codes "ui/b") (codes "ui") ∷ [])
    ∷ (labelled (codes "ui") (texts (codes "/f" ∷ [])) ∷ [], codes "ui/b", [])
    ∷ (labelled (codes "ui") (texts (codes "/f" ∷ [])) ∷ [], codes "ui", again (codes "/f") ∷ unmatched (codes "ui") (codes "ui") ∷ [])
    ∷ (labelled (codes "ui") (texts (codes "ui/x" ∷ [])) ∷ labelled (codes "ui/x/y") (texts (codes "/z" ∷ [])) ∷ [], codes "ui/x/y", again (codes "/z") ∷ unmatched (codes "ui/x/y") (codes "ui/x/y") ∷ [])
    ∷ (labelled (codes "*") (texts (codes "b" ∷ [])) ∷ [], codes "b/a", [])
    ∷ (labelled (codes "ui") (texts (codes "./dir" ∷ [])) ∷ [], codes "ui/b", again (codes "dir/b") ∷ unmatched (codes "ui/b") (codes "ui") ∷ [])
    ∷ (labelled (codes "ui") (texts (codes "." ∷ [])) ∷ [], codes "ui/.", again [] ∷ unmatched (codes "ui/.") (codes "ui") ∷ [])
    ∷ (labelled (codes "a$") (texts (codes "/v" ∷ [])) ∷ [], codes "a", again (codes "/v") ∷ unmatched (codes "a") (codes "a") ∷ [])
    ∷ (labelled (codes "a$") (ignore ∷ []) ∷ [], codes "a", ignored (codes "/lib/a") ∷ [])
    ∷ (labelled (codes "@ui*") (ignore ∷ []) ∷ [], codes "@x", ignored (codes "/lib/@ui*") ∷ [])
    ∷ (labelled (codes "//x/..") (ignore ∷ []) ∷ [], codes "//x/..", ignored (codes "//x/..") ∷ [])
    ∷ (labelled (codes "a*a") (texts (codes "/x/*x" ∷ [])) ∷ [], codes "aa", again (codes "/x/x") ∷ unmatched (codes "aa") (codes "a*a") ∷ [])
    ∷ (labelled (codes "a*a") (texts (codes "/x/*x" ∷ [])) ∷ [], codes "a", [])
    ∷ (labelled (codes "@/*") (texts (codes "./src/*/*" ∷ codes "/none" ∷ [])) ∷ [], codes "@/b", again (codes "./src/b/*") ∷ again (codes "/none") ∷ unmatched (codes "@/b") (codes "@/*") ∷ [])
    ∷ []

-- each label touches so, and from each table this is tried
pub record WorkedExamples : Type 0 where
  pub touched_so : AllByRecursion (λ x. touches x.0 x.1 ≡ x.2) touchings
  pub tried_so : AllByRecursion (λ x. attempts (only (codes "/f")) (codes "/lib") x.1 x.0 ≡ x.2) tryings
