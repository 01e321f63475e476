-- Tests of texts that are held in a list, in the library's words. Assumes nothing.
use Rattle.std.proofs.Common.{◌≡◌, ℕ, Bool, ◌&&◌, ◌||◌, List, map, refl}
use Rattle.std.specs.List.{list_all, list_any}
use Rattle.std.proofs.lemmas.List.Recursion.{same_from_clauses}
use Rattle.texts.specs.Held.{bytes_of}
use Rattle.texts.specs.Parts.{every}
use Rattle.texts.specs.Texts.{Text}
use Rattle.texts.specs.declared.text.Text as held
use Rattle.tree.specs.Acceptances.{ends_in, ends_in_one}

pub every_held : {N : ℕ} (f : Text → Bool) (rows : List (held.Text N)) → list_all (λ r. f (bytes_of r)) rows ≡ every f (map bytes_of rows)
every_held f rows = same_from_clauses (list_all (λ r. f (bytes_of r))) (λ rs. every f (map bytes_of rs)) (λ r b. f (bytes_of r) && b) refl (λ _ _. refl) (λ _ _. refl) rows

pub ends_in_one_held : {N : ℕ} (path : Text) (rows : List (held.Text N)) → list_any (λ r. ends_in (bytes_of r) path) rows ≡ ends_in_one (map bytes_of rows) path
ends_in_one_held path rows = same_from_clauses (list_any (λ r. ends_in (bytes_of r) path)) (λ rs. ends_in_one (map bytes_of rs) path) (λ r b. ends_in (bytes_of r) path || b) refl (λ _ _. refl) (λ _ _. refl) rows
