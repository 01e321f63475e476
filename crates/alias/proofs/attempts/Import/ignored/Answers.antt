use Rattle.std.proofs.Common.{rules, ◌≡◌, ℕ, List, None, Option, length, sym, ap, ◌∙◌}
use Rattle.texts.specs.Texts.{Text, buffer_with, length_in}
use Rattle.paths.specs.Joins.{joined}
use Rattle.alias.specs.Attempts.{ignoring}
use Rattle.alias.specs.Forms.{key}
use Rattle.alias.proofs.Attempting.{said_overlong}
use Rattle.alias.proofs.Rewriting.{path_held, path_said}
use Rattle.alias.proofs.attempts.Import.ignored.Goals as goal

pub returns-in_err-len-clause-label_joined_to_the_directory : goal.returns-in_err-len-clause-label_joined_to_the_directory
returns-in_err-len-clause-label_joined_to_the_directory c =
    let dir = c.args.self.directory.now in
    let l = c.args.label.now in
    let work = c.args.work.now in
    let refused : None ≡ length_in (joined dir (key l)) (length work) = search rules in
    λ v r. said_overlong v l r c.normalize_with.new.out c.from_residual.result c.from_residual.ensures.0 ∙ ap (λ (n : Option ℕ). path_said n (buffer_with (joined dir (key l)) work)) refused ∙ path_held work c.requires.room_for_a_text dir l
