use Rattle.std.proofs.Common.{◌≡◌, true, sym, ◌∙◌}
use Rattle.std.specs.Str.{bytes_eq}
use Rattle.std.proofs.lemmas.Bool.{cond-false, cond-true}
use Rattle.texts.specs.Parts.{clean, clean_pieces, pieces, root}
use Rattle.texts.proofs.CleanPaths.{clean_written}
use Rattle.texts.proofs.path.is_clean.Goals as goal

pub returns-then-same_bytes : goal.returns-then-same_bytes
unfolding clean
returns-then-same_bytes c =
    let t = c.args.text.now in
    let is : c.same_bytes.result ≡ clean t = c.if-same_bytes.true ∙ sym (cond-true (bytes_eq t root) true (clean_pieces (pieces t)) (sym c.if-same_bytes.ensures.byte_for_byte)) in
    record { clean_by_its_pieces = is; parts_give_the_path_back = λ e. clean_written t (sym is ∙ e) }

pub returns-else-same_bytes : goal.returns-else-same_bytes
unfolding clean
returns-else-same_bytes c =
    let t = c.args.text.now in
    let is : c.is_rooted.result ≡ clean t = c.is_rooted.ensures.names_behind_a_leading_slash ∙ sym (cond-false (bytes_eq t root) true (clean_pieces (pieces t)) (sym c.if-same_bytes.ensures.byte_for_byte)) in
    record { clean_by_its_pieces = is; parts_give_the_path_back = λ e. clean_written t (sym is ∙ e) }
