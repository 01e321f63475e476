use Rattle.std.proofs.Common.{◌≡◌, ◌+◌, ◌≤◌, ◌++◌, length, leb, true, sym, ◌∙◌, arith}
use Rattle.std.proofs.lemmas.Bool.{leb-true}
use Rattle.std.proofs.lemmas.List.{length-append}
use Rattle.texts.specs.Texts.{Text}
use Rattle.candidates.proofs.Writing.{begun, goes_on, written_so}
use Rattle.candidates.proofs.forming.Stem.form.Goals as goal

pub returns-clause-only_its_text_is_written : goal.returns-clause-only_its_text_is_written
returns-clause-only_its_text_is_written c =
    let first = c.args.out.now in
    let path = c.args.self.path.now in
    let slash = c.args.self.slash.now in
    let name = c.args.self.name.now in
    let extension = c.args.extension.now in
    let room = c.requires.room_for_a_text in
    let fits : leb (length (((path ++ slash) ++ name) ++ extension)) 255 ≡ true = sym c.if-not-fits.ensures.at_most_255_bytes in
    let short = leb-true (length (((path ++ slash) ++ name) ++ extension)) 255 fits in
    let slashed_length = length-append path slash in
    let named_length = length-append (path ++ slash) name in
    let extended_length = length-append ((path ++ slash) ++ name) extension in
    let one = begun first path c.unwrap-len.result c.copy_text.new.out (omega (arith, room, short, slashed_length, named_length, extended_length)) (sym c.unwrap-len.ensures ∙ c.copy_text.ensures.length_if_it_fits) c.copy_text.ensures.bytes_beyond_stay in
    let two = goes_on first path c.unwrap-len.result c.copy_text.new.out one slash c.unwrap-len-2.result c.append_text.new.out (omega (arith, room, short, slashed_length, named_length, extended_length)) (sym c.unwrap-len-2.ensures ∙ c.append_text.ensures.length_if_it_fits) c.append_text.ensures.bytes_beyond_stay in
    let three = goes_on first (path ++ slash) c.unwrap-len-2.result c.append_text.new.out two name c.unwrap-len-3.result c.append_text-2.new.out (omega (arith, room, short, slashed_length, named_length, extended_length)) (sym c.unwrap-len-3.ensures ∙ c.append_text-2.ensures.length_if_it_fits) c.append_text-2.ensures.bytes_beyond_stay in
    let four = goes_on first ((path ++ slash) ++ name) c.unwrap-len-3.result c.append_text-2.new.out three extension c.unwrap-len-4.result c.append_text-3.new.out (omega (arith, room, short, slashed_length, named_length, extended_length)) (sym c.unwrap-len-4.ensures ∙ c.append_text-3.ensures.length_if_it_fits) c.append_text-3.ensures.bytes_beyond_stay in
    written_so first (((path ++ slash) ++ name) ++ extension) c.unwrap-len-4.result c.append_text-3.new.out four
