use Rattle.std.proofs.Common.{◌≡◌, length, sym, ap, ◌∙◌, arith}
use Rattle.std.specs.Option.{option_map}
use Rattle.std.specs.Result.{result_ok}
use Rattle.texts.specs.Held.{bytes_of}
use Rattle.texts.specs.Texts.{Text}
use Rattle.specifier.specs.Branches.{branch}
use Rattle.specifier.specs.Requests.{path_of}
use Rattle.specifier.specs.Sought.{sought_path}
use Rattle.explain.specs.Readings.{within}
use Rattle.explain.proofs.Bounds.{meant_whole, path_short, sought_there, sought_within}
use Rattle.explain.proofs.reading.Reading.of.Goals as goal

pub returns-in_err-specifier-clause-paths_are_sought : goal.returns-in_err-specifier-clause-paths_are_sought
returns-in_err-specifier-clause-paths_are_sought c = sought_there c.args.question.directory.now c.args.question.request.now

pub returns-in_err-path : goal.returns-in_err-path
returns-in_err-path c =
    let short = path_short c.args.question.request.now (sym c.if-not-is_request.ensures.short_and_ascii) in
    let long = rw (c.ok_or.ensures.ok_part ∙ ap result_ok c.in_err-path.was) at c.path_of.ensures.unescaped_path_if_short in
    absurd (omega (arith, short, long, ap length c.in_ok-specifier.ensures.places_hold_the_pieces.path))

pub returns : goal.returns
returns c =
    let d = c.args.question.directory.now in
    let r = c.args.question.request.now in
    let s = sym c.if-not-is_directory.ensures.clean_short_and_ascii in
    let a = sym c.if-not-is_request.ensures.short_and_ascii in
    let holds = c.in_ok-specifier.ensures.places_hold_the_pieces in
    let path : bytes_of c.in_ok-path.path ≡ path_of r =
    let there = rw (c.ok_or.ensures.ok_part ∙ ap result_ok c.in_ok-path.was) at c.path_of.ensures.unescaped_path_if_short in
    there ∙ holds.path in
    let way : c.of-branch.result ≡ branch (path_of r) = c.of-branch.ensures.way_of_the_first_part ∙ ap branch (c.as_bytes.ensures.bytes_of_the_text ∙ path) in
    let sought : option_map bytes_of c.sought-sought.result ≡ sought_path d (path_of r) =
    c.sought-sought.ensures.sought_path_if_short ∙ ap (λ (t : Text). within (sought_path d t)) (c.as_bytes-2.ensures.bytes_of_the_text ∙ path) ∙ sought_within d r s a in
    record {
      read_as_it_is_meant = meant_whole d r s a c.in_ok-specifier.specifier c.in_ok-specifier.ensures.reads_the_request _
          (λ i. record { path = path i; query = holds.query i; fragment = holds.fragment i; way = way i; sought = sought i });
      paths_are_sought = sought_there d r;
    }
