use Rattle.std.proofs.Common.{◌≡◌, cond, Some, None, is_ok, refl, ◌∙◌, rules}
use Rattle.std.proofs.lemmas.Result.{err_from_is_err_and}
use Rattle.stack.specs.Held.{held}
use Rattle.texts.specs.Taken.{taken_unless}
use Rattle.listing.specs.declared.refusals.Refusal.TheVariants.{Full}
use Rattle.listing.specs.Entries.{rows}
use Rattle.listing.proofs.Entering.{answer_then, fit_then, kind_refused, places_then, refused_rows, rows_then, short_texts, well_taken}
use Rattle.listing.proofs.listing.Listing.add.Goals as goal

pub returns-in_err-check_line-clause-lines_after : goal.returns-in_err-check_line-clause-lines_after
returns-in_err-check_line-clause-lines_after c = refused_rows (rows c.args.self.now) c.args.kind c.args.first.now c.args.second.now _ c.in_err-check_line.ensures.taken_or_refused

pub returns-in_err-kind-clause-taken_or_refused : goal.returns-in_err-kind-clause-taken_or_refused
returns-in_err-kind-clause-taken_or_refused c =
    let p = err_from_is_err_and c.from_residual-in_err-kind.result c.from_residual-in_err-kind.ensures.1 in
    rw (p.1, p.2) (kind_refused (rows c.args.self.now) c.args.kind c.args.first.now c.args.second.now _ c.in_err-kind.ensures.kind_by_its_number).0

pub returns-in_err-kind-clause-lines_after : goal.returns-in_err-kind-clause-lines_after
returns-in_err-kind-clause-lines_after c = (kind_refused (rows c.args.self.now) c.args.kind c.args.first.now c.args.second.now _ c.in_err-kind.ensures.kind_by_its_number).1

pub new-line-requires : goal.new-line-requires
new-line-requires c =
    let short = short_texts (rows c.args.self.now) c.args.kind c.in_ok-kind.kind c.args.first.now c.args.second.now c.in_ok-kind.ensures.kind_by_its_number (well_taken (rows c.args.self.now) c.args.kind c.in_ok-kind.kind c.args.first.now c.args.second.now c.in_ok-kind.ensures.kind_by_its_number c.in_ok-check_line.ensures.taken_or_refused) in
    record { first_is_short = short.0; second_is_short = short.1 }

pub invariant_of-self : goal.invariant_of-self
invariant_of-self c =
    record {
      fit = fit_then (rows c.args.self.now) c.args.kind c.in_ok-kind.kind c.args.first.now c.args.second.now c.in_ok-kind.ensures.kind_by_its_number (well_taken (rows c.args.self.now) c.args.kind c.in_ok-kind.kind c.args.first.now c.args.second.now c.in_ok-kind.ensures.kind_by_its_number c.in_ok-check_line.ensures.taken_or_refused)
          (held c.args.self.now.lines) (held c.push.new.self) c.new-line.result (is_ok c.push.result) refl c.push.ensures.refused_only_when_full c.push.ensures.items_after c.new-line.ensures.row_of_kind_and_texts c.args.self.now.fit;
    }

pub returns-clause-taken_or_refused : goal.returns-clause-taken_or_refused
returns-clause-taken_or_refused c =
    let answer : c.map_err.result ≡ taken_unless (cond (is_ok c.push.result) None (Some Full)) = search rules in
    answer ∙ answer_then (rows c.args.self.now) c.args.kind c.in_ok-kind.kind c.args.first.now c.args.second.now c.in_ok-kind.ensures.kind_by_its_number (well_taken (rows c.args.self.now) c.args.kind c.in_ok-kind.kind c.args.first.now c.args.second.now c.in_ok-kind.ensures.kind_by_its_number c.in_ok-check_line.ensures.taken_or_refused)
    (held c.args.self.now.lines) (held c.push.new.self) c.new-line.result (is_ok c.push.result) refl c.push.ensures.refused_only_when_full c.push.ensures.items_after c.new-line.ensures.row_of_kind_and_texts

pub returns-clause-lines_after : goal.returns-clause-lines_after
returns-clause-lines_after c =
    rows_then (rows c.args.self.now) c.args.kind c.in_ok-kind.kind c.args.first.now c.args.second.now c.in_ok-kind.ensures.kind_by_its_number (well_taken (rows c.args.self.now) c.args.kind c.in_ok-kind.kind c.args.first.now c.args.second.now c.in_ok-kind.ensures.kind_by_its_number c.in_ok-check_line.ensures.taken_or_refused)
    (held c.args.self.now.lines) (held c.push.new.self) c.new-line.result (is_ok c.push.result) refl c.push.ensures.refused_only_when_full c.push.ensures.items_after c.new-line.ensures.row_of_kind_and_texts

pub returns-clause-earlier_lines_go_on_deciding : goal.returns-clause-earlier_lines_go_on_deciding
returns-clause-earlier_lines_go_on_deciding c =
    places_then (rows c.args.self.now) c.args.kind c.in_ok-kind.kind c.args.first.now c.args.second.now c.in_ok-kind.ensures.kind_by_its_number (well_taken (rows c.args.self.now) c.args.kind c.in_ok-kind.kind c.args.first.now c.args.second.now c.in_ok-kind.ensures.kind_by_its_number c.in_ok-check_line.ensures.taken_or_refused)
    (held c.args.self.now.lines) (held c.push.new.self) c.new-line.result (is_ok c.push.result) refl c.push.ensures.refused_only_when_full c.push.ensures.items_after c.new-line.ensures.row_of_kind_and_texts
