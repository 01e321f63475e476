use Rattle.std.proofs.Common.{◌≡◌, length, ap, arith}
use Rattle.std.proofs.lemmas.List.{length-map}
use Rattle.std.proofs.lemmas.Result.{err_from_is_err_and}
use Rattle.stack.specs.Held.{held}
use Rattle.listing.specs.Entries.{rows}
use Rattle.listing.specs.Rows.{row}
use Rattle.listing.proofs.Entering.{full_now, kind_refused, line_refused, room_now}
use Rattle.listing.proofs.listing.Listing.check_line.Goals as goal

pub returns-in_err-kind : goal.returns-in_err-kind
returns-in_err-kind c =
    let p = err_from_is_err_and c.from_residual.result c.from_residual.ensures.1 in
    record { taken_or_refused = rw (p.1, p.2) (kind_refused (rows c.args.self.now) c.args.kind c.args.first.now c.args.second.now _ c.in_err-kind.ensures.kind_by_its_number).0 }

pub returns-in_err-check : goal.returns-in_err-check
returns-in_err-check c =
    let p = err_from_is_err_and c.from_residual-in_err-check.result c.from_residual-in_err-check.ensures.1 in
    record { taken_or_refused = rw (p.1, p.2) (line_refused (rows c.args.self.now) c.args.kind c.in_ok-kind.kind c.args.first.now c.args.second.now c.in_ok-kind.ensures.kind_by_its_number _ c.in_err-check.ensures.first_check_that_fails).0 }

pub returns-then-as_slice-ge-LINES : goal.returns-then-as_slice-ge-LINES
returns-then-as_slice-ge-LINES c =
    let lines = held c.args.self.now.lines in
    record { taken_or_refused = full_now (rows c.args.self.now) c.args.kind c.in_ok-kind.kind c.args.first.now c.args.second.now c.in_ok-kind.ensures.kind_by_its_number c.in_ok-check.ensures.first_check_that_fails (omega (arith, c.if-as_slice-ge-LINES.true, ap length c.as_slice.ensures.items_in_their_order, length-map lines row)) }

pub returns : goal.returns
returns c =
    let lines = held c.args.self.now.lines in
    record { taken_or_refused = room_now (rows c.args.self.now) c.args.kind c.in_ok-kind.kind c.args.first.now c.args.second.now c.in_ok-kind.ensures.kind_by_its_number c.in_ok-check.ensures.first_check_that_fails (omega (arith, c.if-as_slice-ge-LINES.false, ap length c.as_slice.ensures.items_in_their_order, length-map lines row)) }
