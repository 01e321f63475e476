use Rattle.std.proofs.Common.{arith}
use Rattle.stack.specs.Held.{held}
use Rattle.stack.proofs.Slots.{mapped_from}
use Rattle.listing.specs.Rows.{row}
use Rattle.std.proofs.lemmas.List.{length-map}
use Rattle.listing.proofs.listing.Listing.line.Goals as goal

pub returns : goal.returns
returns c =
    let ls = held c.args.self.now.lines in
    record { row_at_the_place = mapped_from row ls c.args.i c.index-as_slice-i.result (omega (arith, length-map ls row)) cc }
