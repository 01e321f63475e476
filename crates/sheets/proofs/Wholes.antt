-- What is known of a whole sheet, put together. Assumes nothing.
use Rattle.std.proofs.Common.{◌≡◌, List}
use Rattle.tree.specs.Acceptances.{Allowed}
use Rattle.tree.specs.Meanings.{Meaning}
use Rattle.listing.specs.Meanings.{listed}
use Rattle.settings.specs.Tables.{Tables}
use Rattle.sheets.specs.Answers.{at_most_255_parts, rows_after}
use Rattle.sheets.specs.Reading.{State}
use Rattle.sheets.specs.Rows.{rows_of}
use Rattle.sheets.specs.Tasks.{Todo}

pub whole_told : (m : Meaning) (allowed : Allowed) (t : Tables) (todo : List Todo) (s : State) → m ≡ listed s.rows → allowed ≡ at_most_255_parts → t ≡ s.tables → todo ≡ s.todo → rows_of m allowed t todo ≡ rows_after s
whole_told m allowed t todo s a b c d = (λ i. rows_of (a i) (b i) (c i) (d i))
