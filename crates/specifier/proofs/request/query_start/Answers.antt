use Rattle.specifier.proofs.Readings.{query_start}
use Rattle.specifier.proofs.request.query_start.Goals as goal

pub returns : goal.returns
returns c =
    record { start_of_the_query = query_start _ _ _ _ c.requires.passes_over c.requires.ends_at_the_fragment c.position.ensures.stands_before_the_first }
