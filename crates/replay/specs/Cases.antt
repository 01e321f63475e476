-- What the program's cases say. Assumes nothing.
use Rattle.replay.specs.declared.case.Case.{Case}
use Rattle.replay.specs.declared.header.Header.{Header}
use Rattle.replay.specs.declared.verdict.Verdict.{Verdict}
use Rattle.replay.specs.Lists.{Heading, Stored}
use Rattle.replay.specs.Verdicts.{Judged}

-- what a header says
abbrev pub heading : Header → Heading
heading h = record { group = h.group; sheet = h.sheet; rows = h.rows; name = h.name.now }

-- what a case says
abbrev pub stored : Case → Stored
stored c = record { group = c.group; name = c.name.now; sheet = c.sheet.now; rows = c.rows.now }

-- what a verdict says
abbrev pub judged : Verdict → Judged
judged v = record { case = stored v.case; agrees = v.agrees; rows = v.rows; same_rows = v.same_rows; other_row = v.other_row }
