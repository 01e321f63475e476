-- A stored sheet beside what the port writes for it. Assumes nothing.
use Rattle.sheets.specs.Answers.{sheet_rows}
use Rattle.replay.specs.Lists.{Stored}
use Rattle.replay.specs.Verdicts.{Judged, judged_of}

-- what is found of a stored sheet beside what the port writes
abbrev pub replayed : Stored → Judged
replayed c = judged_of c (sheet_rows c.sheet)
