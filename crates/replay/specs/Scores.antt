-- How many sheets and rows agree. Assumes nothing.
use Rattle.std.specs.Prelude.{ℕ, ◌+◌, ◌-◌, ◌^◌, min, Bool, ◌&&◌, ◌==◌, List}
use Rattle.std.specs.List.{fold}
use Rattle.replay.specs.declared.group.Group.{Group}
use Rattle.replay.specs.declared.group.Group.TheVariants.{Sample, Corner, Chosen}
use Rattle.replay.specs.declared.score.Score.{Score}
use Rattle.replay.specs.declared.score.Scores.{Scores}
use Rattle.replay.specs.Verdicts.{Judged, one_if}

-- a sum, up to the largest count
abbrev pub plus : ℕ → ℕ → ℕ
plus m n = min (m + n) (2 ^ 64 - 1)

-- a score with one sheet more
abbrev pub scored : Score → Judged → Score
scored s v = record {
  sheets = plus s.sheets 1;
  agreeing = plus s.agreeing (one_if v.agrees);
  rows = plus s.rows v.rows;
  same_rows = plus s.same_rows v.same_rows;
}

-- the scores with one sheet more, which counts in its group
abbrev pub counted_in : Group → Scores → Judged → Scores
counted_in Sample s v = record s { samples = scored s.samples v }
counted_in Corner s v = record s { corners = scored s.corners v }
counted_in Chosen s v = record s { chosen = scored s.chosen v }

-- the scores with one sheet more
abbrev pub counted : Scores → Judged → Scores
counted s v = counted_in v.case.group s v

-- nothing was counted
abbrev pub no_score : Score
no_score = record { sheets = 0; agreeing = 0; rows = 0; same_rows = 0 }

abbrev pub no_scores : Scores
no_scores = record { samples = no_score; corners = no_score; chosen = no_score }

-- the scores of all sheets
abbrev pub scores_of : List Judged → Scores
scores_of vs = fold counted no_scores vs

-- every sheet of a score agrees
abbrev pub agrees_whole : Score → Bool
agrees_whole s = s.agreeing == s.sheets

-- every sheet of every group agrees
abbrev pub all_agree : Scores → Bool
all_agree s = agrees_whole s.samples && (agrees_whole s.corners && agrees_whole s.chosen)
