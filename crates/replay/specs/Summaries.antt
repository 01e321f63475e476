-- The program's lines, in words. Assumes nothing.
use Rattle.std.specs.Prelude.{ℕ, List, [], ◌∷◌, ◌++◌, codes, decimal, Some, None, Option}
use Rattle.texts.specs.Texts.{Text}
use Rattle.replay.specs.declared.group.Group.{Group}
use Rattle.replay.specs.declared.group.Group.TheVariants.{Sample, Corner, Chosen}
use Rattle.replay.specs.declared.score.Score.{Score}

-- texts one behind the other
abbrev pub phrase : List Text → Text
phrase [] = []
phrase (t ∷ []) = t
phrase (t ∷ u ∷ more) = t ++ phrase (u ∷ more)

-- a group's name
abbrev pub group_words : Group → Text
group_words Sample = codes "samples"
group_words Corner = codes "corner cases"
group_words Chosen = codes "chosen sheets"

-- how many sheets and rows of a group agree
abbrev pub summary_words : Group → Score → Text
summary_words g s =
    phrase (group_words g ∷ codes ": " ∷ decimal s.agreeing ∷ codes " of " ∷ decimal s.sheets ∷ codes " sheets agree, " ∷ decimal s.same_rows ∷ codes " of " ∷ decimal s.rows ∷ codes " rows" ∷ [])

-- where a sheet differs
abbrev pub place_words : Option ℕ → Text
place_words None = codes ": there is more behind its rows"
place_words (Some row) = phrase (codes ": row " ∷ decimal row ∷ codes " differs" ∷ [])

-- a sheet that differs
abbrev pub differing_words : Group → Text → Option ℕ → Text
differing_words g name row = phrase (group_words g ∷ codes ", " ∷ name ∷ place_words row ∷ [])
