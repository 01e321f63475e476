-- How many moves a lookup has left at most. Assumes nothing.
use Rattle.std.specs.Prelude.{ℕ, suc, ◌+◌, ◌*◌, List, [], ◌∷◌, length}
use Rattle.settings.specs.Tables.{Alias, Tables}
use Rattle.lookup.specs.Calls.{Call, labelled, marked, testing, trying, waiting}

-- at most so many attempts come of the labels, whatever the request
abbrev pub attempts_most : List Alias → ℕ
attempts_most [] = 0
attempts_most (a ∷ more) = suc (length a.values) + attempts_most more

-- at most so many candidates come of one path, as a file and by its main files
abbrev pub forms_most : Tables → ℕ
forms_most t = suc (length t.extensions + length t.main_files * length t.extensions)

-- at most so many candidates come of a path that is looked for, whose manifest has at most 255 main texts
abbrev pub candidates_most : Tables → ℕ
candidates_most t = 257 * forms_most t

-- the moves of the test of a candidate that has just begun, and of so many candidates
abbrev pub test_moves : Tables → ℕ
test_moves t = 2 + 2 * attempts_most t.aliases

abbrev pub candidate_moves : Tables → ℕ → ℕ
candidate_moves t n = 1 + test_moves t * n

-- the moves of the labels on a request, with so many attempts left
abbrev pub label_moves : Tables → ℕ → ℕ
label_moves t n = 2 + 2 * n + candidate_moves t (candidates_most t)

-- the moves that an open call has left, but for those of later rounds
abbrev pub weight : Tables → Call → ℕ
weight t (waiting dir r) = 1
weight t (marked dir r f) = 1 + label_moves t (attempts_most t.aliases)
weight t (labelled dir r ts) = label_moves t (length ts)
weight t (trying r cs) = candidate_moves t (length cs)
weight t (testing p ts) = 1 + 2 * length ts

abbrev pub weights : Tables → List Call → ℕ
weights t [] = 0
weights t (k ∷ ks) = weight t k + weights t ks

-- the moves of the rounds that are left
abbrev pub rounds_left : Tables → ℕ → ℕ
rounds_left t n = (2 + 2 * label_moves t (attempts_most t.aliases)) * n
