-- How many attempts and candidates a lookup has at most. Assumes nothing.
use Rattle.std.proofs.Common.{◌≡◌, ℕ, suc, ◌+◌, ◌*◌, ◌≤◌, Bool, true, false, cond, List, [], ◌∷◌, ◌++◌, length, Some, None, Option, arith, suc-mul, mul-suc, mul-le-mul_left}
use Rattle.std.proofs.lemmas.Bool.{cond_both}
use Rattle.std.proofs.lemmas.List.{length-append}
use Rattle.texts.specs.Texts.{Text, SLASH}
use Rattle.texts.specs.Parts.{parts}
use Rattle.paths.specs.Joins.{join, joins}
use Rattle.tree.specs.Meanings.{Meaning, Noted, mains, noted, unnoted, unreadable}
use Rattle.settings.specs.Tables.{Alias, Tables, Value, enforced}
use Rattle.alias.specs.Attempts.{Attempt, attempts, last, onward, unmatched, value_attempt, value_attempts}
use Rattle.alias.specs.Forms.{key, touches}
use Rattle.candidates.specs.Candidates.{Candidate, candidates, directory_candidates, extended, files, formed, indexed, indexes, is_directory, main_candidates, main_text, manifest_candidates, overlong}
use Rattle.candidates.proofs.Placing.{length_extended}
use Rattle.lookup.specs.Moves.{attempts_most, candidates_most}

-- an attempt with those behind it is one more at most
onward_few : (n : ℕ) (o : Option Attempt) (passed tried : List Attempt) → length passed ≤ n → length tried ≤ n → length (onward o passed tried) ≤ suc n
onward_few n None passed tried h g = omega (arith, h)
onward_few n (Some a) passed tried h g = cond_both (last a) [] tried (λ (xs : List Attempt). suc (length xs) ≤ suc n) (λ _. omega arith) (λ _. omega (arith, g))

module _ (m : Meaning) (dir r : Text) where
  -- one attempt for each value, and one more for the label
  values_few : (l : Text) (vs : List Value) (tried : Bool) (later : List Attempt) → length (value_attempts m dir r l vs tried later) ≤ suc (length vs) + length later
  values_few l [] tried later = cond_both tried (unmatched r (key l) ∷ []) later (λ (xs : List Attempt). length xs ≤ 1 + length later) (λ _. omega arith) (λ _. omega arith)
  values_few l (v ∷ vs) tried later =
      let f = onward_few (suc (length vs) + length later) (value_attempt m dir r l v) (value_attempts m dir r l vs tried later) (value_attempts m dir r l vs true later)
      (values_few l vs tried later) (values_few l vs true later) in
      omega (arith, f)

  -- so many attempts at most
  pub attempts_few : (ls : List Alias) → length (attempts m dir r ls) ≤ attempts_most ls
  unfolding attempts
  attempts_few [] = omega arith
  attempts_few (a ∷ more) =
      let few = attempts_few more in
      cond_both (touches a.label r) (value_attempts m dir r a.label a.values false (attempts m dir r more)) (attempts m dir r more)
      (λ (xs : List Attempt). length xs ≤ suc (length a.values) + attempts_most more)
      (λ _. let f = values_few a.label a.values false (attempts m dir r more) in omega (arith, f, few))
      (λ _. omega (arith, few))

-- each main file with each extension
length_indexed : (p : Text) (es ms : List Text) → length (indexed p es ms) ≡ length ms * length es
length_indexed p es [] = omega arith
length_indexed p es (m ∷ ms) =
    let h = length-append (extended (p ++ (SLASH ∷ m)) es) (indexed p es ms) in
    omega (arith, h, length_extended (p ++ (SLASH ∷ m)) es, length_indexed p es ms, suc-mul (length ms) (length es))

module _ (t : Tables) (fully : Bool) where
  files_few : (p : Text) → length (files t fully p) ≤ suc (length t.extensions)
  files_few p =
      let h = length-append (cond (enforced t) [] (formed p ∷ [])) (cond fully [] (extended p t.extensions)) in
      let f = cond_both (enforced t) [] (formed p ∷ []) (λ (xs : List Candidate). length xs ≤ 1) (λ _. omega arith) (λ _. omega arith) in
      let g = cond_both fully [] (extended p t.extensions) (λ (xs : List Candidate). length xs ≤ length t.extensions) (λ _. omega arith) (λ _. omega (arith, length_extended p t.extensions)) in
      omega (arith, h, f, g)

  indexes_few : (p : Text) → length (indexes t fully p) ≤ length t.main_files * length t.extensions
  indexes_few p =
      cond_both fully [] (indexed p t.extensions t.main_files) (λ (xs : List Candidate). length xs ≤ length t.main_files * length t.extensions)
      (λ _. omega arith)
      (λ _. omega (arith, length_indexed p t.extensions t.main_files))

  -- with a bound n on the candidates as a file, and k on the index candidates
  module _ (n k : ℕ) (files_most : (p : Text) → length (files t fully p) ≤ n) (indexes_most : (p : Text) → length (indexes t fully p) ≤ k) (some : 1 ≤ n) (p : Text) where
    mains_few : (ms : List Text) → length (main_candidates t fully p ms) ≤ (n + k) * suc (length ms)
    mains_few [] = omega (arith, indexes_most p, mul-suc (n + k) 0)
    mains_few (s ∷ ms) =
        let q = join p (main_text s) in
        let step = mul-suc (n + k) (suc (length ms)) in
        let few = mains_few ms in
        cond_both (joins p (main_text s)) (files t fully q ++ (indexes t fully q ++ main_candidates t fully p ms)) (overlong ∷ [])
        (λ (xs : List Candidate). length xs ≤ (n + k) * suc (suc (length ms)))
        (λ _.
        let h = length-append (files t fully q) (indexes t fully q ++ main_candidates t fully p ms) in
        let g = length-append (indexes t fully q) (main_candidates t fully p ms) in
        omega (arith, h, g, files_most q, indexes_most q, few, step))
        (λ _. omega (arith, some, step))

    manifest_few : (x : Noted) → length (mains x) ≤ 255 → length (manifest_candidates t fully p x) ≤ 256 * (n + k)
    manifest_few unnoted h = omega (arith, indexes_most p)
    manifest_few unreadable h = omega (arith, some)
    manifest_few (noted ms) h =
        let few = mains_few ms in
        let least : (n + k) * suc (length ms) ≤ (n + k) * 256 = mul-le-mul_left (n + k) (omega (arith, h)) in
        omega (arith, few, least)

    module _ (m : Meaning) (bound : length (mains (m.manifest (parts p))) ≤ 255) where
      directory_few : length (directory_candidates t fully m p) ≤ 256 * (n + k)
      directory_few =
          cond_both (is_directory (m.kind (parts p))) (manifest_candidates t fully p (m.manifest (parts p))) []
          (λ (xs : List Candidate). length xs ≤ 256 * (n + k))
          (λ _. manifest_few (m.manifest (parts p)) bound)
          (λ _. omega arith)

      all_few : (inside : Bool) → length (candidates t fully m inside p) ≤ 257 * (n + k)
      unfolding candidates
      all_few inside =
          let h = length-append (cond inside [] (files t fully p)) (directory_candidates t fully m p) in
          let f = cond_both inside [] (files t fully p) (λ (xs : List Candidate). length xs ≤ n) (λ _. omega arith) (λ _. files_most p) in
          omega (arith, h, f, directory_few)

-- so many candidates at most
pub candidates_few : (t : Tables) (fully : Bool) (m : Meaning) (inside : Bool) (p : Text) → length (mains (m.manifest (parts p))) ≤ 255 → length (candidates t fully m inside p) ≤ candidates_most t
candidates_few t fully m inside p h =
    let few = all_few t fully (suc (length t.extensions)) (length t.main_files * length t.extensions) (files_few t fully) (indexes_few t fully) (omega arith) p m h inside in
    omega (arith, few)
