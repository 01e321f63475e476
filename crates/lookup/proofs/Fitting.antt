-- A quiet request never forms a text that is too long. Assumes nothing.
use Rattle.std.proofs.Common.{◌≡◌, ◌+◌, ◌≤◌, Bool, true, false, cond, ◌||◌, List, [], ◌∷◌, ◌++◌, length, Some, None, sym, refl, subst, arith}
use Rattle.std.specs.List.{AllByRecursion}
use Rattle.std.proofs.ByRecursion.{All-append}
use Rattle.std.proofs.lemmas.Bool.{and_parts, cond-true, cond_both, false≢true, le-leb, leb-true}
use Rattle.std.proofs.lemmas.List.{length-append}
use Rattle.texts.specs.Texts.{Text, SLASH, DOT, begins, empty, fits}
use Rattle.texts.specs.Parts.{every, parts}
use Rattle.paths.specs.Joins.{join, joins}
use Rattle.paths.proofs.JoinLaws.{join_short}
use Rattle.specifier.specs.Accepted.{askable, startable}
use Rattle.tree.specs.Meanings.{Meaning, Noted, Proper, mains, noted, unnoted, unreadable}
use Rattle.settings.specs.Limits.{WithinLimits, extension_kept, main_file_kept}
use Rattle.settings.specs.Tables.{Tables, enforced}
use Rattle.candidates.specs.Candidates.{Candidate, candidates, directory_candidates, extended, files, formed, indexed, indexes, asks_for_directory, is_directory, main_candidates, main_text, manifest_candidates, overlong, try}
use Rattle.lookup.specs.Faults.{bad_directory, bad_request, no_memory}
use Rattle.lookup.specs.Outcomes.{Room, refusal, roomy}
use Rattle.lookup.specs.Quiet.{AllFits, IsText, MainJoins, QuietCall, readable}

-- what an accepted call was asked
accepted_parts : (room : Room) (dir r : Text) → refusal room dir r ≡ None → (startable dir ≡ true) × (askable r ≡ true)
accepted_parts room dir r h = at (roomy room) (startable dir) (askable r) h
  where
    at : (a b c : Bool) → cond a (cond b (cond c None (Some bad_request)) (Some bad_directory)) (Some no_memory) ≡ None → (b ≡ true) × (c ≡ true)
    at true true true h = (refl, refl)
    at true true false h = absurd (let e : Some bad_request ≡ None = h in cc)
    at true false c h = absurd (let e : Some bad_directory ≡ None = h in cc)
    at false b c h = absurd (let e : Some no_memory ≡ None = h in cc)

short_extension : (e : Text) → extension_kept e ≡ true → length e ≤ 12
short_extension e h = leb-true (length e) 12 (and_parts _ _ (and_parts _ _ h).0).0

short_main_file : (f : Text) → main_file_kept f ≡ true → length f ≤ 16
short_main_file f h = leb-true (length f) 16 (and_parts _ _ (and_parts _ _ (and_parts _ _ h).0).0).1

formed_fits : (p : Text) → length p ≤ 255 → IsText (formed p)
formed_fits p h = subst IsText (sym (cond-true (fits p) (try p) overlong (le-leb (length p) 255 h))) h

abbrev Texts : List Candidate → Type 0
Texts cs = AllByRecursion IsText cs

extended_fit : (p : Text) (es : List Text) → every extension_kept es ≡ true → length p + 12 ≤ 255 → Texts (extended p es)
extended_fit p [] h k = tt
extended_fit p (e ∷ es) h k =
    let q = and_parts (extension_kept e) (every extension_kept es) h in
    (formed_fits (p ++ e) (omega (arith, length-append p e, short_extension e q.0)), extended_fit p es q.1 k)

indexed_fit : (p : Text) (es fs : List Text) → every extension_kept es ≡ true → every main_file_kept fs ≡ true → length p + 29 ≤ 255 → Texts (indexed p es fs)
indexed_fit p es [] h g k = tt
indexed_fit p es (f ∷ fs) h g k =
    let q = and_parts (main_file_kept f) (every main_file_kept fs) g in
    All-append IsText (extended (p ++ (SLASH ∷ f)) es) (indexed p es fs)
    (extended_fit (p ++ (SLASH ∷ f)) es h (omega (arith, length-append p (SLASH ∷ f), short_main_file f q.0)))
    (indexed_fit p es fs h q.1 k)

main_text_short : (s : Text) → length (main_text s) ≤ length s + 2
main_text_short s = cond_both (empty s || begins SLASH s) (DOT ∷ SLASH ∷ s) s (λ (x : Text). length x ≤ length s + 2) (λ _. omega arith) (λ _. omega arith)

-- a main text of at most 32 bytes, joined to a path of at most 177
main_joins : (p s : Text) → length p ≤ 177 → length s ≤ 32 → MainJoins p s
main_joins p s h g =
    let j = join_short p (main_text s) in
    let l = main_text_short s in
    (j.1 (omega (arith, l)), omega (arith, j.0, l))

module _ (t : Tables) (limits : WithinLimits t) (fully : Bool) where
  files_fit : (p : Text) → length p + 12 ≤ 255 → Texts (files t fully p)
  files_fit p k =
      All-append IsText (cond (enforced t) [] (formed p ∷ [])) (cond fully [] (extended p t.extensions))
      (cond_both (enforced t) [] (formed p ∷ []) Texts (λ _. tt) (λ _. (formed_fits p (omega arith), tt)))
      (cond_both fully [] (extended p t.extensions) Texts (λ _. tt) (λ _. extended_fit p t.extensions limits.extensions k))

  indexes_fit : (p : Text) → length p + 29 ≤ 255 → Texts (indexes t fully p)
  indexes_fit p k = cond_both fully [] (indexed p t.extensions t.main_files) Texts (λ _. tt) (λ _. indexed_fit p t.extensions t.main_files limits.extensions limits.main_files k)

  module _ (p : Text) (short : length p ≤ 177) where
    mains_fit : (ms : List Text) → AllByRecursion (λ s. length s ≤ 32) ms → Texts (main_candidates t fully p ms)
    mains_fit [] h = indexes_fit p (omega (arith, short))
    mains_fit (s ∷ ms) h =
        let q = join p (main_text s) in
        let j : MainJoins p s = main_joins p s short h.0 in
        subst Texts (sym (cond-true (joins p (main_text s)) (files t fully q ++ (indexes t fully q ++ main_candidates t fully p ms)) (overlong ∷ []) j.0))
        (All-append IsText (files t fully q) (indexes t fully q ++ main_candidates t fully p ms) (files_fit q (omega (arith, j.1)))
        (All-append IsText (indexes t fully q) (main_candidates t fully p ms) (indexes_fit q (omega (arith, j.1))) (mains_fit ms h.1)))

    manifest_fits : (n : Noted) → readable n ≡ true → AllByRecursion (λ s. length s ≤ 32) (mains n) → Texts (manifest_candidates t fully p n)
    manifest_fits unnoted e h = indexes_fit p (omega (arith, short))
    manifest_fits unreadable e h = absurd (false≢true e)
    manifest_fits (noted ms) e h = mains_fit ms h

    module _ (m : Meaning) (proper : Proper m) (whole : readable (m.manifest (parts p)) ≡ true) where
      directory_fits : Texts (directory_candidates t fully m p)
      directory_fits =
          cond_both (is_directory (m.kind (parts p))) (manifest_candidates t fully p (m.manifest (parts p))) [] Texts (λ _. manifest_fits (m.manifest (parts p)) whole (proper.short_mains (parts p))) (λ _. tt)

      candidates_fit : (inside : Bool) → Texts (candidates t fully m inside p)
      unfolding candidates
      candidates_fit inside =
          All-append IsText (cond inside [] (files t fully p)) (directory_candidates t fully m p)
          (cond_both inside [] (files t fully p) Texts (λ _. tt) (λ _. files_fit p (omega (arith, short))))
          directory_fits

mains_join : (p : Text) (ms : List Text) → length p ≤ 177 → AllByRecursion (λ s. length s ≤ 32) ms → AllByRecursion (MainJoins p) ms
mains_join p [] h g = tt
mains_join p (s ∷ ms) h g = (main_joins p s h g.0, mains_join p ms h g.1)

pub all_fits : (m : Meaning) (t : Tables) (room : Room) (dir r : Text) → QuietCall m t room dir r → AllFits m t dir r
all_fits m t room dir r call =
    let a = accepted_parts room dir r call.accepted in
    let d = leb-true (length dir) 80 (and_parts _ _ a.0).0 in
    let l = leb-true (length r) 96 (and_parts _ _ a.1).0 in
    let j = join_short dir r in
    let short : length (join dir r) ≤ 177 = omega (arith, j.0, d, l) in
    record {
      path_joins = j.1 (omega (arith, d, l));
      path_is_short = short;
      mains_join = mains_join (join dir r) (mains (m.manifest (parts (join dir r)))) short (call.proper.short_mains (parts (join dir r)));
      candidates_are_texts = candidates_fit t call.limits t.fully_specified (join dir r) short m call.proper call.quiet.manifest_readable (asks_for_directory r);
    }
