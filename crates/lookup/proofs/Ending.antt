-- A lookup ends in a path or in a fault. Assumes nothing.
use Rattle.std.proofs.Common.{◌≡◌, ℕ, zero, suc, Bool, true, false, cond, Some, None, Option, refl, ltb, ◌++◌}
use Rattle.texts.specs.Texts.{Text, empty, fits, unslashed}
use Rattle.texts.specs.Parts.{parts}
use Rattle.paths.specs.Joins.{join, joins}
use Rattle.specifier.specs.declared.branch.Branch.{Branch}
use Rattle.specifier.specs.declared.branch.Branch.TheVariants as way
use Rattle.specifier.specs.Branches.{branch}
use Rattle.specifier.specs.Requests.{path_of}
use Rattle.tree.specs.declared.answers.Way.TheVariants as asked
use Rattle.tree.specs.Acceptances.{Allowed}
use Rattle.tree.specs.Meanings.{Finding, Meaning, faulty, found, missing}
use Rattle.settings.specs.Tables.{Tables}
use Rattle.candidates.specs.Candidates.{candidates, asks_for_directory, is_directory}
use Rattle.lookup.specs.Faults.{empty_request, long_text, not_found, recursion, stays}
use Rattle.lookup.specs.Laws.{decisive}
use Rattle.lookup.specs.Lookups.{Context, Ended, answered_by, by_labels, by_way, counted, ends_in, failed, find, look, missed, or_alone, or_next, require, round, taking, tests, with_fragment, with_marks}

next_decides : (e : Ended) (go : Context → Ended) → ((c : Context) → decisive (go c) ≡ true) → decisive (or_next e go) ≡ true
next_decides (ends_in p c) go g = refl
next_decides (missed c) go g = g c
next_decides (failed f c) go g = refl

one_decides : (b : Bool) (x y : Ended) → decisive x ≡ true → decisive y ≡ true → decisive (cond b x y) ≡ true
one_decides true x y h g = h
one_decides false x y h g = g

alone_decides : (e : Ended) (go : Context → Ended) → ((c : Context) → decisive (go c) ≡ true) → decisive (or_alone e go) ≡ true
alone_decides (ends_in p c) go g = refl
alone_decides (missed c) go g = g c
alone_decides (failed f c) go g = one_decides (stays f) (failed f c) (go c) refl (g c)

answer_decides : (r : Text) (x : Finding) (c : Context) → decisive (answered_by r x c) ≡ true
answer_decides r (found p) c = refl
answer_decides r missing c = refl
answer_decides r faulty c = refl

module _ (m : Meaning) (allowed : Allowed) (t : Tables) where
  module _ (again : Text → Text → Context → Ended) where
    look_decides : (r p : Text) (c : Context) → decisive (look m allowed t again r p c) ≡ true
    look_decides r p c =
        one_decides t.context
        (cond (is_directory (m.kind (parts p))) (ends_in p c) (failed (not_found r) c))
        (or_next (tests m allowed t again (candidates t c.fully m (asks_for_directory r) p) c) (λ d. failed (not_found r) d))
        (one_decides (is_directory (m.kind (parts p))) (ends_in p c) (failed (not_found r) c) refl refl)
        (next_decides (tests m allowed t again (candidates t c.fully m (asks_for_directory r) p) c) (λ d. failed (not_found r) d) (λ d. refl))

    way_decides : (b : Branch) (dir r : Text) (c : Context) → decisive (by_way m allowed t again b dir r c) ≡ true
    way_decides way.Absolute dir r c = look_decides r (unslashed r) c
    way_decides way.Relative dir r c = one_decides (joins dir r) (look m allowed t again r (join dir r) c) (failed long_text c) (look_decides r (join dir r) c) refl
    way_decides way.Hash dir r c = answer_decides r (m.lookup asked.Hash r (parts dir)) c
    way_decides way.Package dir r c = answer_decides r (m.lookup asked.Package r (parts dir)) c

    pub find_decides : (dir r : Text) (c : Context) → decisive (find m allowed t again dir r c) ≡ true
    unfolding find
    find_decides dir r c = next_decides (by_labels m allowed t again dir r c) (λ d. by_way m allowed t again (branch r) dir r d) (λ d. way_decides (branch r) dir r d)

    marks_decide : (q f : Option Text) (dir r : Text) (c : Context) → decisive (with_marks m allowed t again q f dir r c) ≡ true
    marks_decide None None dir r c = find_decides dir r c
    marks_decide (Some q) f dir r c = find_decides dir r c
    marks_decide None (Some f) dir r c =
        one_decides (fits (r ++ f)) (or_alone (find m allowed t again dir (r ++ f) (with_fragment None c)) (λ d. find m allowed t again dir r (with_fragment (Some f) d))) (failed long_text c)
        (alone_decides (find m allowed t again dir (r ++ f) (with_fragment None c)) (λ d. find m allowed t again dir r (with_fragment (Some f) d)) (λ d. find_decides dir r (with_fragment (Some f) d)))
        refl

    round_decides : (dir r : Text) (c : Context) → decisive (round m allowed t again dir r c) ≡ true
    unfolding round
    round_decides dir r c =
        one_decides (empty (path_of r)) (failed (empty_request r) c) (with_marks m allowed t again (taking r c).query (taking r c).fragment dir (path_of r) (taking r c))
        refl
        (marks_decide (taking r c).query (taking r c).fragment dir (path_of r) (taking r c))

  pub require_decides : (limit n : ℕ) (dir r : Text) (c : Context) → decisive (require m allowed t limit n dir r c) ≡ true
  unfolding require
  require_decides limit zero dir r c = refl
  require_decides limit (suc n) dir r c =
      one_decides (ltb c.rounds limit) (round m allowed t (λ e u d. require m allowed t limit n e u d) dir r (counted c)) (failed recursion c)
      (round_decides (λ e u d. require m allowed t limit n e u d) dir r (counted c))
      refl
