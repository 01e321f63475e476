-- What makes a question quiet, and what its candidates decide. Assumes nothing.
use Rattle.std.proofs.Common.{◌≡◌, ◌≤◌, Bool, true, false, cond, not, ◌&&◌, ◌||◌, leb, List, [], ◌∷◌, length, map, Some, None, Option, sym, refl, ap, ◌∙◌, arith}
use Rattle.std.specs.List.{list_all, list_any}
use Rattle.std.proofs.lemmas.Bool.{and_parts, cond-true, false≢true, leb-true, not-true}
use Rattle.texts.specs.Texts.{Text, ascii, fits}
use Rattle.texts.specs.Parts.{clean, parts}
use Rattle.paths.specs.Joins.{join, joins}
use Rattle.paths.proofs.JoinLaws.{join_short}
use Rattle.specifier.specs.declared.branch.Branch.{Branch}
use Rattle.specifier.specs.declared.branch.Branch.TheVariants as way
use Rattle.specifier.specs.Accepted.{askable, startable}
use Rattle.specifier.specs.Branches.{branch}
use Rattle.specifier.specs.Sought.{sought_on, sought_path}
use Rattle.tree.specs.declared.answers.Kind.{Kind}
use Rattle.tree.specs.declared.answers.Kind.TheVariants as kind
use Rattle.tree.specs.Acceptances.{Allowed, acceptable, unrestricted}
use Rattle.tree.specs.Meanings.{Meaning, Proper, is_file}
use Rattle.settings.specs.declared.settings.Settings.{Settings}
use Rattle.settings.specs.Meant.{tables}
use Rattle.settings.specs.Tables.{Alias, Tables}
use Rattle.settings.proofs.Limited.{within_limits}
use Rattle.alias.specs.Forms.{touches}
use Rattle.candidates.specs.Candidates.{Candidate, broken_at, candidates, asks_for_directory, overlong, try}
use Rattle.lookup.specs.Laws.{all_untouched, candidates_of, unmarked, untouched}
use Rattle.lookup.specs.Outcomes.{Room, answer, refusal}
use Rattle.lookup.specs.Quiet.{First, NonePasses, NothingFoundIfNonePasses, QuietCall, QuietRequestGivesTheFirst}
use Rattle.lookup.proofs.Firsts.{gives_the_first, nothing_if_none}
use Rattle.explain.specs.Offers.{Judged, broken, by_kind, judged, passes, too_long, tried, verdict_of}
use Rattle.explain.specs.Quiet.{QuietQuestion, first_acceptable, is_relative, is_untouched, may_be_quiet, quiet_outcome}
use Rattle.explain.specs.Readings.{within}
use Rattle.explain.proofs.Bounds.{within_some}

-- what a request that may be quiet by itself is
relative_way : (w : Branch) → is_relative w ≡ true → w ≡ way.Relative
relative_way way.Absolute h = absurd (false≢true h)
relative_way way.Relative h = refl
relative_way way.Hash h = absurd (false≢true h)
relative_way way.Package h = absurd (false≢true h)

pub quiet_by_itself : (t : Tables) (r : Text) → may_be_quiet t r ≡ true → (t.context ≡ false) × ((unmarked r ≡ true) × ((branch r ≡ way.Relative) × (untouched t.aliases r ≡ true)))
quiet_by_itself t r h =
    let a = and_parts (not t.context) (unmarked r && (is_relative (branch r) && untouched t.aliases r)) h in
    let b = and_parts (unmarked r) (is_relative (branch r) && untouched t.aliases r) a.1 in
    let c = and_parts (is_relative (branch r)) (untouched t.aliases r) b.1 in
    (not-true t.context a.0, (b.0, (relative_way (branch r) c.0, c.1)))

-- the path that a relative request looks for
pub sought_is : (dir r p : Text) → branch r ≡ way.Relative → Some p ≡ within (sought_path dir r) → p ≡ join dir r
sought_is dir r p relative h = at (joins dir r) (h ∙ ap (λ (w : Branch). within (sought_on w dir r)) relative)
  where
    on : (b : Bool) → Some p ≡ cond b (Some (join dir r)) None → p ≡ join dir r
    on true e = cc
    on false e = absurd (let z : Some p ≡ None = e in cc)

    at : (a : Bool) → Some p ≡ within (cond a (Some (join dir r)) None) → p ≡ join dir r
    at true e = on (fits (join dir r)) e
    at false e = absurd (let z : Some p ≡ None = e in cc)

-- and an accepted one looks for it
pub accepted_is_sought : (dir r : Text) → startable dir ≡ true → askable r ≡ true → branch r ≡ way.Relative → within (sought_path dir r) ≡ Some (join dir r)
accepted_is_sought dir r s a relative =
    let start : length dir ≤ 80 = leb-true _ _ (and_parts (leb (length dir) 80) (ascii dir && clean dir) s).0 in
    let short : length r ≤ 96 = leb-true _ _ (and_parts (leb (length r) 96) (ascii r) a).0 in
    let j = join_short dir r in
    ap (λ (w : Branch). within (sought_on w dir r)) relative
    ∙ ap within (cond-true (joins dir r) (Some (join dir r)) None (j.1 (omega arith)))
    ∙ within_some (join dir r) (omega (arith, j.0))

-- no label touches
pub none_touches : (labels : List Alias) (r : Text) → not (list_any (λ a. touches a.label r) labels) ≡ untouched labels r
none_touches [] r = refl
none_touches (a ∷ more) r = at (touches a.label r) (none_touches more r)
  where
    at : (b : Bool) → not (list_any (λ a. touches a.label r) more) ≡ untouched more r → not (b || list_any (λ a. touches a.label r) more) ≡ cond b false (untouched more r)
    at true ih = refl
    at false ih = ih

-- the candidates of a path, told by a host of the same meaning
pub offered_of : (m n : Meaning) (allowed : Allowed) (t : Tables) (dir r p : Text) (inside : Bool) (js : List Judged) → n ≡ m → p ≡ join dir r → inside ≡ asks_for_directory r
    → js ≡ map (judged n allowed t.restrictions) (candidates t t.fully_specified n inside p)
    → js ≡ map (judged m allowed t.restrictions) (candidates_of m t dir r)
offered_of m n allowed t dir r p inside js same is asks h =
    h ∙ (λ i. map (judged (same i) allowed t.restrictions) (candidates t t.fully_specified (same i) (asks i) (is i)))

module _ (m : Meaning) (allowed : Allowed) (restrictions : List Text) where
  -- the offers are untouched exactly if the candidates are
  pub judged_untouched : (labels : List Alias) (cs : List Candidate) → list_all (is_untouched labels) (map (judged m allowed restrictions) cs) ≡ all_untouched labels cs
  judged_untouched labels [] = refl
  judged_untouched labels (try p ∷ more) = ap (λ (b : Bool). untouched labels p && b) (judged_untouched labels more)
  judged_untouched labels (broken_at p ∷ more) = judged_untouched labels more
  judged_untouched labels (overlong ∷ more) = judged_untouched labels more

  -- a verdict lets a path pass exactly if it is acceptable
  passes_if_acceptable : (p : Text) → passes (verdict_of m allowed restrictions p) ≡ acceptable m allowed restrictions p
  unfolding acceptable
  passes_if_acceptable p = at (m.kind (parts p)) (allowed p) (unrestricted restrictions p)
    where
      at : (k : Kind) (a b : Bool) → passes (by_kind k a b) ≡ (is_file k && (a && b))
      at kind.Nothing a b = refl
      at kind.Directory a b = refl
      at kind.File true true = refl
      at kind.File true false = refl
      at kind.File false b = refl

  abbrev first : List Candidate → Option Text
  first cs = first_acceptable (map (judged m allowed restrictions) cs)

  -- one more candidate in front that does not pass
  behind_one : (c : Candidate) (more : List Candidate) (p : Text) → NonePasses m allowed restrictions (c ∷ []) → First m allowed restrictions more p → First m allowed restrictions (c ∷ more) p
  behind_one c more p n f = record {
    before = c ∷ f.before;
    behind = f.behind;
    stands_there = ap (λ (cs : List Candidate). c ∷ cs) f.stands_there;
    none_before = (n.0, f.none_before);
    is_acceptable = f.is_acceptable;
  }

  some_is_first : (cs : List Candidate) (p : Text) → first cs ≡ Some p → First m allowed restrictions cs p
  some_is_first [] p e = absurd (let z : None ≡ Some p = e in cc)
  some_is_first (broken_at q ∷ more) p e = behind_one (broken_at q) more p (refl, tt) (some_is_first more p e)
  some_is_first (overlong ∷ more) p e = behind_one overlong more p (refl, tt) (some_is_first more p e)
  some_is_first (try q ∷ more) p e = at (passes (verdict_of m allowed restrictions q)) (sym (passes_if_acceptable q)) e (some_is_first more p)
    where
      at : (b : Bool) → acceptable m allowed restrictions q ≡ b → cond b (Some q) (first more) ≡ Some p → (first more ≡ Some p → First m allowed restrictions more p) → First m allowed restrictions (try q ∷ more) p
      at true a h ih =
          let same : q ≡ p = cc in
          record {
            before = [];
            behind = more;
            stands_there = ap (λ (s : Text). try s ∷ more) same;
            none_before = tt;
            is_acceptable = ap (acceptable m allowed restrictions) (sym same) ∙ a;
          }
      at false a h ih = behind_one (try q) more p (a, tt) (ih h)

  none_passes : (cs : List Candidate) → first cs ≡ None → NonePasses m allowed restrictions cs
  none_passes [] e = tt
  none_passes (broken_at q ∷ more) e = (refl, none_passes more e)
  none_passes (overlong ∷ more) e = (refl, none_passes more e)
  none_passes (try q ∷ more) e = at (passes (verdict_of m allowed restrictions q)) (sym (passes_if_acceptable q)) e (none_passes more)
    where
      at : (b : Bool) → acceptable m allowed restrictions q ≡ b → cond b (Some q) (first more) ≡ None → (first more ≡ None → NonePasses m allowed restrictions more) → NonePasses m allowed restrictions (try q ∷ more)
      at true a h ih = absurd (let z : Some q ≡ None = h in cc)
      at false a h ih = (a, ih h)

-- the laws of quiet requests
first_law : QuietRequestGivesTheFirst
first_law m allowed t room dir r q p = gives_the_first m allowed t room dir r q p

none_law : NothingFoundIfNonePasses
none_law m allowed t room dir r q = nothing_if_none m allowed t room dir r q

-- and what they say of the first acceptable candidate
module _ (m : Meaning) (allowed : Allowed) (s : Settings) (lent : Room) (dir r : Text) (proper : Proper m) (asked : QuietQuestion m (tables s) dir r) (accepted : refusal lent dir r ≡ None) where
  call : QuietCall m (tables s) lent dir r
  call = record {
    proper = proper;
    limits = within_limits s;
    out_of_context = asked.out_of_context;
    accepted = accepted;
    quiet = asked.quiet;
  }

  pub answers_so : (o : Option Text) → first_acceptable (map (judged m allowed (tables s).restrictions) (candidates_of m (tables s) dir r)) ≡ o → answer m allowed (tables s) lent dir r ≡ quiet_outcome r o
  answers_so None e = (none_law m allowed (tables s) lent dir r call).1 (none_passes m allowed (tables s).restrictions (candidates_of m (tables s) dir r) e)
  answers_so (Some p) e = (first_law m allowed (tables s) lent dir r call p).1 (some_is_first m allowed (tables s).restrictions (candidates_of m (tables s) dir r) p e)

-- the first candidate in front of others
pub stays_first : (j : Judged) (more : List Judged) (p : Text) → first_acceptable (j ∷ []) ≡ Some p → first_acceptable (j ∷ more) ≡ Some p
stays_first (broken q) more p e = absurd (let z : None ≡ Some p = e in cc)
stays_first too_long more p e = absurd (let z : None ≡ Some p = e in cc)
stays_first (tried t v) more p e = at (passes v) e
  where
    at : (b : Bool) → cond b (Some t) None ≡ Some p → cond b (Some t) (first_acceptable more) ≡ Some p
    at true h = h
    at false h = absurd (let z : None ≡ Some p = h in cc)

pub passed_by : (j : Judged) (more : List Judged) → first_acceptable (j ∷ []) ≡ None → first_acceptable (j ∷ more) ≡ first_acceptable more
passed_by (broken q) more e = refl
passed_by too_long more e = refl
passed_by (tried t v) more e = at (passes v) e
  where
    at : (b : Bool) → cond b (Some t) None ≡ None → cond b (Some t) (first_acceptable more) ≡ first_acceptable more
    at true h = absurd (let z : Some t ≡ None = h in cc)
    at false h = refl
