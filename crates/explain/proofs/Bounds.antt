-- Accepted requests are short, so that no text on the way is refused. Assumes nothing.
use Rattle.std.proofs.Common.{◌≡◌, ℕ, ◌-◌, ◌<◌, ◌≤◌, true, ◌&&◌, leb, List, length, take, is_some, Some, None, Ok, Err, Option, sym, refl, ap, ◌∙◌, arith, MatchOption}
use Rattle.std.specs.Option.{option_map}
use Rattle.std.proofs.lemmas.List.{length-drop, length-take}
use Rattle.std.proofs.lemmas.Bool.{and_parts, cond-true, le-leb, leb-true}
use Rattle.texts.specs.Held.{bytes_of}
use Rattle.texts.specs.declared.text.Text as held
use Rattle.texts.specs.Texts.{Text, ascii, buffer_with, length_in, unslashed}
use Rattle.texts.specs.Parts.{clean}
use Rattle.specifier.specs.declared.branch.Branch.{Branch}
use Rattle.specifier.specs.declared.branch.Branch.TheVariants.{Absolute, Relative, Hash, Package}
use Rattle.specifier.specs.declared.request.Specifier.{Specifier}
use Rattle.specifier.specs.declared.request.SpecifierError.{SpecifierError}
use Rattle.specifier.specs.Accepted.{askable, startable}
use Rattle.specifier.specs.Branches.{branch}
use Rattle.specifier.specs.Requests.{fragment_of, path_of, query_of, raw_path, specifier_of}
use Rattle.specifier.specs.Sought.{sought_on, sought_path}
use Rattle.paths.specs.Joins.{join, joined}
use Rattle.paths.proofs.JoinLaws.{join_short}
use Rattle.texts.proofs.Buffers.{went_in}
use Rattle.texts.proofs.PartLoops.{some≢none}
use Rattle.specifier.proofs.Copies.{unescaped_le}
use Rattle.lookup.proofs.Areas.{unslashed_short}
use Rattle.explain.specs.declared.refusal.Refusal.TheVariants.{Empty}
use Rattle.explain.specs.Readings.{Meaning, looks, meant, meant_by, within}

pub path_short : (request : Text) → askable request ≡ true → length (path_of request) ≤ 96
unfolding path_of
path_short request h =
    let short : length request ≤ 96 = leb-true _ _ (and_parts (leb (length request) 96) (ascii request) h).0 in
    let taken : length (raw_path request) ≤ length request = simp (length-take, length-drop) (omega arith) in
    omega (arith, unescaped_le (raw_path request))

-- accepted requests look for a path on the absolute and the relative way
pub sought_there : (directory request : Text) → startable directory ≡ true → askable request ≡ true → is_some (sought_path directory (path_of request)) ≡ looks (branch (path_of request))
sought_there directory request s a = on (branch (path_of request))
  where
    on : (w : Branch) → is_some (sought_on w directory (path_of request)) ≡ looks w
    on Absolute = refl
    on Relative =
        let start : length directory ≤ 80 = leb-true _ _ (and_parts (leb (length directory) 80) (ascii directory && clean directory) s).0 in
        let path : length (path_of request) ≤ 96 = path_short request a in
        ap is_some (cond-true _ (Some (join directory (path_of request))) None ((join_short directory (path_of request)).1 (omega arith)))
    on Hash = refl
    on Package = refl

-- a text that was held
pub held_text : (r : Option (held.Text 255)) (s : Text) → MatchOption r (255 < length s) (λ t. bytes_of t ≡ s) → length s ≤ 255 → option_map bytes_of r ≡ Some s
held_text None s h short = absurd (omega arith)
held_text (Some t) s h short = ap Some h

-- a text that went into a work buffer and is taken out again
pub taken_out : (made : Option Text) (out work : List ℕ) (len : ℕ) → Some len ≡ length_in made (length out) → work ≡ buffer_with made out
    → (s : Text) × (made ≡ Some s) × (take (len - 0) work ≡ s) × (length s ≤ length out)
taken_out None out work len e w = absurd (some≢none e)
taken_out (Some s) out work len e w =
    let in_it = went_in s out work len e w in
    let from : len - 0 ≡ len = omega arith in
    (s, refl, ap (λ (n : ℕ). take n work) from ∙ in_it.0, in_it.2)

pub within_some : (s : Text) → length s ≤ 255 → within (Some s) ≡ Some s
within_some s h = cond-true _ _ _ (le-leb (length s) 255 h)

-- what an accepted request looks for is short
pub sought_within : (directory request : Text) → startable directory ≡ true → askable request ≡ true → within (sought_path directory (path_of request)) ≡ sought_path directory (path_of request)
sought_within directory request s a = on (branch (path_of request))
  where
    on : (w : Branch) → within (sought_on w directory (path_of request)) ≡ sought_on w directory (path_of request)
    on Absolute = within_some (unslashed (path_of request)) (omega (arith, path_short request a, unslashed_short (path_of request)))
    on Relative =
        let start : length directory ≤ 80 = leb-true _ _ (and_parts (leb (length directory) 80) (ascii directory && clean directory) s).0 in
        let path : length (path_of request) ≤ 96 = path_short request a in
        let short = join_short directory (path_of request) in
        let is : joined directory (path_of request) ≡ Some (join directory (path_of request)) = cond-true _ _ _ (short.1 (omega arith)) in
        ap within is ∙ within_some (join directory (path_of request)) (omega (arith, short.0)) ∙ sym is
    on Hash = refl
    on Package = refl

-- what is meant by an accepted request
module _ (directory request : Text) (s : startable directory ≡ true) (a : askable request ≡ true) where
  meant_read : meant directory request ≡ meant_by directory request (specifier_of request)
  meant_read = cond-true _ _ _ s ∙ cond-true _ _ _ a

  pub meant_empty : (e : SpecifierError) → Err e ≡ specifier_of request → Err Empty ≡ meant directory request
  meant_empty e is = ap (meant_by directory request) is ∙ sym meant_read

  pub meant_whole : (r : Specifier) → Ok r ≡ specifier_of request → (m : Meaning)
      → m ≡ record { path = path_of request; query = query_of request; fragment = fragment_of request; way = branch (path_of request); sought = sought_path directory (path_of request) }
      → Ok m ≡ meant directory request
  meant_whole r is m e = ap Ok e ∙ ap (meant_by directory request) is ∙ sym meant_read
