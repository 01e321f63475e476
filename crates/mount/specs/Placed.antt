-- Lemmas for the law of a mount, which cites no proofs/: what its path has, and what both hosts together keep. Assumes nothing.
use Rattle.std.specs.Prelude.{◌≡◌, ◌+◌, ◌<◌, ◌≤◌, Bool, true, false, cond, ◌&&◌, List, [], ◌∷◌, ◌++◌, length, Some, None, Option, nat_le, refl}
use Rattle.std.proofs.Common.{sym, ap, ◌∙◌, arith}
use Rattle.std.specs.List.{AllByRecursion}
use Rattle.std.proofs.lemmas.List.{length-append}
use Rattle.std.proofs.lemmas.Bool.{and_parts, leb-true}
use Rattle.texts.specs.Parts.{Mark, clean, marks, parts, texts_of, written}
use Rattle.texts.specs.Texts.{SLASH, Text, begins}
use Rattle.texts.proofs.CleanPaths.{clean_names, clean_written}
use Rattle.tree.specs.Meanings.{Finding, FoundWell, Meaning, Noted, Path, Proper, faulty, found, mains, missing}
use Rattle.mount.specs.Mounts.{chosen, in_front, mountable, mounted, stripped}

some_marks : (ms : List Mark) (t : Text) → written (texts_of ms) ≡ t → 2 ≤ length t → 0 < length ms
some_marks [] t e h = let z : length t ≡ 0 = ap length (sym e) in absurd (omega arith)
some_marks (m ∷ ms) t e h = omega arith

pub mountable_clean : (at : Text) → mountable at ≡ true → (clean at ≡ true) × (2 ≤ length at) × (length at ≤ 16)
unfolding mountable
mountable_clean at e =
    let both = and_parts (clean at) (nat_le 2 (length at) && nat_le (length at) 16) e in
    let sizes = and_parts (nat_le 2 (length at)) (nat_le (length at) 16) both.1 in
    (both.0, leb-true 2 (length at) sizes.0, leb-true (length at) 16 sizes.1)

pub mountable_marks : (at : Text) → mountable at ≡ true → 0 < length (marks at)
unfolding parts
mountable_marks at e =
    let h = mountable_clean at e in
    some_marks (marks at) at (clean_written at h.0) h.1

pub mountable_parts : (at : Text) → mountable at ≡ true → 0 < length (parts at)
unfolding parts
mountable_parts at e = at' (marks at) (mountable_marks at e)
  where
    at' : (ms : List Mark) → 0 < length ms → 0 < length (texts_of ms)
    at' [] h = h
    at' (m ∷ ms) h = omega arith

mountable_begins : (at more : Text) → mountable at ≡ true → begins SLASH (at ++ more) ≡ true
mountable_begins at more e =
    let n = clean_names at (mountable_clean at e).0 in
    ap (λ (t : Text). begins SLASH (t ++ more)) n.2

nowhere_below : (mount : Path) → 0 < length mount → stripped mount [] ≡ None
nowhere_below [] h = absurd (omega arith)
nowhere_below (p ∷ ps) h = refl

chosen_each : {X : Type 0} (P : X → Type 0) (o : Option Path) (x : X) (f : Path → X) → P x → ((p : Path) → P (f p)) → P (chosen o x f)
chosen_each P None x f h k = h
chosen_each P (Some p) x f h k = k p

front_well : (at : Text) (x : Finding) → mountable at ≡ true → FoundWell (in_front at x)
front_well at (found p) e = fits (nat_le (length at + length p) 255) (leb-true (length at + length p) 255)
  where
    fits : (b : Bool) → (b ≡ true → length at + length p ≤ 255) → FoundWell (cond b (found (at ++ p)) missing)
    fits true h = let l = h refl in (mountable_begins at p e, simp length-append (omega arith))
    fits false h = tt
front_well at missing e = tt
front_well at faulty e = tt

pub mounted_proper : (at : Text) (a b : Meaning) → mountable at ≡ true → Proper a → Proper b → Proper (mounted at a b)
mounted_proper at a b e pa pb = record {
  nowhere = ap (λ (o : Option Path). chosen o (a.kind []) b.kind) (nowhere_below (parts at) (mountable_parts at e)) ∙ pa.nowhere;
  few_mains = λ p. chosen_each (λ (m : Noted). length (mains m) ≤ 255) (stripped (parts at) p) (a.manifest p) b.manifest (pa.few_mains p) pb.few_mains;
  short_mains = λ p. chosen_each (λ (m : Noted). AllByRecursion (λ t. length t ≤ 32) (mains m)) (stripped (parts at) p) (a.manifest p) b.manifest (pa.short_mains p) pb.short_mains;
  found_well = λ w r d. chosen_each FoundWell (stripped (parts at) d) (a.lookup w r d) (λ d'. in_front at (b.lookup w r d')) (pa.found_well w r d) (λ d'. front_well at (b.lookup w r d') e);
}
