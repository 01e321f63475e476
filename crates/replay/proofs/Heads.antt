-- A header has room for its head. Assumes nothing.
use Rattle.std.proofs.Common.{◌≡◌, ◌≤◌, Bool, true, false, cond, ◌&&◌, Some, None, Option, length, nat_le, refl, arith}
use Rattle.std.proofs.lemmas.Bool.Decides.{nat_tests}
use Rattle.texts.specs.Texts.{Text}
use Rattle.lines.specs.Sheets.{has_blanks, head_of}
use Rattle.lines.specs.declared.Head.{Head}

some_only_if : (b : Bool) (o : Option Head) (h : Head) → cond b o None ≡ Some h → b ≡ true
some_only_if true o h is = cc
some_only_if false o h is = cc

blanks_behind_12 : (t : Text) → has_blanks t ≡ true → 12 ≤ length t
unfolding has_blanks
blanks_behind_12 t is = let b : nat_le 12 (length t) ≡ true = at_left _ _ is in grind (arith, nat_tests)
  where
    at_left : (b d : Bool) → (b && d) ≡ true → b ≡ true
    at_left true d h = refl
    at_left false d h = cc

-- a text with a head has its twelve bytes
pub head_has_12 : (t : Text) (h : Head) → head_of t ≡ Some h → 12 ≤ length t
unfolding head_of
head_has_12 t h is = blanks_behind_12 t (some_only_if _ _ h is)
