-- A path with the mount in front of it, written in two steps. Assumes nothing.
use Rattle.std.proofs.Common.{◌≡◌, ℕ, ◌+◌, ◌≤◌, List, ◌++◌, length, take, drop, Some, Option, sym, refl, ap, ◌∙◌, arith}
use Rattle.std.proofs.lemmas.Bool.{cond-true, le-leb}
use Rattle.std.proofs.lemmas.List.{drop_at, drop-drop, length-append, length-drop}
use Rattle.texts.specs.Texts.{Text, appended, buffer_with, fronted, length_in}
use Rattle.texts.proofs.Buffers.{went_in}

module _ (at path out out₁ out₂ : List ℕ) (n : ℕ) (room : length at + length path ≤ length out) (first : Some n ≡ length_in (Some at) (length out)) (written : out₁ ≡ buffer_with (Some at) out) (more : out₂ ≡ buffer_with (appended n out₁ path) out₁) where
  went : (take n out₁ ≡ at) × (n ≡ length at) × (length at ≤ length out)
  went = went_in at out out₁ n first written

  front : out₁ ≡ fronted at out
  front = written ∙ cond-true _ _ _ (le-leb (length at) (length out) (omega (arith, room)))

  long : length out₁ ≡ length out
  long = omega (arith, ap length front, length-append at (drop (length at) out), length-drop (length at) out, room)

  both : appended n out₁ path ≡ Some (at ++ path)
  both = cond-true _ _ _ (le-leb n (length out₁) (omega (arith, went.1, long, room))) ∙ ap (λ (s : List ℕ). Some (s ++ path)) went.0

  behind : drop (length (at ++ path)) out₁ ≡ drop (length (at ++ path)) out
  behind =
      ap (λ (k : ℕ). drop k out₁) (length-append at path)
      ∙ sym (drop-drop (length path) (length at) out₁)
      ∙ ap (drop (length path)) (ap (drop (length at)) front ∙ drop_at at (drop (length at) out) (length at) refl)
      ∙ drop-drop (length path) (length at) out
      ∙ ap (λ (k : ℕ). drop k out) (sym (length-append at path))

  pub whole_in_front : out₂ ≡ buffer_with (Some (at ++ path)) out
  whole_in_front =
      more
      ∙ ap (λ (s : Option Text). buffer_with s out₁) both
      ∙ cond-true _ _ _ (le-leb (length (at ++ path)) (length out₁) (omega (arith, length-append at path, long, room)))
      ∙ ap (λ (s : List ℕ). (at ++ path) ++ s) behind
      ∙ sym (cond-true _ _ _ (le-leb (length (at ++ path)) (length out) (omega (arith, length-append at path, room))))
