-- The first part of a text, and the way of a path by its first bytes. Assumes nothing.
use Rattle.std.proofs.Common.{◌≡◌, ℕ, suc, Bool, true, false, cond, ◌&&◌, ◌||◌, eqb, List, [], ◌∷◌, take, sym, refl, ap, ◌∙◌}
use Rattle.std.proofs.lemmas.Bool.{true≢false, eqb-true}
use Rattle.std.specs.Str.{bytes_eq}
use Rattle.specifier.specs.declared.branch.Branch.{Branch}
use Rattle.specifier.specs.declared.branch.Branch.TheVariants.{Absolute, Relative, Hash, Package}
use Rattle.specifier.specs.Branches.{way, branch, is_absolute}
use Rattle.texts.specs.Parts.{root, here, parts, marks, pieces, before, headed, placed, texts_of}
use Rattle.texts.specs.Texts.{Text, HASH, DOT, SLASH, begins, until}
use Rattle.texts.proofs.Scans.{others, pieces_split}

-- a text has a first piece: what stands before the first slash
first_piece : (s : Text) → (rest : List Text) × (pieces s ≡ take (until SLASH s) s ∷ rest)
first_piece s = (others s, pieces_split s)

-- a first piece with a byte is the first part
headed_by_name : (b : ℕ) (p : Text) (ps : List Text) → (rest : List Text) × (texts_of (headed (placed 0 ((b ∷ p) ∷ ps))) ≡ (b ∷ p) ∷ rest)
headed_by_name b p [] = ([], refl)
headed_by_name b p (q ∷ ps) = (_, refl)

-- the first part: the root where a slash leads, else the first piece
abbrev pub first : Text → Text
first s = cond (begins SLASH s) root (take (until SLASH s) s)

pub first_part : (b : ℕ) (s : Text) → (rest : List Text) × (parts (b ∷ s) ≡ first (b ∷ s) ∷ rest)
unfolding pieces marks parts
first_part b s =
    let more = first_piece s in
    let named = headed_by_name b (take (until SLASH s) s) more.0 in
    elim (eqb b SLASH) as (λ t. (rest : List Text) × (texts_of (headed (placed 0 (cond t ([] ∷ pieces s) (before b (pieces s))))) ≡ cond t root (take (cond t 0 (suc (until SLASH s))) (b ∷ s)) ∷ rest)) [
      | true ↦ (_, ap (λ ps. texts_of (headed (placed 0 ([] ∷ ps)))) more.1)
      | false ↦ (named.0, ap (λ ps. texts_of (headed (placed 0 (before b ps)))) more.1 ∙ named.1)
    ]

-- the way follows from the first part alone
branch_by_first : (b : ℕ) (s : Text) → branch (b ∷ s) ≡ way (b ∷ s) (first (b ∷ s) ∷ [])
unfolding branch
branch_by_first b s = ap (way (b ∷ s)) (first_part b s).1

-- what follows the first dot of a relative path
abbrev pub dots : Text → Bool
dots [] = true
dots (c ∷ []) = cond (eqb c SLASH) true (eqb c DOT)
dots (c ∷ d ∷ s) = cond (eqb c SLASH) true (cond (eqb c DOT) (eqb d SLASH) false)

-- the way by the first three bytes
abbrev pub by_bytes : Text → Branch
by_bytes [] = Package
by_bytes (b ∷ s) = cond (eqb b SLASH) Absolute (cond (eqb b DOT) (cond (dots s) Relative Package) (cond (eqb b HASH) Hash Package))

-- a piece behind a dot that is empty or one dot more
abbrev dotted : Text → Bool
dotted p = bytes_eq p [] || bytes_eq p here

dots_is : (s : Text) → dotted (take (until SLASH s) s) ≡ dots s
dots_is [] = refl
dots_is (c ∷ []) =
    elim (eqb c SLASH) as (λ t. dotted (take (cond t 0 1) (c ∷ [])) ≡ cond t true (eqb c DOT)) [
      | true ↦ refl
      | false ↦ elim (eqb c DOT) as (λ t. (false || (t && true)) ≡ t) [ true ↦ refl | false ↦ refl ]
    ]
dots_is (c ∷ d ∷ s) =
    elim (eqb c SLASH) as (λ t. dotted (take (cond t 0 (suc (until SLASH (d ∷ s)))) (c ∷ d ∷ s)) ≡ cond t true (cond (eqb c DOT) (eqb d SLASH) false)) [
      | true ↦ refl
      | false ↦ elim (eqb c DOT) as (λ t. (false || (t && bytes_eq (take (until SLASH (d ∷ s)) (d ∷ s)) [])) ≡ cond t (eqb d SLASH) false) [
        | true ↦ elim (eqb d SLASH) as (λ t. bytes_eq (take (cond t 0 (suc (until SLASH s))) (d ∷ s)) [] ≡ t) [ true ↦ refl | false ↦ refl ]
        | false ↦ refl
      ]
    ]

-- a dot is no `#`
dot_no_hash : (b : ℕ) → eqb b DOT ≡ true → eqb b HASH ≡ false
dot_no_hash b e = ap (λ n. eqb n HASH) (eqb-true b DOT e)

-- the way of a path whose first part is a name: x, y and z say whether it begins with `/`, `.` and `#`, m and n whether nothing or a dot follows
named_way : (x y z m n : Bool) → x ≡ false → (y ≡ true → z ≡ false) → cond y (cond (m || n) Relative Package) (cond z Hash Package) ≡ cond (x && m) Absolute (cond ((y && m) || (y && n)) Relative (cond z Hash Package))
named_way true y z m n e f = absurd (true≢false e)
named_way false true z m n e f = ap (λ t. cond (m || n) Relative (cond t Hash Package)) (sym (f refl))
named_way false false z m n e f = refl

by_first : (b : ℕ) (s : Text) (x : Bool) → eqb b SLASH ≡ x → cond x Absolute (cond (eqb b DOT) (cond (dots s) Relative Package) (cond (eqb b HASH) Hash Package)) ≡ way (b ∷ s) (cond x root (take (cond x 0 (suc (until SLASH s))) (b ∷ s)) ∷ [])
by_first b s true e = refl
by_first b s false e =
    let p = take (until SLASH s) s in
    ap (λ t. cond (eqb b DOT) (cond t Relative Package) (cond (eqb b HASH) Hash Package)) (sym (dots_is s))
    ∙ named_way (eqb b SLASH) (eqb b DOT) (eqb b HASH) (bytes_eq p []) (bytes_eq p here) e (dot_no_hash b)

by_bytes_is : (s : Text) → by_bytes s ≡ branch s
unfolding branch parts marks pieces
by_bytes_is [] = refl
by_bytes_is (b ∷ s) = by_first b s (eqb b SLASH) refl ∙ sym (branch_by_first b s)

is_absolute_by_bytes : (s : Text) → is_absolute (by_bytes s) ≡ begins SLASH s
is_absolute_by_bytes [] = refl
is_absolute_by_bytes (b ∷ s) =
    elim (eqb b SLASH) as (λ t. is_absolute (cond t Absolute (cond (eqb b DOT) (cond (dots s) Relative Package) (cond (eqb b HASH) Hash Package))) ≡ t) [
      | true ↦ refl
      | false ↦ elim (eqb b DOT) as (λ t. is_absolute (cond t (cond (dots s) Relative Package) (cond (eqb b HASH) Hash Package)) ≡ false) [
        | true ↦ elim (dots s) as (λ t. is_absolute (cond t Relative Package) ≡ false) [ true ↦ refl | false ↦ refl ]
        | false ↦ elim (eqb b HASH) as (λ t. is_absolute (cond t Hash Package) ≡ false) [ true ↦ refl | false ↦ refl ]
      ]
    ]

pub branch_is : (s : Text) → branch s ≡ by_bytes s
branch_is s = sym (by_bytes_is s)
