-- A text that is written in turn. Assumes nothing.
use Rattle.std.proofs.Common.{◌≡◌, ℕ, ◌+◌, ◌<◌, List, [], ◌∷◌, ◌++◌, map, length, take, get_or, Some, None, Option, sym, ap, ◌∙◌, append_assoc}
use Rattle.std.proofs.lemmas.List.{append-nil, flat_map_more, map_push, take_more}
use Rattle.std.specs.Io.KnownBytes.{Appends}
use Rattle.std.specs.List.{flat_map}
use Rattle.std.proofs.Output.{has_written_append, has_written_of_eq, writes_in_calls_nil}
use Rattle.std.specs.declared.fmt.Formatter.{Formatter}
use Rattle.std.specs.Fmt.{HasWritten, IsPlainFormatter}

module _ {W : Type 0} (took : W → List ℕ → W → Type 0) (start : Formatter W) (whole : List ℕ) where
  -- once what is left is written, the whole is
  abbrev pub GoesOn : Formatter W → List ℕ → Type 0
  GoesOn now left = IsPlainFormatter now × ((end : Formatter W) → HasWritten took now left end → HasWritten took start whole end)

  -- a piece of what was left is written
  pub goes_on : (now then : Formatter W) (left piece rest : List ℕ) → left ≡ piece ++ rest → HasWritten took now piece then → GoesOn now left → GoesOn then rest
  goes_on now then left piece rest is wrote go =
      (wrote.plain, λ end more. go.1 end (has_written_of_eq took _ _ _ _ (sym is) (has_written_append took now piece then rest end wrote more)))

  -- nothing is left
  pub all_written : (now : Formatter W) (left : List ℕ) → left ≡ [] → GoesOn now left → HasWritten took start whole now
  all_written now left none go = go.1 now (has_written_of_eq took _ _ _ _ (sym none) (record { wrote = writes_in_calls_nil took now.writer; plain = go.0 }))

-- what is written of the items so far, and of the one at i
pub one_more : {X Y : Type 0} (f : X → Y) (words : Y → List ℕ) (xs : List X) (i : ℕ) (x : X) → i < length xs → x ≡ get_or xs i x → flat_map words (map f (take (i + 1) xs)) ≡ flat_map words (map f (take i xs)) ++ words (f x)
one_more f words xs i x inside is =
    ap (λ (ys : List _). flat_map words (map f ys)) (take_more xs i x inside ∙ ap (λ (y : _). take i xs ++ y ∷ []) (sym is))
    ∙ ap (flat_map words) (map_push f (take i xs) x)
    ∙ sym (flat_map_more words [] (map f (take i xs)) (f x))

-- a writer that took nothing
pub took_nothing : (a : Option (List ℕ)) → Appends a a []
took_nothing None = tt
took_nothing (Some x) = sym (append-nil x)

-- a writer that took one text and then another
pub took_both : (a b c : Option (List ℕ)) (s t : List ℕ) → Appends a b s → Appends b c t → Appends a c (s ++ t)
took_both None b c s t p q = tt
took_both (Some x) None c s t p q = absurd p
took_both (Some x) (Some y) None s t p q = absurd q
took_both (Some x) (Some y) (Some z) s t p q = q ∙ ap (λ (l : List ℕ). l ++ t) p ∙ append_assoc x s t
