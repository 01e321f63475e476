-- The rows that a listing has, which lines it refuses, and its rows after one was offered. Assumes nothing.
use Rattle.std.specs.Prelude.{ℕ, Bool, true, false, cond, not, ◌&&◌, List, [], ◌∷◌, ◌++◌, map, length, Some, None, Option, nat_le}
use Rattle.stack.specs.Held.{held}
use Rattle.texts.specs.Texts.{Text, printable}
use Rattle.listing.specs.declared.kinds.LineKind.{LineKind}
use Rattle.listing.specs.declared.kinds.LineKind.TheVariants.{File, Directory, BrokenManifest, Manifest, Main, Package, Hash}
use Rattle.listing.specs.declared.listing.Listing.{Listing}
use Rattle.listing.specs.declared.refusals.Refusal.{Refusal}
use Rattle.listing.specs.declared.refusals.Refusal.TheVariants as refusals
use Rattle.listing.specs.Kinds.{formed, line_kind, sized}
use Rattle.listing.specs.Rows.{Row, is_manifest, row, row_of}

-- the rows of a listing, in their order
abbrev pub rows : Listing → List Row
rows s = map row (held s.lines)

-- some row is a manifest that is not broken
abbrev pub has_manifest : List Row → Bool
has_manifest [] = false
has_manifest (r ∷ rs) = cond (is_manifest r.kind) true (has_manifest rs)

-- a main text with no manifest before it
abbrev pub headless : LineKind → List Row → Bool
headless File rs = false
headless Directory rs = false
headless BrokenManifest rs = false
headless Manifest rs = false
headless Main rs = not (has_manifest rs)
headless Package rs = false
headless Hash rs = false

-- the lengths and the bytes are what the kind takes
abbrev pub spelled : LineKind → Text → Text → Bool
spelled k a b = sized k (length a) (length b) && (printable a && printable b)

-- why a line of a kind cannot stand behind these rows, in the order of the checks, the one for room aside
abbrev pub unlisted : List Row → LineKind → Text → Text → Option Refusal
unlisted rs k a b =
    cond (headless k rs) (Some refusals.MainBeforeManifest)
    (cond (not (spelled k a b)) (Some refusals.Text)
    (cond (not (formed k a b)) (Some refusals.Form) None))

-- why a line of a kind is refused, in the order of the checks; none if it is taken
abbrev pub refusal_of : List Row → LineKind → Text → Text → Option Refusal
refusal_of rs k a b =
    cond (headless k rs) (Some refusals.MainBeforeManifest)
    (cond (not (spelled k a b)) (Some refusals.Text)
    (cond (not (formed k a b)) (Some refusals.Form)
    (cond (nat_le 256 (length rs)) (Some refusals.Full) None)))

-- the same for a number that may be none of a kind
abbrev pub refusal_by : List Row → Option LineKind → Text → Text → Option Refusal
refusal_by rs None a b = Some refusals.Kind
refusal_by rs (Some k) a b = refusal_of rs k a b

-- why a line is refused; none if it is taken
unfoldable pub refusal : List Row → ℕ → Text → Text → Option Refusal
refusal rs n a b = refusal_by rs (line_kind n) a b

-- the row that a line with this number is
abbrev pub new_row : Option LineKind → Text → Text → List Row
new_row None a b = []
new_row (Some k) a b = row_of k a b ∷ []

-- the old rows, and the new one behind them unless it is refused
abbrev pub with_row : Option Refusal → List Row → List Row → List Row
with_row None rs new = rs ++ new
with_row (Some e) rs new = rs

-- the rows after a line was offered
unfoldable pub rows_after : List Row → ℕ → Text → Text → List Row
rows_after rs n a b = with_row (refusal rs n a b) rs (new_row (line_kind n) a b)
