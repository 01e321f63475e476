-- What rows mean: the first row that fits a question decides. Assumes nothing.
use Rattle.std.specs.Prelude.{◌≡◌, ℕ, ◌+◌, ◌<◌, Bool, true, false, cond, ◌&&◌, List, [], ◌∷◌, length, drop, Some, None, Option}
use Rattle.std.specs.Str.{bytes_eq}
use Rattle.texts.specs.Texts.{Text}
use Rattle.texts.specs.Parts.{parts, same_parts}
use Rattle.tree.specs.declared.answers.Kind.{Kind}
use Rattle.tree.specs.declared.answers.Kind.TheVariants as kind
use Rattle.tree.specs.declared.answers.Way.{Way}
use Rattle.tree.specs.declared.answers.Way.TheVariants as way
use Rattle.tree.specs.Meanings.{Finding, Meaning, Noted, Path, found, missing, faulty, unnoted, unreadable, noted}
use Rattle.listing.specs.declared.kinds.LineKind.{LineKind}
use Rattle.listing.specs.declared.kinds.LineKind.TheVariants.{File, Directory, BrokenManifest, Manifest, Main, Package, Hash}
use Rattle.listing.specs.declared.kinds.Topic.{Topic}
use Rattle.listing.specs.declared.kinds.Topic.TheVariants as topic
use Rattle.listing.specs.Rows.{Row, kind_listed}

-- a question: the kind or the manifest at a path, or where a request leads
pub data Asked : Type 0 where
  kind_at : Path → Asked
  manifest_at : Path → Asked
  way_of : Way → Text → Asked

-- what is asked about a text
abbrev pub asked : Topic → Text → Asked
asked topic.Kind t = kind_at (parts t)
asked topic.Manifest t = manifest_at (parts t)
asked (topic.Lookup w) t = way_of w t

-- a row lists a file or a directory
abbrev pub lists_kind : LineKind → Bool
lists_kind File = true
lists_kind Directory = true
lists_kind BrokenManifest = false
lists_kind Manifest = false
lists_kind Main = false
lists_kind Package = false
lists_kind Hash = false

-- a row lists a manifest, a broken one or not
abbrev pub lists_manifest : LineKind → Bool
lists_manifest File = false
lists_manifest Directory = false
lists_manifest BrokenManifest = true
lists_manifest Manifest = true
lists_manifest Main = false
lists_manifest Package = false
lists_manifest Hash = false

-- a row lists a package
abbrev pub lists_package : LineKind → Bool
lists_package File = false
lists_package Directory = false
lists_package BrokenManifest = false
lists_package Manifest = false
lists_package Main = false
lists_package Package = true
lists_package Hash = false

-- a row lists a hash
abbrev pub lists_hash : LineKind → Bool
lists_hash File = false
lists_hash Directory = false
lists_hash BrokenManifest = false
lists_hash Manifest = false
lists_hash Main = false
lists_hash Package = false
lists_hash Hash = true

-- a row lists what a lookup asks for
abbrev pub lists_way : Way → LineKind → Bool
lists_way way.Package k = lists_package k
lists_way way.Hash k = lists_hash k

-- a row fits a question: paths are the same part for part, requests byte for byte
abbrev pub fits : Asked → Row → Bool
fits (kind_at p) r = lists_kind r.kind && same_parts (parts r.first) p
fits (manifest_at p) r = lists_manifest r.kind && same_parts (parts r.first) p
fits (way_of w q) r = lists_way w r.kind && bytes_eq r.first q

-- the place of the first row that fits, where the first row has the place n
abbrev pub place_from : ℕ → Asked → List Row → Option ℕ
place_from n q [] = None
place_from n q (r ∷ rs) = cond (fits q r) (Some n) (place_from (n + 1) q rs)

-- the place of the first row that fits
abbrev pub place : Asked → List Row → Option ℕ
place q rs = place_from 0 q rs

-- the rows from the first that fits on: it decides
abbrev pub deciding : Asked → List Row → List Row
deciding q [] = []
deciding q (r ∷ rs) = cond (fits q r) (r ∷ rs) (deciding q rs)

-- the row at a place decides
abbrev pub DecidesAt : Asked → List Row → ℕ → Type 0
DecidesAt q rs i = (i < length rs) × (deciding q rs ≡ drop i rs)

-- the main texts of a manifest, by the next row and the main texts behind that: another manifest ends them
abbrev pub mains_with : LineKind → Text → List Text → List Text
mains_with File t ts = ts
mains_with Directory t ts = ts
mains_with BrokenManifest t ts = ts
mains_with Manifest t ts = []
mains_with Main t ts = t ∷ ts
mains_with Package t ts = ts
mains_with Hash t ts = ts

-- the main texts of a manifest, by the rows behind it
abbrev pub mains_behind : List Row → List Text
mains_behind [] = []
mains_behind (r ∷ rs) = mains_with r.kind r.first (mains_behind rs)

-- the kind that the deciding row gives
abbrev pub kind_by : List Row → Kind
kind_by [] = kind.Nothing
kind_by (r ∷ rs) = kind_listed r.kind

-- the manifest that a row of this kind gives, with these main texts behind it
abbrev pub manifest_listed : LineKind → List Text → Noted
manifest_listed File ts = unnoted
manifest_listed Directory ts = unnoted
manifest_listed BrokenManifest ts = unreadable
manifest_listed Manifest ts = noted ts
manifest_listed Main ts = unnoted
manifest_listed Package ts = unnoted
manifest_listed Hash ts = unnoted

-- the manifest that the deciding row gives
abbrev pub manifest_by : List Row → Noted
manifest_by [] = unnoted
manifest_by (r ∷ rs) = manifest_listed r.kind (mains_behind rs)

-- the path of a lookup: an empty one means that it is broken
abbrev pub path_listed : Text → Finding
path_listed [] = faulty
path_listed (b ∷ s) = found (b ∷ s)

-- what the deciding row finds
abbrev pub finding_by : List Row → Finding
finding_by [] = missing
finding_by (r ∷ rs) = path_listed r.second

-- what rows mean; a lookup ignores the directory
abbrev pub listed : List Row → Meaning
listed rs = record {
  kind = λ p. kind_by (deciding (kind_at p) rs);
  manifest = λ p. manifest_by (deciding (manifest_at p) rs);
  lookup = λ w q d. finding_by (deciding (way_of w q) rs);
}
