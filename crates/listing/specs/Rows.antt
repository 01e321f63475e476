-- The rows of a listing, and what every kept row has. Assumes nothing.
use Rattle.std.specs.Prelude.{Bool, true, false, ◌&&◌, List, [], ◌∷◌, length}
use Rattle.texts.specs.Texts.{Text}
use Rattle.texts.specs.Held.{bytes_of}
use Rattle.tree.specs.declared.answers.Kind.{Kind}
use Rattle.tree.specs.declared.answers.Kind.TheVariants as kind
use Rattle.listing.specs.declared.kinds.LineKind.{LineKind}
use Rattle.listing.specs.declared.kinds.LineKind.TheVariants.{File, Directory, BrokenManifest, Manifest, Main, Package, Hash}
use Rattle.listing.specs.declared.line.Line.{Line}
use Rattle.listing.specs.Kinds.{formed, sized}

-- a row: a kind and two texts
pub record Row : Type 0 where
  pub kind : LineKind
  pub first : Text
  pub second : Text

-- the row with this kind and these texts
abbrev pub row_of : LineKind → Text → Text → Row
row_of k a b = record { kind = k; first = a; second = b }

-- the row that a line holds
abbrev pub row : Line → Row
row l = row_of l.kind (bytes_of l.first) (bytes_of l.second)

-- a kept row has lengths and a form that its kind takes
abbrev pub fit : Row → Bool
fit r = sized r.kind (length r.first) (length r.second) && formed r.kind r.first r.second

-- every row has
abbrev pub all_fit : List Row → Bool
all_fit [] = true
all_fit (r ∷ rs) = fit r && all_fit rs

-- the kind that a row gives its path
abbrev pub kind_listed : LineKind → Kind
kind_listed File = kind.File
kind_listed Directory = kind.Directory
kind_listed BrokenManifest = kind.Nothing
kind_listed Manifest = kind.Nothing
kind_listed Main = kind.Nothing
kind_listed Package = kind.Nothing
kind_listed Hash = kind.Nothing

-- a manifest that is not broken
abbrev pub is_manifest : LineKind → Bool
is_manifest File = false
is_manifest Directory = false
is_manifest BrokenManifest = false
is_manifest Manifest = true
is_manifest Main = false
is_manifest Package = false
is_manifest Hash = false

-- a main text
abbrev pub is_main : LineKind → Bool
is_main File = false
is_main Directory = false
is_main BrokenManifest = false
is_main Manifest = false
is_main Main = true
is_main Package = false
is_main Hash = false
