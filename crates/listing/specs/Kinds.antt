-- The kinds of lines by their numbers, what each kind takes, and the numbers of the refusals. Assumes nothing.
use Rattle.std.specs.Prelude.{ℕ, Bool, true, cond, ◌&&◌, ◌||◌, Some, None, Option, ◌==◌, nat_le}
use Rattle.texts.specs.Texts.{Text, empty}
use Rattle.texts.specs.Parts.{clean}
use Rattle.listing.specs.declared.kinds.LineKind.{LineKind}
use Rattle.listing.specs.declared.kinds.LineKind.TheVariants.{File, Directory, BrokenManifest, Manifest, Main, Package, Hash}
use Rattle.listing.specs.declared.refusals.Refusal.{Refusal}
use Rattle.listing.specs.declared.refusals.Refusal.TheVariants as refusal

-- the kind that an office gives a number
abbrev pub line_kind : ℕ → Option LineKind
line_kind n =
    cond (n == 1) (Some File)
    (cond (n == 2) (Some Directory)
    (cond (n == 3) (Some BrokenManifest)
    (cond (n == 4) (Some Manifest)
    (cond (n == 5) (Some Main)
    (cond (n == 9) (Some Package)
    (cond (n == 10) (Some Hash) None))))))

-- the number of a refusal
abbrev pub number : Refusal → ℕ
number refusal.Text = 11
number refusal.Full = 12
number refusal.Form = 13
number refusal.MainBeforeManifest = 14
number refusal.Kind = 15

-- a path of at most 255 bytes and no second text
abbrev pub path_sized : ℕ → ℕ → Bool
path_sized a b = nat_le a 255 && b == 0

-- a request of 1 to 96 bytes and a path of at most 255
abbrev pub request_sized : ℕ → ℕ → Bool
request_sized a b = nat_le 1 a && (nat_le a 96 && nat_le b 255)

-- the lengths of the two texts that a kind takes; a main text has at most 32 bytes
abbrev pub sized : LineKind → ℕ → ℕ → Bool
sized File a b = path_sized a b
sized Directory a b = path_sized a b
sized BrokenManifest a b = path_sized a b
sized Manifest a b = path_sized a b
sized Main a b = nat_le a 32 && b == 0
sized Package a b = request_sized a b
sized Hash a b = request_sized a b

-- the form of the two texts that a kind takes: a listed path is clean, a found one is clean or empty
abbrev pub formed : LineKind → Text → Text → Bool
formed File a b = clean a
formed Directory a b = clean a
formed BrokenManifest a b = clean a
formed Manifest a b = clean a
formed Main a b = true
formed Package a b = empty b || clean b
formed Hash a b = empty b || clean b
