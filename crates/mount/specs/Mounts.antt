-- Two hosts, the second below a path: which paths go where, and what both together mean. Assumes nothing.
use Rattle.std.specs.Prelude.{◌≡◌, ◌+◌, ◌≤◌, max, Bool, cond, ◌&&◌, [], ◌∷◌, ◌++◌, length, Some, None, Option, MatchOption, nat_le}
use Rattle.std.specs.Str.{bytes_eq}
use Rattle.texts.specs.Parts.{clean, parts, root}
use Rattle.texts.specs.Texts.{Text}
use Rattle.tree.specs.Meanings.{Finding, Meaning, Path, Question, faulty, forgetting, found, kind_of, lookup_of, manifest_of, missing}

-- a path that a host can be mounted at: clean, 2 to 16 bytes
unfoldable pub mountable : Text → Bool
mountable at = clean at && (nat_le 2 (length at) && nat_le (length at) 16)

-- a list of parts without the mount's parts in front, which give way to the root; none if it does not begin with them
abbrev pub stripped : Path → Path → Option Path
stripped [] qs = Some (root ∷ qs)
stripped (p ∷ ps) [] = None
stripped (p ∷ ps) (q ∷ qs) = cond (bytes_eq p q) (stripped ps qs) None

-- below the mount the second decides, elsewhere the first
abbrev pub chosen : {X : Type 0} → Option Path → X → (Path → X) → X
chosen None x f = x
chosen (Some p) x f = f p

-- a path that the second found gets the mount in front; past 255 bytes it is missing
abbrev pub in_front : Text → Finding → Finding
in_front at (found p) = cond (nat_le (length at + length p) 255) (found (at ++ p)) missing
in_front at missing = missing
in_front at faulty = faulty

-- what a host means with another mounted at a path: kinds and manifests go by the path, lookups by the directory
abbrev pub mounted : Text → Meaning → Meaning → Meaning
mounted at a b = record {
  kind = λ p. chosen (stripped (parts at) p) (a.kind p) b.kind;
  manifest = λ p. chosen (stripped (parts at) p) (a.manifest p) b.manifest;
  lookup = λ w r d. chosen (stripped (parts at) d) (a.lookup w r d) (λ e. in_front at (b.lookup w r e));
}

-- the second was asked about some text with these parts
pub record AskedBelow (q : Path) (t : Text) (Second : Text → Type 0) : Type 0 where
  pub rest : Text
  pub same : parts rest ≡ q
  pub short : length rest ≤ max 1 (length t)
  pub asked : Second rest

-- which side a question goes to: the other is left as it was; both forget
abbrev pub Routed : Path → Question → Type 0 → (Question → Type 0) → Type 0 → Type 0
Routed mount (kind_of t) First Second Both = MatchOption (stripped mount (parts t)) First (λ q. AskedBelow q t (λ r. Second (kind_of r)))
Routed mount (manifest_of t) First Second Both = MatchOption (stripped mount (parts t)) First (λ q. AskedBelow q t (λ r. Second (manifest_of r)))
Routed mount (lookup_of w x t) First Second Both = MatchOption (stripped mount (parts t)) First (λ q. AskedBelow q t (λ r. Second (lookup_of w x r)))
Routed mount forgetting First Second Both = Both
