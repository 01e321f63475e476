-- What holds of every request: the words that the laws of reading are stated in. Assumes nothing.
use Rattle.std.specs.Prelude.{◌≡◌, ℕ, Bool, true, false, [], ◌++◌, Some, None, Option}
use Rattle.specifier.specs.declared.request.Specifier.{Specifier}
use Rattle.specifier.specs.Requests.{unescaped, piece_at, raw_path, path_of, query_of, fragment_of}
use Rattle.texts.specs.Parts.{text_at}
use Rattle.texts.specs.Texts.{Text, begins, empty}

-- a piece, or no byte where there is none
abbrev pub bytes_of : Option Text → Text
bytes_of None = []
bytes_of (Some s) = s

-- the pieces of a request, one after the other
abbrev pub together : Text → Text
together s = raw_path s ++ (bytes_of (query_of s) ++ bytes_of (fragment_of s))

-- a piece that is there begins with b
abbrev pub marked : ℕ → Option Text → Bool
marked b None = true
marked b (Some s) = begins b s

-- the request is its path, unchanged
pub record AllPath (s : Text) : Type 0 where
  pub path : path_of s ≡ s
  pub no_query : query_of s ≡ None
  pub no_fragment : fragment_of s ≡ None

-- a request that is read: its places are those of its pieces, and its path is not empty
pub record Holds (s : Text) (r : Specifier) : Type 0 where
  pub raw : text_at s r.path ≡ raw_path s
  pub path : unescaped (text_at s r.path) ≡ path_of s
  pub query : piece_at s r.query ≡ query_of s
  pub fragment : piece_at s r.fragment ≡ fragment_of s
  pub not_empty : empty (path_of s) ≡ false
