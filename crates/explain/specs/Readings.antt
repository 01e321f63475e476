-- How a request is read from a directory, or why it is refused. Assumes nothing.
use Rattle.std.specs.Prelude.{◌≡◌, Bool, true, false, cond, ◌++◌, is_some, Some, None, Ok, Err, Option, Result}
use Rattle.std.specs.Option.{option_map}
use Rattle.texts.specs.Held.{bytes_of}
use Rattle.texts.specs.Texts.{Text, fits}
use Rattle.specifier.specs.declared.branch.Branch.{Branch}
use Rattle.specifier.specs.declared.branch.Branch.TheVariants.{Absolute, Relative, Hash, Package}
use Rattle.specifier.specs.declared.request.Specifier.{Specifier}
use Rattle.specifier.specs.declared.request.SpecifierError.{SpecifierError}
use Rattle.specifier.specs.Accepted.{askable, startable}
use Rattle.specifier.specs.Branches.{branch}
use Rattle.specifier.specs.Requests.{fragment_of, path_of, piece_at, query_of, specifier_of}
use Rattle.specifier.specs.Sought.{sought_path}
use Rattle.explain.specs.declared.reading.Reading.{Reading}
use Rattle.explain.specs.declared.refusal.Refusal.{Refusal}
use Rattle.explain.specs.declared.sentence.told.Told.{Told}
use Rattle.explain.specs.declared.refusal.Refusal.TheVariants.{Directory, Request, Empty}

-- a request that is read: its pieces, the way it goes and the path that it looks for
pub record Meaning : Type 0 where
  pub path : Text
  pub query : Option Text
  pub fragment : Option Text
  pub way : Branch
  pub sought : Option Text

-- what is meant once the request is taken apart
abbrev pub meant_by : Text → Text → Result Specifier SpecifierError → Result Meaning Refusal
meant_by directory request (Err e) = Err Empty
meant_by directory request (Ok s) = Ok (record {
  path = path_of request;
  query = query_of request;
  fragment = fragment_of request;
  way = branch (path_of request);
  sought = sought_path directory (path_of request);
})

-- the directory is looked at first, then the request, then its path
abbrev pub meant : Text → Text → Result Meaning Refusal
meant directory request =
    cond (startable directory) (cond (askable request) (meant_by directory request (specifier_of request)) (Err Request)) (Err Directory)

-- what a reading of the request says
abbrev pub said : Text → Reading → Meaning
said request r = record {
  path = bytes_of r.path;
  query = piece_at request r.specifier.query;
  fragment = piece_at request r.specifier.fragment;
  way = r.branch;
  sought = option_map bytes_of r.sought;
}

-- a text of at most 255 bytes
abbrev pub within : Option Text → Option Text
within None = None
within (Some s) = cond (fits s) (Some s) None

-- the way looks for a path of its own
abbrev pub looks : Branch → Bool
looks Absolute = true
looks Relative = true
looks Hash = false
looks Package = false

-- an accepted request looks for a path exactly if it is absolute or relative: no text on the way is too long
abbrev pub PathsAreSought : Text → Text → Type 0
PathsAreSought directory request =
    startable directory ≡ true → askable request ≡ true → is_some (sought_path directory (path_of request)) ≡ looks (branch (path_of request))

-- a path with its fragment, where there is one and no query
abbrev pub path_and_fragment : Text → Option Text → Option Text → Option Text
path_and_fragment p (Some q) f = None
path_and_fragment p None None = None
path_and_fragment p None (Some f) = Some (p ++ f)

-- what is looked up before the path alone
abbrev pub fragment_first : Meaning → Option Text
fragment_first m = path_and_fragment m.path m.query m.fragment

-- the reading that a sentence speaks of
abbrev pub reading_in : Told → Meaning
reading_in t = record {
  path = t.path.now;
  query = option_map (λ s. s.now) t.query;
  fragment = option_map (λ s. s.now) t.fragment;
  way = t.branch;
  sought = option_map (λ s. s.now) t.sought;
}
