-- What a call answers, by its number and the lengths of its texts. Assumes nothing.
use Rattle.std.specs.Prelude.{ℕ, Bool, cond, length, Ok, Err, Some, None, Option}
use Rattle.std.specs.Option.{option_map}
use Rattle.texts.specs.Texts.{Text}
use Rattle.specifier.specs.Accepted.{askable, startable}
use Rattle.lookup.specs.declared.resolution.ResolveError.{ResolveError}
use Rattle.lookup.specs.declared.resolution.ResolveError.TheVariants as error
use Rattle.lookup.specs.declared.resolution.Resolution.{Resolution}
use Rattle.lookup.specs.Faults.{Fault, bad_directory, bad_request, broken_lookup, broken_manifest, empty_request, ignored, long_text, no_memory, not_found, recursion, texts, unmatched}
use Rattle.lookup.specs.Outcomes.{Outcome, path, refused}

-- the number of an error
abbrev pub error_number : ResolveError → ℕ
error_number error.NoMemory = 1
error_number error.Directory = 2
error_number error.Request = 20
error_number error.Empty = 21
error_number error.NotFound = 22
error_number error.MatchedAliasNotFound = 23
error_number error.Ignored = 24
error_number error.Recursion = 27
error_number error.TooLong = 28
error_number error.BrokenManifest = 30
error_number error.BrokenLookup = 31

-- the error of a fault
abbrev pub error_of : Fault → ResolveError
error_of no_memory = error.NoMemory
error_of bad_directory = error.Directory
error_of bad_request = error.Request
error_of (empty_request t) = error.Empty
error_of (not_found t) = error.NotFound
error_of (unmatched r l) = error.MatchedAliasNotFound
error_of (ignored p) = error.Ignored
error_of recursion = error.Recursion
error_of long_text = error.TooLong
error_of (broken_manifest p) = error.BrokenManifest
error_of (broken_lookup t) = error.BrokenLookup

-- how long a text is, if there is one
abbrev pub length_of : Option Text → Option ℕ
length_of t = option_map length t

-- the answer of an outcome
abbrev pub resolution_of : Outcome → Resolution
resolution_of (path p q f n) = record { outcome = Ok (record { path = length p; query = length_of q; fragment = length_of f }); rounds = n }
resolution_of (refused f n) = record { outcome = Err (record { error = error_of f; first = length_of (texts f).0; second = length_of (texts f).1 }); rounds = n }

-- the error that a call is refused with before any lookup
abbrev pub early_error : Bool → Text → Text → Option ResolveError
early_error is_roomy dir r = cond is_roomy (cond (startable dir) (cond (askable r) None (Some error.Request)) (Some error.Directory)) (Some error.NoMemory)
