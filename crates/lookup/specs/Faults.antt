-- Why a lookup ends without a path, with the number and the texts of each fault. Assumes nothing.
use Rattle.std.specs.Prelude.{ℕ, Bool, true, false, Some, None, Option}
use Rattle.texts.specs.Texts.{Text}

pub data Fault : Type 0 where
  no_memory bad_directory bad_request : Fault
  empty_request not_found ignored broken_manifest broken_lookup : Text → Fault
  unmatched : Text → Text → Fault
  recursion long_text : Fault

-- the number of a fault
abbrev pub number : Fault → ℕ
number no_memory = 1
number bad_directory = 2
number bad_request = 20
number (empty_request t) = 21
number (not_found t) = 22
number (unmatched r l) = 23
number (ignored p) = 24
number recursion = 27
number long_text = 28
number (broken_manifest p) = 30
number (broken_lookup t) = 31

-- what it writes to the first and to the second buffer
abbrev pub texts : Fault → Option Text × Option Text
texts no_memory = (None, None)
texts bad_directory = (None, None)
texts bad_request = (None, None)
texts (empty_request t) = (Some t, None)
texts (not_found t) = (Some t, None)
texts (unmatched r l) = (Some r, Some l)
texts (ignored p) = (Some p, None)
texts recursion = (None, None)
texts long_text = (None, None)
texts (broken_manifest p) = (Some p, None)
texts (broken_lookup t) = (Some t, None)

-- the faults that a label's next value follows: nothing was found, or labels found nothing
abbrev pub passes_on : Fault → Bool
passes_on no_memory = false
passes_on bad_directory = false
passes_on bad_request = false
passes_on (empty_request t) = false
passes_on (not_found t) = true
passes_on (unmatched r l) = true
passes_on (ignored p) = false
passes_on recursion = false
passes_on long_text = false
passes_on (broken_manifest p) = false
passes_on (broken_lookup t) = false

-- the fault that nothing catches, not even the try of path and fragment
abbrev pub stays : Fault → Bool
stays no_memory = false
stays bad_directory = false
stays bad_request = false
stays (empty_request t) = false
stays (not_found t) = false
stays (unmatched r l) = false
stays (ignored p) = false
stays recursion = false
stays long_text = true
stays (broken_manifest p) = false
stays (broken_lookup t) = false

-- the faults that a call is refused with before the lookup: 1, 2 and 20
abbrev pub precedes : Fault → Bool
precedes no_memory = true
precedes bad_directory = true
precedes bad_request = true
precedes (empty_request t) = false
precedes (not_found t) = false
precedes (unmatched r l) = false
precedes (ignored p) = false
precedes recursion = false
precedes long_text = false
precedes (broken_manifest p) = false
precedes (broken_lookup t) = false
