-- Which directories and requests are accepted for a lookup. Assumes nothing.
use Rattle.std.specs.Prelude.{Bool, ◌&&◌, length, nat_le}
use Rattle.texts.specs.Texts.{Text, ascii}
use Rattle.texts.specs.Parts.{clean}

-- a lookup can start from the directory: a clean path of at most 80 bytes, each at most 127
abbrev pub startable : Text → Bool
startable directory = nat_le (length directory) 80 && (ascii directory && clean directory)

-- the request is looked up: it has at most 96 bytes, each at most 127
abbrev pub askable : Text → Bool
askable request = nat_le (length request) 96 && ascii request
