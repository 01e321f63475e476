-- What a row of the alias table means. Assumes nothing.
use Rattle.std.specs.Prelude.{map}
use Rattle.stack.specs.Held.{held}
use Rattle.texts.specs.Held.{bytes_of}
use Rattle.settings.specs.declared.row.AliasRow.{AliasRow}
use Rattle.settings.specs.declared.row.AliasValue.{AliasValue}
use Rattle.settings.specs.declared.row.AliasValue.TheVariants.{Ignore, Path}
use Rattle.settings.specs.Tables.{Alias, Value, ignore, labelled, to}

-- a value by its bytes
abbrev pub value_of : AliasValue → Value
value_of Ignore = ignore
value_of (Path t) = to (bytes_of t)

-- a label with its values, in the order written
abbrev pub alias_of : AliasRow → Alias
alias_of r = labelled (bytes_of r.label) (map value_of (held r.values))
