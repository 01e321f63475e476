-- The form of a label that was taken apart. Assumes nothing.
use Rattle.alias.specs.declared.label.AliasMatchKind.{AliasMatchKind}
use Rattle.alias.specs.declared.label.AliasMatchKind.TheVariants.{Exact, Prefix, Wildcard}
use Rattle.alias.specs.Forms.{Form, exact, plain, wildcard}

-- the form, by the bytes of its texts
abbrev pub formed : AliasMatchKind → Form
formed (Exact k) = exact k.now
formed (Wildcard p s) = wildcard p.now s.now
formed (Prefix l) = plain l.now
