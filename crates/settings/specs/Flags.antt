-- The flags by the numbers that an office gives them. Assumes nothing.
use Rattle.std.specs.Prelude.{ℕ, cond}
use Rattle.settings.specs.declared.enforcement.EnforceExtension.{EnforceExtension}
use Rattle.settings.specs.declared.enforcement.EnforceExtension.TheVariants.{Auto, Enabled, Disabled}
use Rattle.settings.specs.declared.flag.Flag.{Flag}
use Rattle.settings.specs.declared.flag.Flag.TheVariants as flag

-- what the third flag is set to: off, on or auto
abbrev pub enforcement_number : EnforceExtension → ℕ
enforcement_number Disabled = 0
enforcement_number Enabled = 1
enforcement_number Auto = 2

-- the number of a flag, and that of what it is set to
abbrev pub numbers_of : Flag → ℕ × ℕ
numbers_of (flag.FullySpecified on) = (1, cond on 1 0)
numbers_of (flag.ResolveToContext on) = (2, cond on 1 0)
numbers_of (flag.EnforceExtension how) = (3, enforcement_number how)
