-- The path that a request looks for. Assumes nothing.
use Rattle.std.specs.Prelude.{Some, None, Option}
use Rattle.texts.specs.Texts.{Text, unslashed}
use Rattle.paths.specs.Joins.{joined}
use Rattle.specifier.specs.declared.branch.Branch.{Branch}
use Rattle.specifier.specs.declared.branch.Branch.TheVariants.{Absolute, Relative, Hash, Package}
use Rattle.specifier.specs.Branches.{branch}

-- on each way: an absolute path as it is without its final slashes, a relative one joined to the directory; the other two look for no path of their own
abbrev pub sought_on : Branch → Text → Text → Option Text
sought_on Absolute directory path = Some (unslashed path)
sought_on Relative directory path = joined directory path
sought_on Hash directory path = None
sought_on Package directory path = None

-- the path that a request with this path looks for from the directory
abbrev pub sought_path : Text → Text → Option Text
sought_path directory path = sought_on (branch path) directory path
