-- Settings keep the limits of their tables, however they were filled. Assumes nothing.
use Rattle.std.proofs.Common.{◌≡◌, ◌≤◌, length, map, take, arith}
use Rattle.std.proofs.lemmas.List.{length-map, length-take-le}
use Rattle.texts.specs.Held.{bytes_of}
use Rattle.stack.specs.Held.{held}
use Rattle.settings.specs.declared.settings.Settings.{Settings}
use Rattle.settings.specs.Limits.{WithinLimits}
use Rattle.settings.specs.Meant.{tables}
use Rattle.settings.specs.Rows.{alias_of}

pub within_limits : (s : Settings) → WithinLimits (tables s)
within_limits s = record {
  few_aliases = omega (arith, length-map (take s.count s.rows) alias_of, length-take-le s.count s.rows (omega (arith, s.whole, s.within)), s.within);
  aliases = s.aliases_kept;
  few_extensions = omega (arith, length-map (held s.extensions) bytes_of, length-take-le s.extensions.len s.extensions.slots (omega (arith, s.extensions.whole, s.extensions.within)), s.extensions.within);
  extensions = s.extensions_kept;
  few_main_files = omega (arith, length-map (held s.main_files) bytes_of, length-take-le s.main_files.len s.main_files.slots (omega (arith, s.main_files.whole, s.main_files.within)), s.main_files.within);
  main_files = s.main_files_kept;
  few_restrictions = omega (arith, length-map (held s.restrictions) bytes_of, length-take-le s.restrictions.len s.restrictions.slots (omega (arith, s.restrictions.whole, s.restrictions.within)), s.restrictions.within);
  restrictions = s.restrictions_kept;
}
