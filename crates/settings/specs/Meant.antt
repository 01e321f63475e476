-- What the settings mean. Assumes nothing.
use Rattle.std.specs.Prelude.{map, take}
use Rattle.stack.specs.Held.{held}
use Rattle.texts.specs.Held.{bytes_of}
use Rattle.settings.specs.declared.settings.Settings.{Settings}
use Rattle.settings.specs.Rows.{alias_of}
use Rattle.settings.specs.Tables.{Tables}

-- the tables as lists in the order written, and the flags
abbrev pub tables : Settings → Tables
tables s = record {
  aliases = map alias_of (take s.count s.rows);
  extensions = map bytes_of (held s.extensions);
  main_files = map bytes_of (held s.main_files);
  restrictions = map bytes_of (held s.restrictions);
  fully_specified = s.fully_specified;
  context = s.resolve_to_context;
  enforcement = s.enforce_extension;
}
