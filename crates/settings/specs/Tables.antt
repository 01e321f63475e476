-- What the settings mean: the tables as lists in the order written, and the flags. Assumes nothing.
use Rattle.std.specs.Prelude.{Bool, true, false, ◌||◌, List, [], ◌∷◌, ◌++◌}
use Rattle.texts.specs.Texts.{Text, empty}
use Rattle.settings.specs.declared.enforcement.EnforceExtension.{EnforceExtension}
use Rattle.settings.specs.declared.enforcement.EnforceExtension.TheVariants.{Auto, Enabled, Disabled}

-- a value of a label: the request is ignored, or becomes this text
pub data Value : Type 0 where
  ignore : Value
  to : Text → Value

-- a label with its values
pub record Alias : Type 0 where
  pub label : Text
  pub values : List Value

abbrev pub labelled : Text → List Value → Alias
labelled l vs = record { label = l; values = vs }

-- one value more, behind the others
abbrev pub with_value : Value → Alias → Alias
with_value v a = labelled a.label (a.values ++ v ∷ [])

pub record Tables : Type 0 where
  pub aliases : List Alias
  pub extensions : List Text
  pub main_files : List Text
  pub restrictions : List Text
  pub fully_specified : Bool
  pub context : Bool
  pub enforcement : EnforceExtension

-- before an office has written anything
abbrev pub unset : Tables
unset = record { aliases = []; extensions = []; main_files = []; restrictions = []; fully_specified = false; context = false; enforcement = Auto }

-- one of the texts is empty
abbrev pub some_empty : List Text → Bool
some_empty [] = false
some_empty (t ∷ ts) = empty t || some_empty ts

-- a path is tried only with an extension: under auto, where one of the extensions is empty
abbrev pub enforces : EnforceExtension → List Text → Bool
enforces Enabled extensions = true
enforces Disabled extensions = false
enforces Auto extensions = some_empty extensions

abbrev pub enforced : Tables → Bool
enforced t = enforces t.enforcement t.extensions
