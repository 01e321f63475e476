-- What a scan over a text's parts has still to give. Assumes nothing.
use Rattle.std.specs.Prelude.{◌≡◌, true, OnSome, Bool, List, [], ◌∷◌, map, Some, None, Option, nat_lt}
use Rattle.texts.specs.declared.components.Components.{Components}
use Rattle.texts.specs.declared.place.Place.{Place}
use Rattle.texts.specs.Texts.{Text}
use Rattle.texts.specs.Parts.{Mark, place_of, text_at}
use Rattle.texts.specs.Scans.{marks_left}

-- the text that is scanned
abbrev pub subject : Components → Text
subject c = c.text.now

-- the parts that are left, with their ends
abbrev pub left : Components → List Mark
left c = marks_left c.text.now c.at

-- where they stand
abbrev pub places_left : Components → List Place
places_left c = map place_of (left c)

-- the place of the first part of a list
abbrev pub first_place : List Mark → Option Place
first_place [] = None
first_place (m ∷ ms) = Some (place_of m)

-- its bytes
abbrev pub first_text : List Mark → Option Text
first_text [] = None
first_text (m ∷ ms) = Some m.0

-- the other parts
abbrev pub but_first : List Mark → List Mark
but_first [] = []
but_first (m ∷ ms) = ms

-- what stands at a place, if there is one
abbrev pub places_to_text : Option Place → Text → Option Text
places_to_text None t = None
places_to_text (Some p) t = Some (text_at t p)

-- a part was given
abbrev pub begun : Components → Bool
begun c = nat_lt 0 c.at

-- a scan gave a part, or none behind the last, and went on
pub record PartGiven (s : Components) (r : Option Place) (t : Components) : Type 0 where
  pub place_of_the_next_part : r ≡ first_place (left s)
  pub part_stands_there : places_to_text r (subject s) ≡ first_text (left s)
  pub others_are_left : left t ≡ but_first (left s)
  pub same_text : subject t ≡ subject s
  pub scan_has_begun : OnSome r (begun t ≡ true)
