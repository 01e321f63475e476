-- How a round changes what goes with a lookup. Assumes nothing.
use Rattle.std.specs.Prelude.{ℕ, ◌+◌, Bool, Some, None, Option}
use Rattle.texts.specs.declared.place.Place.{Place}
use Rattle.specifier.specs.declared.request.Specifier.{Specifier}
use Rattle.lookup.specs.declared.calls.ResolveContext.{ResolveContext}

-- a place that stands in a text which starts there
abbrev pub shifted : ℕ → Option Place → Option Place
shifted start None = None
shifted start (Some p) = Some (record { start = start + p.start; len = p.len })

-- a new mark takes the place of the old one
abbrev pub newer_mark : Option Place → Option Place → Option Place
newer_mark None old = old
newer_mark (Some p) old = Some p

abbrev pub fresh_context : Bool → ResolveContext
fresh_context fully = record { rounds = 0; fully_specified = fully; query = None; fragment = None }

abbrev pub counted_context : ResolveContext → ResolveContext
counted_context c = record { rounds = c.rounds + 1; fully_specified = c.fully_specified; query = c.query; fragment = c.fragment }

abbrev pub taking_context : ResolveContext → Specifier → ℕ → ResolveContext
taking_context c s start = record { rounds = c.rounds; fully_specified = c.fully_specified; query = newer_mark (shifted start s.query) c.query; fragment = newer_mark (shifted start s.fragment) c.fragment }

abbrev pub marked_context : Option Place → ResolveContext → ResolveContext
marked_context f c = record { rounds = c.rounds; fully_specified = c.fully_specified; query = c.query; fragment = f }
