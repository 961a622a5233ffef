-- Where a partition goes on after a unit, where nothing else is said.
use Rattle.std.specs.Prelude.{◌+◌, false, List, Option, Some}
use Rattle.b2_atom.specs.Units.{TreeUnit}
use Rattle.b2_flow.specs.declared.frame.Place.{Place}
use Rattle.b2_rows.specs.Following.{unit_or_next}
use Rattle.b2_text.specs.Program.{Lines}
use Rattle.b2_access.specs.Dispatch.{units_on}
use Rattle.b2_access.specs.Placed.{line_named}
use Rattle.b2_access.specs.Places.{goal_place}
use Rattle.b2_access.specs.declared.private.Private.{Private}

-- the units of the line of a place, none where the line isn't there
abbrev pub units_at : Place → Private → Lines → List TreeUnit
units_at p me home = units_on (line_named me.immediate home p.line)

-- the place after it
abbrev pub following_place : Place → Private → Lines → Option Place
following_place p me home = goal_place home p (unit_or_next (p.unit + 1) (units_at p me home))

-- it stands at another place, where no prompt was shown yet
abbrev pub moves_to : Place → Private → Private
moves_to q me = record me { place = Some q; prompted = false }
