-- The place to which a goal on a line leads.
use Rattle.std.specs.Prelude.{◌≤◌, ℕ, Option, Some}
use Rattle.std.specs.Option.{option_map, option_and_then}
use Rattle.b2_flow.specs.declared.frame.Place.{Place}
use Rattle.b2_rows.specs.declared.following.Goal.{Goal}
use Rattle.b2_rows.specs.declared.following.Goal.TheVariants as goal
use Rattle.b2_text.specs.Program.{Lines, number_after}

-- the first unit of a line of the same home
abbrev pub line_start : Place → ℕ → Place
line_start p n = record { home = p.home; line = Some n; unit = 0 }

-- the first unit of the line after a place; after an immediate line there is none
abbrev pub line_after : Lines → Place → Option Place
line_after lines p = option_and_then (λ (n : ℕ). option_map (line_start p) (number_after (Some n) lines)) p.line

-- where a goal leads from a place, by the lines of its home
abbrev pub goal_place : Lines → Place → Goal → Option Place
goal_place lines p (goal.Unit k) = Some (record p { unit = k })
goal_place lines p (goal.Line n) = Some (line_start p n)
goal_place lines p goal.NextLine = line_after lines p

-- units are counted up to 255
abbrev pub IsUnit : Goal → Type 0
IsUnit (goal.Unit k) = k ≤ 255
IsUnit (goal.Line n) = Unit {0}
IsUnit goal.NextLine = Unit {0}
