-- Where a step goes on, by the lines of the home.
use Rattle.std.specs.Prelude.{ℕ, List, Option, Some, None, Result, Ok, Err}
use Rattle.b2_base.specs.declared.codes.TheConstants.{P36_NO_LINE}
use Rattle.b2_rows.specs.declared.following.Goal.{Goal}
use Rattle.b2_rows.specs.declared.following.Goal.TheVariants as goal
use Rattle.b2_flow.specs.declared.frame.Place.{Place}
use Rattle.b2_text.specs.Program.{Lines, line_at}
use Rattle.b2_access.specs.Places.{goal_place, line_start}
use Rattle.b2_access.specs.declared.planned.Outcome.{Outcome}
use Rattle.b2_access.specs.declared.planned.Outcome.TheVariants as outcome

-- to a place in a line, P36 where the line isn't there
abbrev pub where_there : Option (List ℕ) → Place → Outcome
where_there None p = outcome.Failed P36_NO_LINE
where_there (Some line) p = outcome.Jump p

-- to the first unit of a line
abbrev pub to_line : Lines → Place → ℕ → Outcome
to_line lines p n = where_there (line_at n lines) (line_start p n)

-- to a place; where there is none, the program or the immediate line ends
abbrev pub to_place : Option Place → Outcome
to_place None = outcome.Ready
to_place (Some p) = outcome.Jump p

-- to a goal on the line of a place
abbrev pub to_goal : Lines → Place → Goal → Outcome
to_goal lines p (goal.Line n) = to_line lines p n
to_goal lines p (goal.Unit k) = outcome.Jump (record p { unit = k })
to_goal lines p goal.NextLine = to_place (goal_place lines p goal.NextLine)

-- or a code
abbrev pub to_found : Lines → Place → Result Goal ℕ → Outcome
to_found lines p (Ok g) = to_goal lines p g
to_found lines p (Err code) = outcome.Failed code
