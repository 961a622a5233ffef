-- Where a partition goes on after a statement, by its outcome.
use Rattle.std.specs.Prelude.{ℕ, ◌==◌, ◌+◌, ◌&&◌, ◌||◌, min, Bool, false, not, List, Option, Some, None, is_some, option_map, if◌then◌else◌}
use Rattle.b2_base.specs.Codes.{class_of}
use Rattle.b2_atom.specs.Units.{TreeUnit}
use Rattle.b2_atom.specs.declared.rows.TheConstants as row
use Rattle.b2_flow.specs.declared.frame.Place.{Place}
use Rattle.b2_rows.specs.Following.{taken_fault, unit_or_next}
use Rattle.b2_rows.specs.declared.following.Goal.{Goal}
use Rattle.b2_rows.specs.declared.following.Goal.TheVariants as goal
use Rattle.b2_text.specs.Program.{Lines}
use Rattle.b2_access.specs.Placed.{Statement, statement_placed}
use Rattle.b2_access.specs.Places.{line_after}
use Rattle.b2_access.specs.declared.planned.Outcome.{Outcome}
use Rattle.b2_access.specs.declared.planned.Outcome.TheVariants as outcome
use Rattle.b2_access.specs.declared.private.Private.{Private}
use Rattle.b2_language.specs.Following.{following_place, moves_to, units_at}
use Rattle.b2_machine.specs.Endings.{Ending, ends_turn, carries_on}
use Rattle.b2_machine.specs.Messages.{error_text, where_text}
use Rattle.b2_machine.specs.Readiness.{becomes_ready, drops_line, rests, with_error}
use Rattle.b2_machine.specs.declared.ends.Stepped.{Stepped}
use Rattle.b2_machine.specs.declared.ends.Why.TheVariants as reason
use Rattle.b2_machine.specs.declared.moving.Onward.{Onward}
use Rattle.b2_machine.specs.declared.moving.Onward.TheVariants as onward

-- From an immediate line into the program: the line with its loops goes, and the kept place; the arguments that wait for a
-- DEFFN' go too, unless it is CONTINUE.
abbrev pub enters_program : Bool → Place → Private → Private
enters_program continues q me = record (drops_line (moves_to q me)) { kept = None; args = if continues then me.args else None }

abbrev pub is_continue : Option Statement → Bool
is_continue None = false
is_continue (Some u) = u.row == row.CONTINUE

abbrev pub jumps : Place → Place → Private → Lines → Private
jumps p q me home =
    if not (is_some p.line) && is_some q.line then enters_program (is_continue (statement_placed p me.immediate home)) q me
    else moves_to q me

-- on to a place; where there is none, the text or the immediate line ends
abbrev pub goes_to : Option Place → Private → Ending
goes_to None me = rests me
goes_to (Some q) me = carries_on (moves_to q me)

-- the classes of the faults that an ERROR takes: C, X and D
abbrev pub is_taken : ℕ → Bool
is_taken code = class_of code == 67 || class_of code == 88 || class_of code == 68

-- where an ERROR of the line takes a fault
abbrev pub error_place : ℕ → Place → Private → Lines → Option Place
error_place code p me home = if is_taken code then option_map (λ k. record p { unit = k }) (taken_fault p.unit (units_at p me home)) else None

-- a fault goes on at the ERROR that takes it; else it is an error, and the partition is ready
abbrev pub faults : ℕ → Option Place → Place → Private → Ending
faults code None p me = becomes_ready (error_text code (where_text me.part p)) (with_error code me)
faults code (Some q) p me = carries_on (moves_to q (with_error code me))

-- the turn ends, wherever it goes on
abbrev pub breaks : Ending → Ending
breaks e = record e { end = ends_turn reason.Break }

-- what comes of the outcome of a statement at a place, by the lines of its home; `same` says how a step ends that is repeated
abbrev pub ends_by : Stepped → Outcome → Place → Private → Lines → Ending
ends_by same outcome.Next p me home = goes_to (following_place p me home) me
ends_by same (outcome.Jump q) p me home = carries_on (jumps p q me home)
ends_by same (outcome.Failed code) p me home = faults code (error_place code p me home) p me
ends_by same outcome.Repeat p me home = record { me = me; end = same }
ends_by same outcome.Break p me home = breaks (goes_to (following_place p me home) me)
ends_by same outcome.Ready p me home = rests me

-- where a line goes on after one of its units: at the next one, or where it has none, at the next line
abbrev pub onward_of : Goal → Onward
onward_of (goal.Unit k) = onward.NextUnit
onward_of g = onward.NextLine

abbrev pub goes_onward : ℕ → List TreeUnit → Onward
goes_onward unit us = onward_of (unit_or_next (unit + 1) us)

abbrev pub onward_from : Place → Private → Lines → Onward
onward_from p me home = goes_onward p.unit (units_at p me home)

-- the place that this is, by the lines of the home
abbrev pub place_onward : Lines → Place → Onward → Option Place
place_onward lines p onward.NextUnit = Some (record p { unit = min (p.unit + 1) 255 })
place_onward lines p onward.NextLine = line_after lines p

-- What comes of the outcome of a statement that asked for an access: where its line goes on was found before it asked, and isn't looked
-- for again.
abbrev pub ends_onward : Stepped → Outcome → Onward → Place → Private → Lines → Ending
ends_onward same outcome.Next w p me home = goes_to (place_onward home p w) me
ends_onward same outcome.Break w p me home = breaks (goes_to (place_onward home p w) me)
ends_onward same o w p me home = ends_by same o p me home
