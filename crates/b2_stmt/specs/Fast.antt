-- Statements of control that are done fast: where no `@` variables are lent.
use Rattle.std.specs.Prelude.{◌≡◌, ℕ, ◌-◌, Bool, true, false, Option, Some, None}
use Rattle.b2_atom.specs.declared.rows.TheConstants as row
use Rattle.b2_rows.specs.Rows.{tree_at}
use Rattle.b2_flow.specs.declared.frame.Frame.{Frame}
use Rattle.b2_flow.specs.declared.frame.Frame.TheVariants.{Call}
use Rattle.b2_flow.specs.declared.frame.Place.{Place}
use Rattle.b2_expr.specs.Scope.{Context}
use Rattle.b2_vars.specs.Assigned.{Assigned}
use Rattle.b2_vars.specs.Globals.{unreached}
use Rattle.b2_vars.specs.Tables.{VarsState}
use Rattle.b2_access.specs.Dispatch.{permitted}
use Rattle.b2_access.specs.Found.{here_found, seen_found, statement_found}
use Rattle.b2_access.specs.Lending.{SeenLent}
use Rattle.b2_access.specs.Fast.{led_by, place_following, place_led}
use Rattle.b2_access.specs.Planning.{Planning, done}
use Rattle.b2_access.specs.Steering.{Steered, steered}
use Rattle.b2_access.specs.declared.placed.Found.{Found}
use Rattle.b2_access.specs.declared.planned.Outcome.{Outcome}
use Rattle.b2_access.specs.declared.planned.Outcome.TheVariants as outcome
use Rattle.b2_access.specs.declared.private.Private.{Private}
use Rattle.b2_stmt.specs.Arguments.{arguments, operands_of}
use Rattle.b2_stmt.specs.Asked.{asks_mark, carried}
use Rattle.b2_stmt.specs.Loops.{loop_begins}
use Rattle.b2_stmt.specs.Marked.{ends_with_args, mark_in, number_called, takes_args}
use Rattle.b2_stmt.specs.Plan.{around, does, is_refused, stops}
use Rattle.b2_stmt.specs.declared.asked.Asked.{Asked}
use Rattle.b2_stmt.specs.declared.loops.Loop.{Loop}

-- what such a statement sees
abbrev pub seen_fast : Found → SeenLent
seen_fast f = seen_found f (unreached None)

-- and what its expressions look at
abbrev pub around_fast : Found → Private → Context
around_fast f me = around me (seen_fast f)

-- what it plans
abbrev pub planned_fast : Found → Private → Planning
planned_fast f me = permitted is_refused (stops me (seen_fast f)) (does me (seen_fast f)) (statement_found f) (here_found f)

-- where it is known where a statement leads, an outcome leads there
abbrev pub LeadsBy : Option (ℕ × ℕ) → Found → Outcome → Type 0
LeadsBy None f o = Unit {0}
LeadsBy (Some l) f o = led_by o (place_following f) ≡ Some (place_led f.place.home l)

-- and a statement has changed what it changes; else nothing has changed
abbrev pub Steers : Option (ℕ × ℕ) → Found → Private → Private → Steered → Type 0
Steers None f me after e = after ≡ me
Steers (Some l) f me after e = ((steered me e).me ≡ after) × (led_by e.outcome (place_following f) ≡ Some (place_led f.place.home l))

-- where it is known that a place is in the program at a home, it is that one
abbrev pub IsPlaceLed : Option (ℕ × ℕ) → ℕ → Place → Type 0
IsPlaceLed None home p = Unit {0}
IsPlaceLed (Some l) home p = p ≡ place_led home l

-- where it is known that the DEFFN' of a number stands in the text at home, it stands there
abbrev pub IsMarkLed : Option (ℕ × ℕ) → ℕ → Found → Type 0
IsMarkLed None n f = Unit {0}
IsMarkLed (Some l) n f = mark_in f.place.home n f.home.now.lines ≡ Some (place_led f.place.home l)

-- what GOSUB' asks of the private state, and what that comes to
abbrev pub asked_marked : Found → Private → Asked
asked_marked f me =
    asks_mark (number_called (tree_at row.GOSUB_MARKED f.unit.now.bytes.now)) (arguments (around_fast f me) (operands_of (tree_at row.GOSUB_MARKED f.unit.now.bytes.now))) (place_following f)

abbrev pub calls_marked : Found → Private → Steered
calls_marked f me = carried (asked_marked f me) f.place me f.own.now.lines f.home.now.lines

-- what DEFFN' plans
abbrev pub marked_fast : Found → Private → Planning
marked_fast f me = ends_with_args (takes_args (tree_at row.DEFFN_MARKED f.unit.now.bytes.now) me (seen_fast f)) me (seen_fast f)

-- it has ended with no code and goes on, or it hasn't, and then nothing has changed
abbrev pub TakesOrNot : Found → Private → Private → Bool → Type 0
TakesOrNot f me after true = marked_fast f me ≡ done (seen_fast f) (record { me = after; outcome = outcome.Next })
TakesOrNot f me after false = after ≡ me

-- and a call on top leads back there, and entered no text
abbrev pub LeadsBack : Option (ℕ × ℕ) → ℕ → Option Frame → Type 0
LeadsBack None home top = Unit {0}
LeadsBack (Some l) home top = top ≡ Some (Call (Some (place_led home l)) None)

-- an assignment was made, or not, and then nothing has changed
abbrev pub MadeOrNot : Assigned → VarsState → VarsState → Bool → Type 0
MadeOrNot a old new true = (a.code ≡ None) × (new ≡ a.vars)
MadeOrNot a old new false = new ≡ old

-- a loop has begun, or not, and then nothing has changed
abbrev pub BeginsOrNot : Loop → Place → Private → Private → Bool → Type 0
BeginsOrNot l body me after true = steered me (loop_begins l body me) ≡ record { me = after; outcome = outcome.Next }
BeginsOrNot l body me after false = after ≡ me

-- the digit of the variable of a loop counted from 1, 0 where there is none
abbrev pub digit_counted : Option ℕ → ℕ
digit_counted None = 0
digit_counted (Some d) = d - 47
