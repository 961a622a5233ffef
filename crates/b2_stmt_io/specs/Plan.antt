-- What a statement plans, by the unit at the place of a partition.
use Rattle.std.specs.Prelude.{ℕ, ◌==◌, ◌&&◌, ◌||◌, not, Bool, List, [], ◌∷◌, Result, if◌then◌else◌}
use Rattle.b2_base.specs.declared.codes.TheConstants.{S27_LEFT_OUT}
use Rattle.b2_atom.specs.Tree.{Trees}
use Rattle.b2_atom.specs.declared.rows.TheConstants as row
use Rattle.b2_flow.specs.declared.frame.Place.{Place}
use Rattle.b2_expr.specs.Scope.{Context}
use Rattle.b2_access.specs.declared.accesses.Access.{Access}
use Rattle.b2_access.specs.declared.accesses.Access.TheVariants as access
use Rattle.b2_access.specs.declared.accesses.Answer.{Answer}
use Rattle.b2_access.specs.declared.devices.Device.{Device}
use Rattle.b2_access.specs.declared.planned.Outcome.{Outcome}
use Rattle.b2_access.specs.declared.planned.Outcome.TheVariants as outcome
use Rattle.b2_access.specs.declared.planned.Planned.{Planned}
use Rattle.b2_access.specs.declared.planned.Planned.TheVariants as planned
use Rattle.b2_access.specs.declared.private.Private.{Private}
use Rattle.b2_access.specs.Lending.{SeenLent}
use Rattle.b2_expr.specs.Value.{context_of}
use Rattle.b2_expr.specs.Workspace.{changed_by, work_in}
use Rattle.b2_access.specs.Partition.{setting_of}
use Rattle.b2_access.specs.Showing.{shown_or_printed}
use Rattle.b2_stmt_io.specs.Converting.{converts}
use Rattle.b2_stmt_io.specs.Inputs.{takes_typed}
use Rattle.b2_stmt_io.specs.Handing.{hands_on}
use Rattle.b2_stmt_io.specs.Keys.{key_taken}
use Rattle.b2_stmt_io.specs.LineReading.{asks_line, line_answered, prompt_of}
use Rattle.b2_access.specs.Dispatch.{Here, dispatch}
use Rattle.b2_access.specs.Placed.{Statement}
use Rattle.b2_access.specs.Rows.{at_row, has_row}
use Rattle.b2_access.specs.Planning.{Finishing, Planning}
use Rattle.b2_access.specs.Working.{Ends, Plans, Worked, Working, finishes_by, leaves, plans_by, stops, with_variables, work_of}
use Rattle.b2_stmt_io.specs.Outlets.{outlet_of}
use Rattle.b2_stmt_io.specs.Showing.{asks_at, asks_to_print, asks_to_print_using}
use Rattle.b2_stmt_io.specs.declared.outlets.Outlet.{Outlet}

-- statements for programs alone
abbrev pub is_for_programs : ℕ → Bool
is_for_programs r = r == row.INPUT || r == row.LINPUT || r == row.KEYIN

-- whether a statement may not stand where it does
abbrev pub is_refused : ℕ → Bool → Bool
is_refused r program = is_for_programs r && not program

-- what a statement asks for that changes nothing yet, a line a row: by where PRINT and PRINTUSING show or its code, and by the column
-- at the terminal and whether the prompt was shown there
abbrev pub Asks : Type 0
Asks = Trees → Context → Result Outlet ℕ → ℕ → Bool → Planned

abbrev pub asking_rows : List (ℕ × Asks)
asking_rows =
    (row.PRINT, λ t e o column prompted. asks_at o (asks_to_print t e))
    ∷ (row.PRINTUSING, λ t e o column prompted. asks_at o (asks_to_print_using t e))
    ∷ (row.KEYIN, λ t e o column prompted. planned.Ask (access.Key e.around.term))
    ∷ (row.LINPUT, λ t e o column prompted. planned.Ask (asks_line prompted column e.around.term (prompt_of t)))
    ∷ (row.INPUT, λ t e o column prompted. planned.Ask (asks_line prompted column e.around.term (prompt_of t)))
    ∷ (row.RELEASE, λ t e o column prompted. planned.Ask (access.Release e.around.term))
    ∷ []

-- what isn't built is left out
abbrev pub left_out : Asks
left_out t e o column prompted = planned.Done (outcome.Failed S27_LEFT_OUT)

abbrev pub asked_of : ℕ → Asks
asked_of r = at_row asking_rows left_out r

abbrev pub dispatch_of : List Device → Statement → Private → SeenLent → Working
dispatch_of devices u me s =
    if u.row == row.CONVERT then Ends (with_variables (changed_by (converts u.tree (work_in (setting_of me) s.home me.vars s.globals))) outcome.Next (work_of me))
    else Plans (asked_of u.row u.tree (context_of (work_in (setting_of me) s.home me.vars s.globals)) (outlet_of devices me) me.term_column me.prompted)

abbrev pub does : List Device → Private → SeenLent → Statement → Here → Working
does devices me s u h = dispatch_of devices u me s

-- what the statement at a partition's place plans, over the devices that there are
abbrev pub works : List Device → Private → SeenLent → Working
works devices me s = dispatch is_refused stops (does devices me s) me.place me s

abbrev pub plan : List Device → Private → SeenLent → Planning
plan devices me s = plans_by (works devices) me s

-- how a statement finishes by the answer to the access that it asked for, a line a row, where it may stand in a line of the program
abbrev pub Finishes : Type 0
Finishes = Trees → Place → Access → Answer → Private → SeenLent → Worked

abbrev pub takes_line : ℕ → Finishes
takes_line r t p x a me s = line_answered (λ line vars. changed_by (takes_typed r line t (work_in (setting_of me) s.home vars s.globals))) x a s.own.lines me

abbrev pub finishing_rows : List (ℕ × Finishes)
finishing_rows =
    (row.PRINT, λ t p x a me s. shown_or_printed x a me)
    ∷ (row.PRINTUSING, λ t p x a me s. shown_or_printed x a me)
    ∷ (row.KEYIN, λ t p x a me s. key_taken x a p t me s)
    ∷ (row.LINPUT, λ t p x a me s. takes_line row.LINPUT t p x a me s)
    ∷ (row.INPUT, λ t p x a me s. takes_line row.INPUT t p x a me s)
    ∷ (row.RELEASE, λ t p x a me s. hands_on x a me)
    ∷ []

-- one that asks for nothing repeats its step
abbrev pub nothing_asked : Finishes
nothing_asked t p x a me s = leaves me outcome.Repeat

abbrev pub ended_of : Statement → Place → Access → Answer → Private → SeenLent → Worked
ended_of u p x a me s = at_row finishing_rows nothing_asked u.row u.tree p x a me s

abbrev pub finishes : Access → Answer → Private → SeenLent → Statement → Here → Worked
finishes x a me s u h = ended_of u h.place x a me s

-- elsewhere the step is repeated
abbrev pub repeats : Private → Outcome → Worked
repeats me o = leaves me outcome.Repeat

-- how the statement at a partition's place finishes
abbrev pub ends : Access → Answer → Private → SeenLent → Worked
ends x a me s = dispatch is_refused (repeats me) (finishes x a me s) me.place me s

abbrev pub finish : Access → Answer → Private → SeenLent → Finishing
finish x a me s = finishes_by ends x a me s

-- PRINT and PRINTUSING finish by what they asked for and its answer alone, so nobody has to look for their unit again
abbrev pub is_printing : ℕ → Bool
is_printing r = r == row.PRINT || r == row.PRINTUSING

abbrev pub printing_ends : Access → Answer → Private → SeenLent → Worked
printing_ends x a me s = shown_or_printed x a me

abbrev pub finish_printing : Access → Answer → Private → SeenLent → Finishing
finish_printing x a me s = finishes_by printing_ends x a me s

-- the rows that this crate builds
abbrev pub is_built : ℕ → Bool
is_built r = has_row asking_rows r || r == row.CONVERT
