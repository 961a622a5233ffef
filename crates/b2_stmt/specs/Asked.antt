-- What a statement asks of the private state, by its row and its tree.
use Rattle.std.specs.Prelude.{◌≡◌, ℕ, ◌+◌, ◌&&◌, not, Bool, true, false, List, [], ◌∷◌, Option, None, Some, is_some, unwrap_or, Result, Ok, Err, if◌then◌else◌}
use Rattle.b2_base.specs.declared.codes.TheConstants.{D87_FILE_NAME, S26_PROGRAM_ONLY, S27_LEFT_OUT}
use Rattle.b2_dec.specs.declared.number.Mode.TheVariants.{Round, Cut}
use Rattle.b2_dec.specs.declared.values.Value.{Value}
use Rattle.b2_atom.specs.Tree.{Trees}
use Rattle.b2_atom.specs.declared.rows.TheConstants as row
use Rattle.b2_rows.specs.Following.{past_colon, unit_or_next}
use Rattle.b2_rows.specs.declared.following.Goal.TheVariants as goal
use Rattle.b2_flow.specs.declared.frame.Place.{Place}
use Rattle.b2_text.specs.Program.{Lines, line_at}
use Rattle.b2_expr.specs.Scope.{Context}
use Rattle.b2_vars.specs.Names.{is_legal_name}
use Rattle.b2_access.specs.Dispatch.{Here}
use Rattle.b2_access.specs.Places.{goal_place, line_start}
use Rattle.b2_access.specs.Rows.{at_row, has_row}
use Rattle.b2_access.specs.declared.planned.Outcome.{Outcome}
use Rattle.b2_access.specs.declared.planned.Outcome.TheVariants as outcome
use Rattle.b2_access.specs.declared.private.Private.{Private}
use Rattle.b2_stmt.specs.Branches.{goto_goal, if_goal, skipped_function}
use Rattle.b2_stmt.specs.Breaks.{breaks, turns_to_pass}
use Rattle.b2_stmt.specs.Calls.{called_where, forgets, goes_back, has_all, line_called}
use Rattle.b2_stmt.specs.Choices.{calls_a_line, choice_in}
use Rattle.b2_stmt.specs.RunControl.{continues, line_to_run, runs, selects, stop_text, stops_program, text_of_stop}
use Rattle.b2_access.specs.Jumps.{to_found, to_goal, to_line}
use Rattle.b2_stmt.specs.Loops.{loop_begins, counter_in, loop_in, nexts, scalar_of}
use Rattle.b2_stmt.specs.Arguments.{arguments, operands_of}
use Rattle.b2_stmt.specs.Marked.{calls_mark, mark_place, number_called}
use Rattle.b2_access.specs.Steering.{Steered, unsteered}
use Rattle.b2_stmt.specs.declared.asked.Asked.{Asked}
use Rattle.b2_stmt.specs.declared.asked.Asked.TheVariants as asked
use Rattle.b2_stmt.specs.declared.loops.Loop.{Loop}

-- the place after it, and the place of a loop's body, which stands there also where no unit follows
abbrev pub place_after : Here → Lines → Option Place
place_after h lines = goal_place lines h.place (unit_or_next (h.place.unit + 1) h.units)

abbrev pub body_place : Here → Lines → Place
body_place h lines = unwrap_or (place_after h lines) (record h.place { unit = h.place.unit + 1 })

abbrev pub asks_loop : Result Loop ℕ → Place → Asked
asks_loop (Ok l) body = asked.Begin l body
asks_loop (Err code) body = asked.Nothing (outcome.Failed code)

-- ON: to the line that is chosen, or a call of it; out of range it goes on
abbrev pub line_chosen : Bool → Option ℕ → Here → Lines → Asked
line_chosen true None h lines = asked.Nothing outcome.Next
line_chosen true (Some n) h lines = asked.Nothing (to_line lines h.place n)
line_chosen false None h lines = asked.Nothing outcome.Next
line_chosen false (Some n) h lines = asked.Call n (place_after h lines)

abbrev pub asks_choice : Result (Bool × Option ℕ) ℕ → Here → Lines → Asked
asks_choice (Ok p) h lines = line_chosen p.0 p.1 h lines
asks_choice (Err code) h lines = asked.Nothing (outcome.Failed code)

-- a call is for programs alone, whatever the number
abbrev pub asks_on : Trees → Here → Context → Lines → Asked
asks_on t h s lines = if calls_a_line t && not (is_some h.place.line) then asked.Nothing (outcome.Failed S26_PROGRAM_ONLY) else asks_choice (choice_in s t) h lines

-- GOSUB': a call of the DEFFN' of a number, which passes values
abbrev pub asks_mark : ℕ → Result (List Value) ℕ → Option Place → Asked
asks_mark n (Ok args) back = asked.CallMark n args back
asks_mark n (Err code) back = asked.Nothing (outcome.Failed code)

-- $BREAK: that so many turns are passed
abbrev pub asks_pass : Result ℕ ℕ → Asked
asks_pass (Ok turns) = asked.Pass turns
asks_pass (Err code) = asked.Nothing (outcome.Failed code)

-- what a statement that changes nothing leads to, a line a row
abbrev pub Leads : Type 0
Leads = Trees → Here → Context → Lines → Outcome

abbrev pub still_rows : List (ℕ × Leads)
still_rows =
    (row.IF, λ t h s lines. to_found lines h.place (if_goal s h.place.unit h.units t))
    ∷ (row.GOTO, λ t h s lines. to_found lines h.place (goto_goal t))
    ∷ (row.ELSE, λ t h s lines. to_goal lines h.place (past_colon h.place.unit h.units))
    ∷ (row.ERROR, λ t h s lines. to_goal lines h.place goal.NextLine)
    ∷ (row.END, λ t h s lines. outcome.Ready)
    ∷ (row.REMARK, λ t h s lines. outcome.Next)
    ∷ (row.IMAGE_LINE, λ t h s lines. outcome.Next)
    ∷ (row.DATA, λ t h s lines. outcome.Next)
    ∷ (row.DEFFN, λ t h s lines. skipped_function t)
    ∷ (row.SELECT_PART, λ t h s lines. outcome.Failed D87_FILE_NAME)
    ∷ []

abbrev pub is_still : ℕ → Bool
is_still r = has_row still_rows r

-- what isn't built is left out
abbrev pub left_out : Leads
left_out t h s lines = outcome.Failed S27_LEFT_OUT

abbrev pub still : ℕ → Leads
still r = at_row still_rows left_out r

-- what any other statement asks for, a line a row
abbrev pub Asks : Type 0
Asks = Trees → Here → Context → Lines → Asked

abbrev pub asking_rows : List (ℕ × Asks)
asking_rows =
    (row.FOR, λ t h s lines. asks_loop (loop_in s t) (body_place h lines))
    ∷ (row.NEXT, λ t h s lines. asked.Next (counter_in t))
    ∷ (row.GOSUB, λ t h s lines. asked.Call (line_called t) (place_after h lines))
    ∷ (row.GOSUB_MARKED, λ t h s lines. asks_mark (number_called t) (arguments s (operands_of t)) (place_after h lines))
    ∷ (row.RETURN, λ t h s lines. asked.Return)
    ∷ (row.RETURN_CLEAR, λ t h s lines. asked.Forget (has_all t))
    ∷ (row.ON, λ t h s lines. asks_on t h s lines)
    ∷ (row.STOP, λ t h s lines. asked.Stop (stop_text (text_of_stop t)) (place_after h lines))
    ∷ (row.RUN, λ t h s lines. asked.Run (line_to_run t))
    ∷ (row.CONTINUE, λ t h s lines. asked.Continue)
    ∷ (row.SELECT, λ t h s lines. asked.Select Round)
    ∷ (row.SELECT_NO_ROUND, λ t h s lines. asked.Select Cut)
    ∷ (row.BREAK, λ t h s lines. asks_pass (turns_to_pass s t))
    ∷ []

abbrev pub asks_nothing : Asks
asks_nothing t h s lines = asked.Nothing (outcome.Failed S27_LEFT_OUT)

abbrev pub asked_of : ℕ → Asks
asked_of r = at_row asking_rows asks_nothing r

-- what becomes of the private state
abbrev pub carried : Asked → Place → Private → Lines → Lines → Steered
carried (asked.Nothing o) p me own home = unsteered me o
carried (asked.Begin l body) p me own home = loop_begins l body me
carried (asked.Next v) p me own home = nexts v me
carried (asked.Call n back) p me own home = called_where (line_at n home) (line_start p n) back me
carried asked.Return p me own home = goes_back me
carried (asked.Forget all) p me own home = forgets all p me
carried (asked.Stop shown after) p me own home = stops_program shown p after me
carried (asked.Select mode) p me own home = selects mode me
carried (asked.Run n) p me own home = runs n own me
carried asked.Continue p me own home = continues me.kept me
carried (asked.CallMark n args back) p me own home = calls_mark (mark_place n p me.part own home) args back me
carried (asked.Pass turns) p me own home = breaks turns me

-- the names in it are legal
abbrev pub HasLegalNames : Asked → Type 0
HasLegalNames (asked.Begin l body) = is_legal_name (scalar_of l.var) ≡ true
HasLegalNames (asked.Next v) = is_legal_name (scalar_of v) ≡ true
HasLegalNames a = Unit {0}
