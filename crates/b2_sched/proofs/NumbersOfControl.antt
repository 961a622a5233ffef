-- Statements of control leave numbers: FOR and NEXT give a number, GOSUB' passes values that are numbers, and DEFFN' takes them.
use Rattle.std.proofs.Common.{ℕ, nat_lt, ◌==◌, ◌&&◌, not, Bool, true, false, List, [], ◌∷◌, length, Option, Some, None, is_some, Result, Ok, Err, IfOk}
use Rattle.std.specs.List.{All}
use Rattle.std.proofs.lemmas.List.Elements.{All-cons, All-head, All-nil, All-tail}
use Rattle.b2_dec.specs.Number.{Number, IsNumber}
use Rattle.b2_dec.specs.Arithmetic.{sum_of}
use Rattle.b2_dec.specs.declared.number.Mode.{Mode}
use Rattle.b2_dec.specs.declared.values.Value.{Value}
use Rattle.b2_atom.specs.Tokens.Token.{Plain}
use Rattle.b2_atom.specs.Tree.{Trees}
use Rattle.b2_atom.specs.Tree.Trees.{Put, In}
use Rattle.b2_atom.specs.declared.rows.TheConstants as row
use Rattle.b2_rows.specs.Values.{variable_name}
use Rattle.b2_text.specs.Program.{Lines, line_at, number_after}
use Rattle.b2_text.specs.declared.spots.Spot.{Spot}
use Rattle.b2_flow.specs.Stacks.{entered_last, from_call, from_loop, has_call, has_loop, has_room, most_frames, top_loop}
use Rattle.b2_flow.specs.declared.frame.Frame.{Frame}
use Rattle.b2_flow.specs.declared.frame.Frame.TheVariants.{For, Call}
use Rattle.b2_flow.specs.declared.frame.Place.{Place}
use Rattle.b2_flow.specs.declared.frame.Var2.{Var2}
use Rattle.b2_expr.specs.Answers.{Answer as NumberAnswer, ◌>>=◌}
use Rattle.b2_expr.specs.Kinds.{suits}
use Rattle.b2_expr.specs.Named.{number_there}
use Rattle.b2_expr.specs.Scope.{Context}
use Rattle.b2_expr.specs.Value.{context_of, text, value}
use Rattle.b2_expr.specs.Workspace.{WorkLeft, unchanged, work_in}
use Rattle.b2_expr.specs.declared.operators.Level.TheVariants as level
use Rattle.b2_receiver.specs.Assigning.{assigned_number, is_alpha_receiver}
use Rattle.b2_receiver.specs.Receivers.{any_receiver}
use Rattle.b2_receiver.specs.Receiving.{given_value}
use Rattle.b2_receiver.specs.declared.receiver.Receiver.{Receiver}
use Rattle.b2_access.specs.Borrowers.{homes_entered}
use Rattle.b2_access.specs.Dispatch.{Here, here}
use Rattle.b2_access.specs.Jumps.{to_place}
use Rattle.b2_access.specs.Lending.{SeenLent}
use Rattle.b2_access.specs.Partition.{setting_of}
use Rattle.b2_access.specs.Placed.{Statement}
use Rattle.b2_access.specs.Steering.{Steered, control_of}
use Rattle.b2_access.specs.Views.{AllCleared, ClearCame, ClearLater, LinesErased, TextLocked, clear_came}
use Rattle.b2_access.specs.Working.{work_of}
use Rattle.b2_access.specs.declared.accesses.Access.{Access}
use Rattle.b2_access.specs.declared.accesses.Answer.{Answer}
use Rattle.b2_access.specs.declared.planned.Outcome.{Outcome}
use Rattle.b2_access.specs.declared.planned.Outcome.TheVariants as outcome
use Rattle.b2_access.specs.declared.private.Private.{Private}
use Rattle.b2_access.proofs.Choice.{either}
use Rattle.b2_access.proofs.Dispatch.{each_dispatch}
use Rattle.b2_access.proofs.Tables.{each_row}
use Rattle.b2_stmt.specs.Arguments.{alpha_argument, argument, arguments, number_argument, operands_of}
use Rattle.b2_stmt.specs.Asked.{Asks, asked_of, asking_rows, asks_choice, asks_loop, asks_mark, asks_nothing, asks_on, asks_pass, body_place, carried, is_still, line_chosen, place_after}
use Rattle.b2_stmt.specs.Breaks.{turns_to_pass}
use Rattle.b2_stmt.specs.Borrowing.{asks_of_others, enters}
use Rattle.b2_stmt.specs.Calls.{back_from, called_where, forgets, leaves_call, may_forget_all}
use Rattle.b2_stmt.specs.Choices.{calls_a_line, choice_in}
use Rattle.b2_stmt.specs.Clearing.{asked_access, clearing_ends, edit_finishes}
use Rattle.b2_stmt.specs.RunControl.{continues, runs, runs_from, runs_where}
use Rattle.b2_stmt.specs.Frames.{with_frame}
use Rattle.b2_stmt.specs.Loops.{counter, goes_round, is_over, loop_begins, loop_counts, loop_element, loop_in, made_loop, next_value, nexts, step_in, tested, without_loop}
use Rattle.b2_stmt.specs.Marked.{args_taken, calls_into, calls_mark, ends_taken, ends_with_args, mark_place, number_called, parameters_of, place_in, take_each, takes_args, takes_value, takes_values, value_to, values_fit}
use Rattle.b2_stmt.specs.Parts.{part_came}
use Rattle.b2_stmt.specs.Plan.{acts, acts_unless, around, asked_at, asked_by, by_access, does, ends_at, finish, is_refused, plan, plans_asked, stops}
use Rattle.b2_stmt.specs.declared.asked.Asked.{Asked}
use Rattle.b2_stmt.specs.declared.asked.Asked.TheVariants as asked
use Rattle.b2_stmt.specs.declared.loops.Loop.{Loop}
use Rattle.b2_stmt.proofs.EachPlan.{each_end}
use Rattle.b2_stmt.proofs.PartsCame.{each_part}
use Rattle.b2_stmt_file.specs.SavedNumbers.{GivesNumber, IsAnyNumber}
use Rattle.b2_stmt_file.proofs.NumbersGiven.{sum_gives, then_gives}
use Rattle.b2_stmt_file.proofs.NumbersOfExpressions.{LooksAtNumbers, value_gives}
use Rattle.b2_stmt_file.proofs.SavedNumbers.{alpha_valued, number_valued}
use Rattle.b2_sched.specs.Numbers.{ArgsHold, FinishingHolds, GlobalsHold, PlanningHolds, PrivateHolds}
use Rattle.b2_sched.proofs.NumbersAssigned.{LeftHolds, common_holds, empty_holds, given_value_holds, looks, number_keeps, then_holds}
use Rattle.b2_sched.proofs.NumbersPut.{Keeps, SteeredHolds, test_keeps, works_in}

-- what is asked for gives numbers: the first value of a loop, and those that a call passes
abbrev AskedHolds : Asked → Type 0
AskedHolds (asked.Begin l body) = IsNumber l.from
AskedHolds (asked.CallMark n args back) = All IsAnyNumber args
AskedHolds a = Unit {0}

abbrev AreNumbers : Result (List Value) ℕ → Type 0
AreNumbers r = IfOk r (λ xs. All IsAnyNumber xs)

module _ (s : Context) (h : LooksAtNumbers s) where
  -- FOR
  begins_with : (x y z : NumberAnswer) (v : Var2) → GivesNumber x → IfOk (x >>= (λ a. y >>= (λ b. z >>= (λ c. Ok (record { var = v; from = a; limit = b; step = c }))))) (λ (l : Loop). IsNumber l.from)
  begins_with (Ok x) (Ok y) (Ok z) v is = is
  begins_with (Ok x) (Ok y) (Err code) v is = tt
  begins_with (Ok x) (Err code) z v is = tt
  begins_with (Err code) y z v is = tt

  loop_from : (t : Trees) → IfOk (loop_in s t) (λ (l : Loop). IsNumber l.from)
  loop_from (Put word (Put (Plain k name) (Put equals (In a from (Put to (In b limit (In n step end))))))) =
      begins_with (value s level.Sum from) (value s level.Sum limit) (step_in s n step) (counter (variable_name false name)) (value_gives s h level.Sum from)
  loop_from t = tt

  loop_asked : (r : Result Loop ℕ) (body : Place) → IfOk r (λ (l : Loop). IsNumber l.from) → AskedHolds (asks_loop r body)
  loop_asked (Ok l) body is = is
  loop_asked (Err code) body is = tt

  -- GOSUB'
  argument_is : (t : Trees) → IfOk (argument s t) IsAnyNumber
  argument_is (In n t end) =
      either (λ (r : Result Value ℕ). IfOk r IsAnyNumber) (n == 1) (alpha_argument s t) (number_argument s t) (alpha_valued (text s t)) (number_valued (value s level.Sum t) (value_gives s h level.Sum t))
  argument_is t = tt

  one_more : (x : Result Value ℕ) (xs : Result (List Value) ℕ) → IfOk x IsAnyNumber → AreNumbers xs → AreNumbers (x >>= (λ y. xs >>= (λ ys. Ok (y ∷ ys))))
  one_more (Ok x) (Ok xs) is are = All-cons IsAnyNumber x xs is are
  one_more (Ok x) (Err code) is are = tt
  one_more (Err code) xs is are = tt

  arguments_are : (ts : List Trees) → AreNumbers (arguments s ts)
  arguments_are [] = All-nil IsAnyNumber
  arguments_are (t ∷ ts) = one_more (argument s t) (arguments s ts) (argument_is t) (arguments_are ts)

  mark_asked : (n : ℕ) (args : Result (List Value) ℕ) (back : Option Place) → AreNumbers args → AskedHolds (asks_mark n args back)
  mark_asked n (Ok args) back are = are
  mark_asked n (Err code) back are = tt

  -- ON
  line_asked : (goto : Bool) (n : Option ℕ) (at : Here) (lines : Lines) → AskedHolds (line_chosen goto n at lines)
  line_asked true None at lines = tt
  line_asked true (Some n) at lines = tt
  line_asked false None at lines = tt
  line_asked false (Some n) at lines = tt

  choice_asked : (r : Result (Bool × Option ℕ) ℕ) (at : Here) (lines : Lines) → AskedHolds (asks_choice r at lines)
  choice_asked (Ok p) at lines = line_asked p.0 p.1 at lines
  choice_asked (Err code) at lines = tt

  on_asked : (t : Trees) (at : Here) (lines : Lines) → AskedHolds (asks_on t at s lines)
  on_asked t at lines = either AskedHolds (calls_a_line t && not (is_some at.place.line)) _ _ tt (choice_asked (choice_in s t) at lines)

  pass_asked : (turns : Result ℕ ℕ) → AskedHolds (asks_pass turns)
  pass_asked (Ok turns) = tt
  pass_asked (Err code) = tt

  asked_holds : (r : ℕ) (t : Trees) (at : Here) (lines : Lines) → AskedHolds (asked_of r t at s lines)
  asked_holds r t at lines =
      let F : Asks → Type 0 = λ asks. AskedHolds (asks t at s lines) in
      each_row F asking_rows asks_nothing r (
        loop_asked (loop_in s t) (body_place at lines) (loop_from t),
        (
          tt,
          (
            tt,
            (
              mark_asked (number_called t) (arguments s (operands_of t)) (place_after at lines) (arguments_are (operands_of t)),
              (
                tt,
                (tt, (on_asked t at lines, (tt, (tt, (tt, (tt, (tt, (pass_asked (turns_to_pass s t), tt)))))))),
              ),
            ),
          ),
        ),
      ) tt

-- frames
framed : (f : Frame) (goes : Outcome) (me : Private) → PrivateHolds me → SteeredHolds (with_frame f goes me)
framed f goes me h = either SteeredHolds (nat_lt (length me.stack) most_frames) (record { work = record (control_of me) { stack = f ∷ me.stack }; outcome = goes }) _ h h

-- loops
made_holds : (code : Option ℕ) (l : Loop) (body : Place) (me : Private) → PrivateHolds me → SteeredHolds (made_loop code l body me)
made_holds (Some code) l body me h = h
made_holds None l body me h = framed (For l.var l.limit l.step body) outcome.Next (record me { stack = without_loop l.var me.stack }) h

begins_hold : (l : Loop) (body : Place) (me : Private) → IsNumber l.from → PrivateHolds me → SteeredHolds (loop_begins l body me)
begins_hold l body me is h =
    let a = assigned_number (loop_element l.var) l.from me.vars in
    made_holds a.code l body (record me { vars = a.vars }) (number_keeps (loop_element l.var) l.from is me.vars h.0, h.1)

tested_holds : (code : Option ℕ) (over : Bool) (body : Place) (me : Private) → PrivateHolds me → SteeredHolds (tested code over body me)
tested_holds (Some code) over body me h = h
tested_holds None true body me h = h
tested_holds None false body me h = h

counts_hold : (x : NumberAnswer) (v : Var2) (limit step : Number) (body : Place) (me : Private) → GivesNumber x → PrivateHolds me → SteeredHolds (loop_counts x v limit step body me)
counts_hold (Err code) v limit step body me is h = h
counts_hold (Ok x) v limit step body me is h =
    let a = assigned_number (loop_element v) x me.vars in
    tested_holds a.code (is_over x limit step) body (record me { vars = a.vars }) (number_keeps (loop_element v) x is me.vars h.0, h.1)

next_gives : (mode : Mode) (x : NumberAnswer) (step : Number) → GivesNumber (next_value mode x step)
next_gives mode x step = then_gives x (λ n. sum_of mode n step) (λ n. sum_gives mode n step)

round_holds : (o : Option (Number × Number × Place)) (v : Var2) (me : Private) → PrivateHolds me → SteeredHolds (goes_round o v me)
round_holds None v me h = h
round_holds (Some p) v me h =
    let x = number_there (record { vars = me.vars; element = loop_element v }) in
    counts_hold (next_value me.mode x p.1) v p.0 p.1 p.2 me (next_gives me.mode x p.1) h

nexts_hold : (v : Var2) (me : Private) → PrivateHolds me → SteeredHolds (nexts v me)
nexts_hold v me h = either SteeredHolds (has_loop v me.stack) _ _ (round_holds (top_loop (from_loop v me.stack)) v (record me { stack = from_loop v me.stack }) h) h

-- calls
called_holds : (line : Option (List ℕ)) (q : Place) (back : Option Place) (me : Private) → PrivateHolds me → SteeredHolds (called_where line q back me)
called_holds None q back me h = h
called_holds (Some line) q back me h = framed (Call back None) (outcome.Jump q) me h

back_holds : (how : Option Place → Outcome) (frames : List Frame) (me : Private) → PrivateHolds me → SteeredHolds (back_from how frames me)
back_holds how [] me h = h
back_holds how (For v limit step body ∷ below) me h = h
back_holds how (Call back entered ∷ below) me h = h

leaves_hold : (how : Option Place → Outcome) (me : Private) → PrivateHolds me → SteeredHolds (leaves_call how me)
leaves_hold how me h = either SteeredHolds (has_call me.stack) _ _ (back_holds how (from_call me.stack) me h) h

forgets_hold : (all : Bool) (p : Place) (me : Private) → PrivateHolds me → SteeredHolds (forgets all p me)
forgets_hold false p me h = either SteeredHolds (is_some (entered_last me.stack)) _ _ h (leaves_hold (λ back. outcome.Next) me h)
forgets_hold true p me h = either SteeredHolds (may_forget_all p me) _ _ (h.0, tt) h

into_holds : (entered : Option ℕ) (q : Place) (args : List Value) (back : Option Place) (me : Private) → All IsAnyNumber args → PrivateHolds me → SteeredHolds (calls_into entered q args back me)
into_holds entered q args back me are h =
    either SteeredHolds (has_room me.stack) (record { work = record (control_of me) { work = record (work_of me) { args = Some args }; stack = Call back entered ∷ me.stack }; outcome = outcome.Jump q }) _ (h.0, are) h

mark_holds : (to : Option Place) (args : List Value) (back : Option Place) (me : Private) → All IsAnyNumber args → PrivateHolds me → SteeredHolds (calls_mark to args back me)
mark_holds None args back me are h = h
mark_holds (Some q) args back me are h = into_holds None q args back me are h

-- the course of the program
run_from : (n : Option ℕ) (me : Private) → PrivateHolds me → SteeredHolds (runs_from n me)
run_from None me h = (common_holds me.vars.table h.0, tt)
run_from (Some n) me h = (common_holds me.vars.table h.0, tt)

run_where : (line : Option (List ℕ)) (n : ℕ) (me : Private) → PrivateHolds me → SteeredHolds (runs_where line n me)
run_where None n me h = h
run_where (Some line) n me h = run_from (Some n) me h

run_holds : (n : Option ℕ) (own : Lines) (me : Private) → PrivateHolds me → SteeredHolds (runs n own me)
run_holds None own me h = run_from (number_after None own) me h
run_holds (Some n) own me h = run_where (line_at n own) n me h

continues_hold : (kept : Option Place) (me : Private) → PrivateHolds me → SteeredHolds (continues kept me)
continues_hold None me h = h
continues_hold (Some p) me h = h

carried_holds : (x : Asked) (p : Place) (me : Private) (own home : Lines) → AskedHolds x → PrivateHolds me → SteeredHolds (carried x p me own home)
carried_holds (asked.Nothing o) p me own home are h = h
carried_holds (asked.Begin l body) p me own home is h = begins_hold l body me is h
carried_holds (asked.Next v) p me own home are h = nexts_hold v me h
carried_holds (asked.Call n back) p me own home are h = called_holds (line_at n home) _ back me h
carried_holds asked.Return p me own home are h = leaves_hold to_place me h
carried_holds (asked.Forget all) p me own home are h = forgets_hold all p me h
carried_holds (asked.Stop shown after) p me own home are h = h
carried_holds (asked.Select mode) p me own home are h = h
carried_holds (asked.Run n) p me own home are h = run_holds n own me h
carried_holds asked.Continue p me own home are h = continues_hold me.kept me h
carried_holds (asked.Pass turns) p me own home are h = h
carried_holds (asked.CallMark n args back) p me own home are h = mark_holds (mark_place n p me.part own home) args back me are h

-- DEFFN'
value_taken : (to : Result Receiver ℕ) (x : Value) → IsAnyNumber x → Keeps (value_to to x)
value_taken (Ok to) x is w h = test_keeps (suits (is_alpha_receiver to) x) (given_value to x w) (unchanged w) (given_value_holds to x is w h) h
value_taken (Err code) x is w h = h

each_taken : (ts : List Trees) (xs : List Value) → All IsAnyNumber xs → Keeps (take_each takes_value ts xs)
each_taken [] xs are w h = h
each_taken (t ∷ ts) [] are w h = h
each_taken (t ∷ ts) (x ∷ xs) are w h =
    then_holds (takes_value t x w) (take_each takes_value ts xs) (value_taken (any_receiver (context_of w) t) x (All-head IsAnyNumber x xs are) w h) (each_taken ts xs (All-tail IsAnyNumber x xs are))

values_taken : (ts : List Trees) (xs : List Value) → All IsAnyNumber xs → Keeps (takes_values ts xs)
values_taken ts xs are w h = test_keeps (values_fit ts xs) (take_each takes_value ts xs w) _ (each_taken ts xs are w h) h

args_are_taken : (args : Option (List Value)) (t : Trees) → ArgsHold args → Keeps (args_taken args t)
args_are_taken None t are w h = h
args_are_taken (Some xs) t are w h = values_taken (parameters_of t) xs are w h

taken_holds : (args : Option (List Value)) (r : WorkLeft) (me : Private) → LeftHolds r → PrivateHolds me → SteeredHolds (ends_taken args r me)
taken_holds None r me left h = h
taken_holds (Some xs) r me left h = (left.0, tt)

-- what is planned
module _ (me : Private) (s : SeenLent) (h : PrivateHolds me) (g : GlobalsHold s.globals) where
  asked_here : (u : Statement) (at : Here) → AskedHolds (asked_by u at me s)
  asked_here u at = asked_holds (around me s) (looks (work_in (setting_of me) s.home me.vars s.globals) (works_in me s h g)) u.row u.tree at s.home.lines

  access_plans : (o : Option Access) (e : Steered) → SteeredHolds e → PlanningHolds (by_access o s me e)
  access_plans None e k = (k, g)
  access_plans (Some a) e k = (h, g)

  taking_plans : (t : Trees) → PlanningHolds (ends_with_args (takes_args t me s) me s)
  taking_plans t =
      let left = args_are_taken me.args t h.1 (work_in (setting_of me) s.home me.vars s.globals) (works_in me s h g) in
      (taken_holds me.args (takes_args t me s) me left h, left.1)

  acts_hold : (u : Statement) (at : Here) → PlanningHolds (acts u at me s)
  acts_hold u at =
      let x = asked_by u at me s in
      either PlanningHolds (is_still u.row) _ _ (h, g)
      (either PlanningHolds (u.row == row.DEFFN_MARKED) (ends_with_args (takes_args u.tree me s) me s) (plans_asked x at.place me s) (taking_plans u.tree)
      (access_plans (asks_of_others x at.place me s.own.lines s.home.lines) (carried x at.place me s.own.lines s.home.lines)
      (carried_holds x at.place me s.own.lines s.home.lines (asked_here u at) h)))

  unless_asks : (o : Option Access) (u : Statement) (at : Here) → PlanningHolds (acts_unless o u at me s)
  unless_asks None u at = acts_hold u at
  unless_asks (Some a) u at = (h, g)

  planned : PlanningHolds (plan me s)
  planned =
      each_dispatch is_refused (stops me s) (does me s) me s PlanningHolds (h, g) (h, g)
      (λ p is u. unless_asks (asked_access u.row u.tree me.declared (homes_entered me.stack)) u (here p me s))

  -- and how it finishes
  asked_there : AskedHolds (asked_at me s)
  asked_there = each_dispatch is_refused asked.Nothing (λ u at. asked_by u at me s) me s AskedHolds tt tt (λ p is u. asked_here u (here p me s))

  entered_holds : (home : ℕ) (spot : Spot) (x : Asked) → AskedHolds x → SteeredHolds (enters home spot x me)
  entered_holds home spot (asked.CallMark n args back) are = into_holds (Some home) (place_in home spot) args back me are h
  entered_holds home spot x are = h

  cleared_holds : (k : ClearCame) → SteeredHolds (clearing_ends k me)
  cleared_holds AllCleared = (empty_holds me.vars.area, tt)
  cleared_holds LinesErased = (h.0, tt)
  cleared_holds TextLocked = h
  cleared_holds ClearLater = h

  edited_holds : (x : Access) (a : Answer) → SteeredHolds (edit_finishes x a me)
  edited_holds x a = each_part SteeredHolds me (λ name. h) (λ name. h) (part_came x a) (clearing_ends (clear_came x a) me) (λ code. h) (cleared_holds (clear_came x a))

  ended_holds : (x : Access) (a : Answer) → SteeredHolds (ends_at me.place x a me s)
  ended_holds x a =
      each_end me s SteeredHolds (λ code. h) (leaves_hold to_place me h) (λ home spot. entered_holds home spot (asked_at me s) asked_there)
      (λ p is. carried_holds (asked_at me s) p me s.own.lines s.home.lines asked_there h) x a (edited_holds x a)

pub control_plan_numbers : (me : Private) (s : SeenLent) → PrivateHolds me → GlobalsHold s.globals → PlanningHolds (plan me s)
control_plan_numbers me s h g = planned me s h g

pub control_finish_numbers : (x : Access) (a : Answer) (me : Private) (s : SeenLent) → PrivateHolds me → GlobalsHold s.globals → FinishingHolds (finish x a me s)
control_finish_numbers x a me s h g = (ended_holds me s h g x a, g)
