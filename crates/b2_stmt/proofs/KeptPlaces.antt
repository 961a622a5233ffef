-- A statement leaves the place and the terminal at which it stands, and asks there alone; and where no place is kept, it keeps one
-- only where the partition is then ready.
use Rattle.std.proofs.Common.{◌≡◌, ℕ, ◌==◌, is_some, nat_lt, Bool, true, false, List, [], ◌∷◌, length, refl, ap, inl, inr, Option, Some, None, Ok, Err}
use Rattle.std.specs.Prelude.{◌⊎◌}
use Rattle.b2_atom.specs.declared.rows.TheConstants as row
use Rattle.b2_text.specs.Program.{Lines, line_at, number_after}
use Rattle.b2_dec.specs.Number.{Number}
use Rattle.b2_dec.specs.declared.values.Value.{Value}
use Rattle.b2_flow.specs.Stacks.{entered_last, from_call, from_loop, has_call, has_loop, has_room, most_frames, top_loop}
use Rattle.b2_text.specs.declared.spots.Spot.{Spot}
use Rattle.b2_access.specs.Borrowers.{homes_entered}
use Rattle.b2_access.specs.declared.accesses.Answer.{Answer}
use Rattle.b2_flow.specs.declared.frame.Frame.{Frame}
use Rattle.b2_flow.specs.declared.frame.Frame.TheVariants.{For, Call}
use Rattle.b2_flow.specs.declared.frame.Place.{Place}
use Rattle.b2_flow.specs.declared.frame.Var2.{Var2}
use Rattle.b2_receiver.specs.Assigning.{assigned_number}
use Rattle.b2_expr.specs.Answers.{Answer as NumberAnswer}
use Rattle.b2_expr.specs.Named.{number_there}
use Rattle.b2_access.specs.Keeping.{FinishesKeepNone, PlansInPlace, PlansKeepNone}
use Rattle.b2_access.specs.Lending.{SeenLent}
use Rattle.b2_access.specs.OwnTerminal.{AskedAt, PlannedAt, PlansAtTerminal}
use Rattle.b2_access.specs.Pending.{KeepsOrShows, PlansToShow}
use Rattle.b2_access.specs.Places.{line_start}
use Rattle.b2_access.specs.Jumps.{to_place}
use Rattle.b2_access.specs.Dispatch.{Here, here}
use Rattle.b2_access.specs.Placed.{Statement}
use Rattle.b2_access.specs.Planning.{Planning, done}
use Rattle.b2_access.specs.Working.{work_of}
use Rattle.b2_access.specs.Steering.{Steered, control_of, steered}
use Rattle.b2_access.specs.declared.accesses.Access.{Access}
use Rattle.b2_access.specs.declared.accesses.Access.TheVariants as access
use Rattle.b2_access.specs.declared.planned.Outcome.{Outcome}
use Rattle.b2_access.specs.declared.planned.Outcome.TheVariants as outcome
use Rattle.b2_access.specs.declared.planned.Planned.TheVariants as planned
use Rattle.b2_access.specs.declared.private.Private.{Private}
use Rattle.b2_access.specs.Views.{ClearCame, AllCleared, LinesErased, TextLocked, ClearLater, clear_came}
use Rattle.b2_access.proofs.Choice.{either}
use Rattle.b2_access.proofs.Dispatch.{each_dispatch}
use Rattle.b2_access.proofs.OwnTerminal.{names_none}
use Rattle.b2_access.proofs.Working.{keeps_or_shows}
use Rattle.b2_stmt.specs.Asked.{carried, is_still}
use Rattle.b2_stmt.specs.Borrowing.{asks_of_others, enters}
use Rattle.b2_stmt.specs.Calls.{back_from, called_where, forgets, leaves_call, may_forget_all}
use Rattle.b2_stmt.specs.Clearing.{asked_access, clearing_ends, edit_finishes}
use Rattle.b2_stmt.specs.RunControl.{continues, runs, runs_from, runs_where}
use Rattle.b2_stmt.specs.Frames.{with_frame}
use Rattle.b2_stmt.specs.Loops.{loop_begins, loop_element, loop_counts, goes_round, is_over, made_loop, next_value, nexts, tested, without_loop}
use Rattle.b2_stmt.specs.Marked.{calls_into, calls_mark, ends_taken, ends_with_args, mark_place, place_in, takes_args}
use Rattle.b2_stmt.specs.Parts.{part_came}
use Rattle.b2_expr.specs.Workspace.{WorkLeft}
use Rattle.b2_stmt.proofs.EachPlan.{MayAsk, each_end, each_plan}
use Rattle.b2_stmt.proofs.PartsCame.{each_part}
use Rattle.b2_stmt.specs.Plan.{acts, acts_unless, asked_at, asked_by, by_access, does, finish, is_refused, plan, plans_asked, stops}
use Rattle.b2_stmt.specs.declared.asked.Asked.{Asked}
use Rattle.b2_stmt.specs.declared.asked.Asked.TheVariants as asked
use Rattle.b2_stmt.specs.declared.loops.Loop.{Loop}

-- where no place is kept, a statement that has ended keeps none, or leads to the ready state
abbrev KeepsNoPlace : Private → Type 0
KeepsNoPlace me = me.kept ≡ None

KeepsNothing : Steered → Type 0
KeepsNothing e = (e.work.kept ≡ None) ⊎ (e.outcome ≡ outcome.Ready)

framed : (f : Frame) (o : Outcome) (me : Private) → KeepsNoPlace me → KeepsNothing (with_frame f o me)
unfolding KeepsNothing
framed f o me h = either KeepsNothing (nat_lt (length me.stack) most_frames) (record { work = record (control_of me) { stack = f ∷ me.stack }; outcome = o }) _ (inl h) (inl h)

-- loops
made : (o : Option ℕ) (l : Loop) (body : Place) (me : Private) → KeepsNoPlace me → KeepsNothing (made_loop o l body me)
unfolding KeepsNothing
made (Some code) l body me h = inl h
made None l body me h = framed (For l.var l.limit l.step body) outcome.Next (record me { stack = without_loop l.var me.stack }) h

begun : (l : Loop) (body : Place) (me : Private) → KeepsNoPlace me → KeepsNothing (loop_begins l body me)
begun l body me h = made (assigned_number (loop_element l.var) l.from me.vars).code l body (record me { vars = (assigned_number (loop_element l.var) l.from me.vars).vars }) h

tests : (o : Option ℕ) (over : Bool) (body : Place) (me : Private) → KeepsNoPlace me → KeepsNothing (tested o over body me)
unfolding KeepsNothing
tests (Some code) over body me h = inl h
tests None true body me h = inl h
tests None false body me h = inl h

goes_on : (x : NumberAnswer) (v : Var2) (limit step : Number) (body : Place) (me : Private) → KeepsNoPlace me → KeepsNothing (loop_counts x v limit step body me)
unfolding KeepsNothing
goes_on (Err code) v limit step body me h = inl h
goes_on (Ok x) v limit step body me h =
    tests (assigned_number (loop_element v) x me.vars).code (is_over x limit step) body (record me { vars = (assigned_number (loop_element v) x me.vars).vars }) h

round : (o : Option (Number × Number × Place)) (v : Var2) (me : Private) → KeepsNoPlace me → KeepsNothing (goes_round o v me)
unfolding KeepsNothing
round None v me h = inl h
round (Some p) v me h = goes_on (next_value me.mode (number_there (record { vars = me.vars; element = loop_element v })) p.1) v p.0 p.1 p.2 me h

next : (v : Var2) (me : Private) → KeepsNoPlace me → KeepsNothing (nexts v me)
unfolding KeepsNothing
next v me h = either KeepsNothing (has_loop v me.stack) _ _ (round (top_loop (from_loop v me.stack)) v (record me { stack = from_loop v me.stack }) h) (inl h)

-- calls
called : (line : Option (List ℕ)) (q : Place) (back : Option Place) (me : Private) → KeepsNoPlace me → KeepsNothing (called_where line q back me)
unfolding KeepsNothing
called None q back me h = inl h
called (Some line) q back me h = framed (Call back None) (outcome.Jump q) me h

called_into : (entered : Option ℕ) (q : Place) (args : List Value) (back : Option Place) (me : Private) → KeepsNoPlace me → KeepsNothing (calls_into entered q args back me)
unfolding KeepsNothing
called_into entered q args back me h =
    either KeepsNothing (has_room me.stack) (record { work = record (control_of me) { work = record (work_of me) { args = Some args }; stack = Call back entered ∷ me.stack }; outcome = outcome.Jump q }) _ (inl h) (inl h)

mark_called : (to : Option Place) (args : List Value) (back : Option Place) (me : Private) → KeepsNoPlace me → KeepsNothing (calls_mark to args back me)
unfolding KeepsNothing
mark_called None args back me h = inl h
mark_called (Some q) args back me h = called_into None q args back me h

taken : (o : Option (List Value)) (r : WorkLeft) (me : Private) → KeepsNoPlace me → KeepsNothing (ends_taken o r me)
unfolding KeepsNothing
taken None r me h = inl h
taken (Some xs) r me h = inl h

back : (how : Option Place → Outcome) (fs : List Frame) (me : Private) → KeepsNoPlace me → KeepsNothing (back_from how fs me)
unfolding KeepsNothing
back how [] me h = inl h
back how (For v limit step body ∷ fs) me h = inl h
back how (Call place entered ∷ fs) me h = inl h

left : (how : Option Place → Outcome) (me : Private) → KeepsNoPlace me → KeepsNothing (leaves_call how me)
unfolding KeepsNothing
left how me h = either KeepsNothing (has_call me.stack) _ _ (back how (from_call me.stack) me h) (inl h)

forgotten : (all : Bool) (p : Place) (me : Private) → KeepsNoPlace me → KeepsNothing (forgets all p me)
unfolding KeepsNothing
forgotten false p me h = either KeepsNothing (is_some (entered_last me.stack)) _ _ (inl h) (left (λ b. outcome.Next) me h)
forgotten true p me h = either KeepsNothing (may_forget_all p me) _ _ (inl refl) (inl h)

-- the course of the program
runs_on : (n : Option ℕ) (me : Private) → KeepsNoPlace me → KeepsNothing (runs_from n me)
unfolding KeepsNothing
runs_on None me h = inl refl
runs_on (Some n) me h = inl refl

runs_there : (line : Option (List ℕ)) (n : ℕ) (me : Private) → KeepsNoPlace me → KeepsNothing (runs_where line n me)
unfolding KeepsNothing
runs_there None n me h = inl h
runs_there (Some line) n me h = runs_on (Some n) me h

run : (n : Option ℕ) (own : Lines) (me : Private) → KeepsNoPlace me → KeepsNothing (runs n own me)
run None own me h = runs_on (number_after None own) me h
run (Some n) own me h = runs_there (line_at n own) n me h

continued : (o : Option Place) (me : Private) → KeepsNoPlace me → KeepsNothing (continues o me)
unfolding KeepsNothing
continued None me h = inl h
continued (Some p) me h = inl h

-- what was asked of the private state
carries : (a : Asked) (p : Place) (me : Private) (own home : Lines) → KeepsNoPlace me → KeepsNothing (carried a p me own home)
unfolding KeepsNothing
carries (asked.Nothing o) p me own home h = inl h
carries (asked.Begin l body) p me own home h = begun l body me h
carries (asked.Next v) p me own home h = next v me h
carries (asked.Call n to) p me own home h = called (line_at n home) (line_start p n) to me h
carries asked.Return p me own home h = left to_place me h
carries (asked.Forget all) p me own home h = forgotten all p me h
carries (asked.Stop shown after) p me own home h = inr refl
carries (asked.Select mode) p me own home h = inl h
carries (asked.Run n) p me own home h = run n own me h
carries asked.Continue p me own home h = continued me.kept me h
carries (asked.Pass turns) p me own home h = inl h
carries (asked.CallMark n args to) p me own home h = mark_called (mark_place n p me.part own home) args to me h

-- what is planned
PlansNothing : Planning → Type 0
PlansNothing p = (p.me.kept ≡ None) ⊎ (p.planned ≡ planned.Done outcome.Ready)

done_by : (s : SeenLent) (me : Private) (e : Steered) → KeepsNothing e → PlansNothing (done s (steered me e))
unfolding KeepsNothing PlansNothing
done_by s me e (inl h) = inl h
done_by s me e (inr h) = inr (ap planned.Done h)

asking : (o : Option Access) (s : SeenLent) (me : Private) (e : Steered) → KeepsNoPlace me → KeepsNothing e → PlansNothing (by_access o s me e)
unfolding PlansNothing
asking None s me e k h = done_by s me e h
asking (Some a) s me e k h = inl k

acted : (u : Statement) (h : Here) (me : Private) (s : SeenLent) → KeepsNoPlace me → PlansNothing (acts u h me s)
unfolding KeepsNothing PlansNothing
acted u h me s k =
    let x = asked_by u h me s in
    either PlansNothing (is_still u.row) _ _ (inl k)
    (either PlansNothing (u.row == row.DEFFN_MARKED) (ends_with_args (takes_args u.tree me s) me s) (plans_asked x h.place me s)
    (done_by (record s { globals = (takes_args u.tree me s).work.globals }) me (ends_taken me.args (takes_args u.tree me s) me) (taken me.args (takes_args u.tree me s) me k))
    (asking (asks_of_others x h.place me s.own.lines s.home.lines) s me (carried x h.place me s.own.lines s.home.lines) k (carries x h.place me s.own.lines s.home.lines k)))

unless : (o : Option Access) (u : Statement) (h : Here) (me : Private) (s : SeenLent) → KeepsNoPlace me → PlansNothing (acts_unless o u h me s)
unfolding PlansNothing
unless None u h me s k = acted u h me s k
unless (Some a) u h me s k = inl k

-- how it finishes
clears : (k : ClearCame) (me : Private) → KeepsNoPlace me → KeepsNothing (clearing_ends k me)
unfolding KeepsNothing
clears AllCleared me h = inl refl
clears LinesErased me h = inl refl
clears TextLocked me h = inl h
clears ClearLater me h = inl h

pub plans_keep_none : PlansKeepNone plan
unfolding PlansNothing
plans_keep_none me s k =
    each_dispatch is_refused (stops me s) (does me s) me s PlansNothing (inl k) (inl k) (λ p is u. unless (asked_access u.row u.tree me.declared (homes_entered me.stack)) u (here p me s) me s k)

enters_none : (home : ℕ) (spot : Spot) (x : Asked) (me : Private) → KeepsNoPlace me → KeepsNothing (enters home spot x me)
unfolding KeepsNothing
enters_none home spot (asked.CallMark n args to) me k = called_into (Some home) (place_in home spot) args to me k
enters_none home spot (asked.Nothing o) me k = inl k
enters_none home spot (asked.Begin l body) me k = inl k
enters_none home spot (asked.Next v) me k = inl k
enters_none home spot (asked.Call n to) me k = inl k
enters_none home spot asked.Return me k = inl k
enters_none home spot (asked.Forget all) me k = inl k
enters_none home spot (asked.Stop shown after) me k = inl k
enters_none home spot (asked.Select mode) me k = inl k
enters_none home spot (asked.Run n) me k = inl k
enters_none home spot asked.Continue me k = inl k
enters_none home spot (asked.Pass turns) me k = inl k

edits_none : (x : Access) (a : Answer) (me : Private) → KeepsNoPlace me → KeepsNothing (edit_finishes x a me)
unfolding KeepsNothing
edits_none x a me k = each_part KeepsNothing me (λ name. inl k) (λ name. inl k) (part_came x a) (clearing_ends (clear_came x a) me) (λ c. inl k) (clears (clear_came x a) me k)

pub finishes_keep_none : FinishesKeepNone finish
unfolding KeepsNothing
finishes_keep_none x a me s k =
    each_end me s KeepsNothing (λ code. inl k) (left to_place me k) (λ home spot. enters_none home spot (asked_at me s) me k) (λ p is. carries (asked_at me s) p me s.own.lines s.home.lines k) x a (edits_none x a me k)

-- by the form of what they change, they leave the place and the terminal; and what they ask for is at no terminal
asks_here : (term : ℕ) (a : Access) → MayAsk a → AskedAt term (Some a)
unfolding MayAsk
asks_here term (access.ClearAll name homes) may = names_none term (access.ClearAll name homes) refl
asks_here term (access.Erase from to homes) may = names_none term (access.Erase from to homes) refl
asks_here term (access.Declare name old) may = names_none term (access.Declare name old) refl
asks_here term (access.FindPart name) may = names_none term (access.FindPart name) refl
asks_here term (access.Enter name mark) may = names_none term (access.Enter name mark) refl
asks_here term (access.Leave home) may = names_none term (access.Leave home) refl
asks_here term (access.Drop homes) may = names_none term (access.Drop homes) refl
asks_here term a may = absurd may

AtTerminal : Private → Planning → Type 0
AtTerminal me p = (p.me.term ≡ me.term) × PlannedAt me.term p.planned

pub plans_in_place : PlansInPlace plan
plans_in_place me s = each_plan me s (λ (p : Planning). p.me.place ≡ me.place) (λ a may. refl) (λ l e. refl)

pub plans_at_terminal : PlansAtTerminal plan
unfolding AtTerminal
plans_at_terminal me s = each_plan me s (AtTerminal me) (λ a may. (refl, asks_here me.term a may)) (λ l e. (refl, tt))

-- and what waits to be shown waited before, or is for the terminal
pub plans_to_show : PlansToShow plan
plans_to_show me s = each_plan me s (λ (p : Planning). KeepsOrShows me.pending p.me.pending) (λ a may. inl refl) (λ l e. keeps_or_shows e.work.work.shows me.pending)
