-- What a statement plans that is done fast, by its row: it changes nothing, or what it asks of the private state is carried out.
use Rattle.std.proofs.Common.{◌≡◌, ◌∙◌, ℕ, ◌==◌, Bool, true, false, refl, sym, ap, subst, Option, Some, None, is_some, Result, Ok, Err}
use Rattle.b2_atom.specs.declared.rows.TheConstants as row
use Rattle.b2_rows.specs.Following.{past_colon, tree_units}
use Rattle.b2_rows.specs.Rows.{tree_at}
use Rattle.b2_rows.specs.declared.following.Goal.TheVariants as goal
use Rattle.b2_text.specs.Program.{line_at}
use Rattle.b2_flow.specs.Stacks.{entered_last}
use Rattle.b2_flow.specs.declared.frame.Place.{Place}
use Rattle.b2_access.specs.Borrowers.{homes_entered}
use Rattle.b2_access.specs.Dispatch.{permitted}
use Rattle.b2_access.specs.Found.{here_found}
use Rattle.b2_access.specs.Jumps.{to_found, to_goal}
use Rattle.b2_access.specs.Fast.{DoneFast, led_to, place_following}
use Rattle.b2_access.specs.Places.{line_start}
use Rattle.b2_access.specs.Placed.{Statement}
use Rattle.b2_access.specs.Planning.{Planning, done}
use Rattle.b2_access.specs.Steering.{steered}
use Rattle.b2_access.specs.declared.accesses.Access.{Access}
use Rattle.b2_access.specs.declared.placed.Found.{Found}
use Rattle.b2_access.specs.declared.planned.Outcome.{Outcome}
use Rattle.b2_access.specs.declared.planned.Outcome.TheVariants as outcome
use Rattle.b2_access.specs.declared.private.Private.{Private}
use Rattle.b2_stmt.specs.Asked.{asks_loop, body_place, carried, is_still, still}
use Rattle.b2_stmt.specs.Borrowing.{asks_of_others, asks_to_leave}
use Rattle.b2_stmt.specs.Branches.{goto_goal, if_goal, skipped_function}
use Rattle.b2_stmt.specs.Calls.{called_where, goes_back, line_called}
use Rattle.b2_stmt.specs.Clearing.{asked_access, asks_access}
use Rattle.b2_stmt.specs.Loops.{counter_in, loop_in, nexts}
use Rattle.b2_stmt.specs.Parts.{asks_to_declare, declared_by}
use Rattle.b2_stmt.specs.Fast.{LeadsBy, Steers, around_fast, asked_marked, calls_marked, marked_fast, planned_fast, seen_fast}
use Rattle.b2_stmt.specs.Plan.{acts, asked_by, by_access, does, is_refused, plans_asked, stops}
use Rattle.b2_stmt.specs.declared.asked.Asked.{Asked}
use Rattle.b2_stmt.specs.declared.asked.Asked.TheVariants as asked
use Rattle.b2_stmt.specs.declared.loops.Loop.{Loop}
use Rattle.b2_stmt.proofs.Executed.{asked_there, asks_nothing, none_planned, still_there}

-- a row of statements that may stand in the program and ask for no access
may_stand_by : (b : Bool) (r : ℕ) → b ≡ true → is_refused r true ≡ false → is_refused r b ≡ false
may_stand_by true r is h = h
may_stand_by false r is h = cc

-- the statement of a row, where it was found
abbrev of_row : ℕ → Found → Statement
of_row r f = record { row = r; tree = tree_at r f.unit.now.bytes.now }

plans_row : (f : Found) (me : Private) (r : ℕ) → is_some f.place.line ≡ true → f.unit.now.row ≡ r → is_refused r true ≡ false
    → asked_access r (tree_at r f.unit.now.bytes.now) me.declared (homes_entered me.stack) ≡ None → planned_fast f me ≡ acts (of_row r f) (here_found f) me (seen_fast f)
plans_row f me r program is allowed none =
    ap (λ (n : ℕ). permitted is_refused (stops me (seen_fast f)) (does me (seen_fast f)) (of_row n f) (here_found f)) is
    ∙ none_planned (of_row r f) (here_found f) me (seen_fast f) (may_stand_by (is_some f.place.line) r program allowed) none

-- how it ended, where that is what is planned
done_so : (f : Found) (me after : Private) (l : ℕ × ℕ) (o : Outcome) (stood : Private) → planned_fast f me ≡ done (seen_fast f) (record { me = stood; outcome = o }) → stood ≡ after → LeadsBy (Some l) f o
    → DoneFast (Some l) f me after (planned_fast f me)
done_so f me after l o stood plans same h =
    (ap (λ (p : Planning). p.me) plans ∙ same, ap (λ (p : Planning). led_to p.planned (place_following f)) plans ∙ h)

-- it changes nothing
still_fast : (f : Found) (me : Private) (l : Option (ℕ × ℕ)) (r : ℕ) → is_some f.place.line ≡ true → f.unit.now.row ≡ r → is_refused r true ≡ false → asks_access r ≡ false → is_still r ≡ true
    → LeadsBy l f (still r (tree_at r f.unit.now.bytes.now) (here_found f) (around_fast f me) f.home.now.lines) → DoneFast l f me me (planned_fast f me)
still_fast f me None r program is allowed quiet rests h = refl
still_fast f me (Some l) r program is allowed quiet rests h =
    done_so f me me l (still r (tree_at r f.unit.now.bytes.now) (here_found f) (around_fast f me) f.home.now.lines) me
    (plans_row f me r program is allowed (asks_nothing r (tree_at r f.unit.now.bytes.now) me.declared (homes_entered me.stack) quiet) ∙ still_there (of_row r f) (here_found f) me (seen_fast f) rests) refl h

-- or it asks something of the private state that is none of the texts of others
asked_fast : (f : Found) (me after : Private) (l : Option (ℕ × ℕ)) (r : ℕ) (x : Asked) → is_some f.place.line ≡ true → f.unit.now.row ≡ r → is_refused r true ≡ false → asks_access r ≡ false
    → is_still r ≡ false → (r == row.DEFFN_MARKED) ≡ false → asked_by (of_row r f) (here_found f) me (seen_fast f) ≡ x
    → (is_some l ≡ true → asks_of_others x f.place me f.own.now.lines f.home.now.lines ≡ None)
    → Steers l f me after (carried x f.place me f.own.now.lines f.home.now.lines) → DoneFast l f me after (planned_fast f me)
asked_fast f me after None r x program is allowed quiet acts_so other asks none h = h
asked_fast f me after (Some l) r x program is allowed quiet acts_so other asks none h =
    let s = seen_fast f in
    let e = carried x f.place me f.own.now.lines f.home.now.lines in
    done_so f me after l e.outcome (steered me e).me
    (plans_row f me r program is allowed (asks_nothing r (tree_at r f.unit.now.bytes.now) me.declared (homes_entered me.stack) quiet) ∙ asked_there (of_row r f) (here_found f) me s acts_so other
    ∙ ap (λ (a : Asked). plans_asked a f.place me s) asks ∙ ap (λ (o : Option Access). by_access o s me e) (none refl))
    h.0 h.1

-- row by row
pub goto_fast : (f : Found) (me : Private) (l : Option (ℕ × ℕ)) → is_some f.place.line ≡ true → f.unit.now.row ≡ row.GOTO
    → LeadsBy l f (to_found f.home.now.lines f.place (goto_goal (tree_at row.GOTO f.unit.now.bytes.now))) → DoneFast l f me me (planned_fast f me)
goto_fast f me l program is h = still_fast f me l row.GOTO program is refl refl refl h

pub if_fast : (f : Found) (me : Private) (l : Option (ℕ × ℕ)) → is_some f.place.line ≡ true → f.unit.now.row ≡ row.IF
    → LeadsBy l f (to_found f.home.now.lines f.place (if_goal (around_fast f me) f.place.unit (tree_units f.line.now) (tree_at row.IF f.unit.now.bytes.now))) → DoneFast l f me me (planned_fast f me)
if_fast f me l program is h = still_fast f me l row.IF program is refl refl refl h

pub else_fast : (f : Found) (me : Private) (l : Option (ℕ × ℕ)) → is_some f.place.line ≡ true → f.unit.now.row ≡ row.ELSE
    → LeadsBy l f (to_goal f.home.now.lines f.place (past_colon f.place.unit (tree_units f.line.now))) → DoneFast l f me me (planned_fast f me)
else_fast f me l program is h = still_fast f me l row.ELSE program is refl refl refl h

pub error_fast : (f : Found) (me : Private) (l : Option (ℕ × ℕ)) → is_some f.place.line ≡ true → f.unit.now.row ≡ row.ERROR
    → LeadsBy l f (to_goal f.home.now.lines f.place goal.NextLine) → DoneFast l f me me (planned_fast f me)
error_fast f me l program is h = still_fast f me l row.ERROR program is refl refl refl h

pub remark_fast : (f : Found) (me : Private) (l : Option (ℕ × ℕ)) → is_some f.place.line ≡ true → f.unit.now.row ≡ row.REMARK
    → LeadsBy l f (outcome.Next) → DoneFast l f me me (planned_fast f me)
remark_fast f me l program is h = still_fast f me l row.REMARK program is refl refl refl h

pub image_fast : (f : Found) (me : Private) (l : Option (ℕ × ℕ)) → is_some f.place.line ≡ true → f.unit.now.row ≡ row.IMAGE_LINE
    → LeadsBy l f (outcome.Next) → DoneFast l f me me (planned_fast f me)
image_fast f me l program is h = still_fast f me l row.IMAGE_LINE program is refl refl refl h

pub data_fast : (f : Found) (me : Private) (l : Option (ℕ × ℕ)) → is_some f.place.line ≡ true → f.unit.now.row ≡ row.DATA
    → LeadsBy l f (outcome.Next) → DoneFast l f me me (planned_fast f me)
data_fast f me l program is h = still_fast f me l row.DATA program is refl refl refl h

pub next_fast : (f : Found) (me after : Private) (l : Option (ℕ × ℕ)) → is_some f.place.line ≡ true → f.unit.now.row ≡ row.NEXT
    → Steers l f me after (nexts (counter_in (tree_at row.NEXT f.unit.now.bytes.now)) me) → DoneFast l f me after (planned_fast f me)
next_fast f me after l program is h = asked_fast f me after l row.NEXT (asked.Next (counter_in (tree_at row.NEXT f.unit.now.bytes.now))) program is refl refl refl refl refl (λ _. refl) h

pub gosub_fast : (f : Found) (me after : Private) (l : Option (ℕ × ℕ)) → is_some f.place.line ≡ true → f.unit.now.row ≡ row.GOSUB
    → Steers l f me after (called_where (line_at (line_called (tree_at row.GOSUB f.unit.now.bytes.now)) f.home.now.lines) (line_start f.place (line_called (tree_at row.GOSUB f.unit.now.bytes.now))) (place_following f) me) → DoneFast l f me after (planned_fast f me)
gosub_fast f me after l program is h = asked_fast f me after l row.GOSUB (asked.Call (line_called (tree_at row.GOSUB f.unit.now.bytes.now)) (place_following f)) program is refl refl refl refl refl (λ _. refl) h

pub return_fast : (f : Found) (me after : Private) (l : Option (ℕ × ℕ)) → is_some f.place.line ≡ true → f.unit.now.row ≡ row.RETURN → (is_some l ≡ true → entered_last me.stack ≡ None)
    → Steers l f me after (goes_back me) → DoneFast l f me after (planned_fast f me)
return_fast f me after l program is none h = asked_fast f me after l row.RETURN (asked.Return) program is refl refl refl refl refl (λ done. ap asks_to_leave (none done)) h

pub call_fast : (f : Found) (me after : Private) (l : Option (ℕ × ℕ)) → is_some f.place.line ≡ true → f.unit.now.row ≡ row.GOSUB_MARKED
    → (is_some l ≡ true → asks_of_others (asked_marked f me) f.place me f.own.now.lines f.home.now.lines ≡ None) → Steers l f me after (calls_marked f me) → DoneFast l f me after (planned_fast f me)
call_fast f me after l program is none h = asked_fast f me after l row.GOSUB_MARKED (asked_marked f me) program is refl refl refl refl refl none h

asks_no_others : (f : Found) (me : Private) (r : Result Loop ℕ) (body : Place) → asks_of_others (asks_loop r body) f.place me f.own.now.lines f.home.now.lines ≡ None
asks_no_others f me (Ok l) body = refl
asks_no_others f me (Err code) body = refl

pub for_fast : (f : Found) (me after : Private) (l : Option (ℕ × ℕ)) → is_some f.place.line ≡ true → f.unit.now.row ≡ row.FOR
    → Steers l f me after (carried (asks_loop (loop_in (around_fast f me) (tree_at row.FOR f.unit.now.bytes.now)) (body_place (here_found f) f.home.now.lines)) f.place me f.own.now.lines f.home.now.lines) → DoneFast l f me after (planned_fast f me)
for_fast f me after l program is h = asked_fast f me after l row.FOR (asks_loop (loop_in (around_fast f me) (tree_at row.FOR f.unit.now.bytes.now)) (body_place (here_found f) f.home.now.lines)) program is refl refl refl refl refl (λ _. asks_no_others f me (loop_in (around_fast f me) (tree_at row.FOR f.unit.now.bytes.now)) (body_place (here_found f) f.home.now.lines)) h

-- DEFFN that declares no name asks for no access
pub function_fast : (f : Found) (me : Private) (l : Option (ℕ × ℕ)) → is_some f.place.line ≡ true → f.unit.now.row ≡ row.DEFFN → (is_some l ≡ true → declared_by (tree_at row.DEFFN f.unit.now.bytes.now) ≡ None)
    → LeadsBy l f (skipped_function (tree_at row.DEFFN f.unit.now.bytes.now)) → DoneFast l f me me (planned_fast f me)
function_fast f me None program is none h = refl
function_fast f me (Some l) program is none h =
    done_so f me me l (skipped_function (tree_at row.DEFFN f.unit.now.bytes.now)) me
    (plans_row f me row.DEFFN program is refl (ap (asks_to_declare me.declared) (none refl)) ∙ still_there (of_row row.DEFFN f) (here_found f) me (seen_fast f) refl) refl h

-- DEFFN' takes what a call passes
pub mark_fast : (f : Found) (me after : Private) (l : Option (ℕ × ℕ)) → is_some f.place.line ≡ true → f.unit.now.row ≡ row.DEFFN_MARKED
    → DoneFast l f me after (marked_fast f me) → DoneFast l f me after (planned_fast f me)
mark_fast f me after l program is h =
    subst (λ (p : Planning). DoneFast l f me after p)
    (sym (plans_row f me row.DEFFN_MARKED program is refl (asks_nothing row.DEFFN_MARKED (tree_at row.DEFFN_MARKED f.unit.now.bytes.now) me.declared (homes_entered me.stack) refl))) h
