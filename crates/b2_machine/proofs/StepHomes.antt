-- A step names no partition as a home but its own, those that were named before, and those to whom a name leads that it touches.
use Rattle.std.proofs.Common.{◌≡◌, ℕ, ◌∙◌, sym, ap, subst, nat_lt, Bool, true, false, not, List, [], ◌∷◌, length, Option, Some, None, is_some, Result, Ok, Err, refl}
use Rattle.std.specs.Prelude.{◌&&◌, ◌++◌, ◌+◌}
use Rattle.std.specs.Option.{option_map, option_and_then}
use Rattle.b2_flow.specs.Frames.{is_immediate_loop}
use Rattle.b2_flow.specs.Stacks.{most_frames}
use Rattle.b2_flow.specs.declared.frame.Frame.{Frame}
use Rattle.b2_flow.specs.declared.frame.Place.{Place}
use Rattle.b2_rows.specs.Following.{taken_fault, unit_or_next}
use Rattle.b2_rows.specs.declared.following.Goal.{Goal}
use Rattle.b2_rows.specs.declared.following.Goal.TheVariants as goal
use Rattle.b2_text.specs.Program.{Lines, number_after}
use Rattle.b2_vars.specs.Globals.{Globals}
use Rattle.b2_text.specs.Spots.{first_opening, is_mark}
use Rattle.b2_text.specs.declared.spots.Spot.{Spot}
use Rattle.b2_syntax.specs.Reading.{reads}
use Rattle.b2_syntax.specs.declared.Entered.{Entered}
use Rattle.b2_syntax.specs.declared.Entered.TheVariants as entered
use Rattle.b2_syntax.specs.declared.LineErr.{LineErr}
use Rattle.b2_syntax.specs.declared.LineErr.TheVariants as refusal
use Rattle.b2_access.specs.Homes.{AnswerIn, FramesIn, HomesIn, IsWithin, OutcomeIn, PlaceIn, PlannedIn, at_homes}
use Rattle.b2_access.specs.Lending.{SeenLent}
use Rattle.b2_access.specs.Leading.{AnswersLead, TouchedNamesIn}
use Rattle.b2_access.specs.Loans.{Loan, LoansGlobals, loan_touched}
use Rattle.b2_access.specs.Partition.{runs_program}
use Rattle.b2_access.specs.Placed.{Statement, statement_placed}
use Rattle.b2_access.specs.Places.{goal_place, line_after, line_start}
use Rattle.b2_access.specs.Planning.{Finishing, Planning}
use Rattle.b2_access.specs.Sharing.{ServingOf}
use Rattle.b2_access.specs.Store.{StoreState, content}
use Rattle.b2_access.specs.Touching.{touched}
use Rattle.b2_access.specs.declared.accesses.Access.{Access}
use Rattle.b2_access.specs.declared.accesses.Access.TheVariants as access
use Rattle.b2_access.specs.declared.accesses.Answer.{Answer}
use Rattle.b2_access.specs.declared.accesses.Answer.TheVariants as answer
use Rattle.b2_access.specs.declared.lending.At.{At}
use Rattle.b2_access.specs.declared.objects.Object.{Object}
use Rattle.b2_access.specs.declared.objects.Object.TheVariants as object
use Rattle.b2_access.specs.declared.planned.Outcome.{Outcome}
use Rattle.b2_access.specs.declared.planned.Outcome.TheVariants as outcome
use Rattle.b2_access.specs.declared.planned.Planned.{Planned}
use Rattle.b2_access.specs.declared.planned.Planned.TheVariants as planned
use Rattle.b2_access.specs.declared.private.Private.{Private}
use Rattle.b2_access.proofs.Choice.{either}
use Rattle.b2_access.specs.Task.{in_left, in_right}
use Rattle.b2_access.proofs.Shown.{shown_leads}
use Rattle.b2_access.proofs.Working.{within}
use Rattle.b2_access.proofs.Homes.{marks_none}
use Rattle.b2_language.specs.Languages.{AreLawful, Ways}
use Rattle.b2_access.specs.KeyLiterals.{typed_by_mark}
use Rattle.b2_language.specs.Following.{following_place, moves_to, units_at}
use Rattle.b2_machine.specs.Endings.{Ending, counts, repeats}
use Rattle.b2_machine.specs.Keys.{called_at, calls_where, pressed_by}
use Rattle.b2_machine.specs.Listed.{range_listed, lists}
use Rattle.b2_machine.specs.Messages.{shows_text}
use Rattle.b2_machine.specs.Moving.{ends_by, ends_onward, enters_program, error_place, faults, goes_to, is_continue, is_taken, jumps, place_onward}
use Rattle.b2_machine.specs.Readiness.{halted, readies, resets, without_halt, without_immediate_loops}
use Rattle.b2_machine.specs.Statements.{begins, begins_where, begun_by, builder_of, finish_by, finishes, leaves, plan_by}
use Rattle.b2_machine.specs.Step.{StepEnd, carries_out, lent_to_begin, line_read, seen_by, step, steps_by, text_in, whose_by}
use Rattle.b2_machine.specs.Touched.{StepsStayWithin, Told, begin_touched, tells_carrying, told, told_by}
use Rattle.b2_machine.specs.Typing.{line_taken, put_by, shown_by, shows_output, takes, takes_or_refuses, typed_by_key}
use Rattle.b2_machine.specs.declared.ends.Stepped.{Stepped}
use Rattle.b2_machine.specs.declared.moving.Onward.{Onward}
use Rattle.b2_machine.specs.declared.statements.Builder.{Builder}
use Rattle.b2_machine.specs.declared.moving.Onward.TheVariants as onward
use Rattle.b2_machine.specs.declared.statements.Builder.TheVariants as builder
use Rattle.b2_machine.specs.declared.statements.Progress.{Progress}
use Rattle.b2_machine.specs.declared.statements.Progress.TheVariants as progress
use Rattle.b2_machine.proofs.Lent.{begun_store, names_left}
use Rattle.b2_access.specs.Showing.{shown}
use Rattle.b2_access.specs.Views.{column_shown}
use Rattle.b2_machine.specs.Due.{HasDue, due}
use Rattle.b2_machine.specs.declared.rules.Rule.{Rule}
use Rattle.b2_machine.specs.declared.rules.Rule.TheVariants as rule
use Rattle.b2_machine.proofs.DueRules.{has_due}

module _ (ways : Ways) (lawful : AreLawful ways) (among : ℕ → Bool) where
  abbrev Within : Private → Type 0
  Within me = IsWithin among me

  abbrev EndIn : Ending → Type 0
  EndIn e = IsWithin among e.me

  -- becoming ready
  without_loops : (fs : List Frame) → FramesIn among fs → FramesIn among (without_immediate_loops fs)
  without_loops [] h = tt
  without_loops (f ∷ fs) h = either (FramesIn among) (not (is_immediate_loop f)) (f ∷ without_immediate_loops fs) (without_immediate_loops fs) (h.0, without_loops fs h.1) (without_loops fs h.1)

  readied : (text : List ℕ) (me : Private) → Within me → Within (readies text me)
  readied text me w = record { part = w.part; place = tt; kept = w.kept; frames = without_loops me.stack w.frames }

  reset_in : (me : Private) → Within me → EndIn (resets me)
  reset_in me w = record { part = w.part; place = tt; kept = tt; frames = tt }

  halted_in : (me : Private) → Within me → EndIn (halted me)
  halted_in me w = record { part = w.part; place = tt; kept = either (PlaceIn among) (runs_program me) me.place me.kept w.place w.kept; frames = without_loops me.stack w.frames }

  -- what is shown, typed and entered
  shown_in : (x : Access) (a : Answer) (me : Private) → Within me → EndIn (shown_by x a me)
  shown_in (access.Show term bytes column) answer.Done me w = record { part = w.part; place = w.place; kept = w.kept; frames = w.frames }
  shown_in (access.PrintTo addr bytes column) answer.Done me w = record { part = w.part; place = w.place; kept = w.kept; frames = w.frames }
  shown_in x a me w = w

  typed_in : (a : Answer) (me : Private) → Within me → EndIn (typed_by_key a me)
  typed_in answer.Done me w = record { part = w.part; place = w.place; kept = w.kept; frames = w.frames }
  typed_in a me w = w

  put_in : (a : Answer) (me : Private) → Within me → EndIn (put_by a me)
  put_in answer.Done me w = record { part = w.part; place = w.place; kept = tt; frames = tt }
  put_in (answer.Locked q) me w = record { part = w.part; place = w.place; kept = w.kept; frames = w.frames }
  put_in (answer.Refused code) me w = record { part = w.part; place = w.place; kept = w.kept; frames = w.frames }
  put_in a me w = w

  takes_in : (e : Entered) (me : Private) → Within me → Within (takes e me)
  takes_in entered.Empty me w = record { part = w.part; place = w.place; kept = w.kept; frames = w.frames }
  takes_in (entered.Delete n) me w = record { part = w.part; place = w.place; kept = w.kept; frames = w.frames }
  takes_in (entered.Numbered n atoms) me w = record { part = w.part; place = w.place; kept = w.kept; frames = w.frames }
  takes_in (entered.Immediate atoms) me w = record { part = w.part; place = w.part; kept = w.kept; frames = w.frames }

  taken_in : (r : Result Entered LineErr) (me : Private) → Within me → Within (takes_or_refuses r me)
  taken_in (Ok e) me w = takes_in e me w
  taken_in (Err (refusal.At code column)) me w = record { part = w.part; place = w.place; kept = w.kept; frames = w.frames }
  taken_in (Err refusal.NoMemory) me w = w

  line_in : (bytes : List ℕ) (me : Private) → Within me → Within (line_taken bytes me)
  line_in bytes me w = taken_in (reads bytes) (record me { term_column = 0 }) (record { part = w.part; place = w.place; kept = w.kept; frames = w.frames })

  -- special function keys
  called_in : (o : Option Spot) (me : Private) → Within me → Within (calls_where o me)
  called_in None me w = w
  called_in (Some spot) me w =
      either Within (nat_lt (length me.stack) most_frames) (called_at spot me) _
      (record { part = w.part; place = w.part; kept = tt; frames = ((tt, tt), w.frames) })
      (record { part = w.part; place = w.place; kept = w.kept; frames = w.frames })

  pressed_in : (text : Option (List ℕ)) (o : Option Spot) (me : Private) → Within me → Within (pressed_by text o me)
  pressed_in (Some text) o me w = record { part = w.part; place = w.place; kept = w.kept; frames = w.frames }
  pressed_in None o me w = called_in o me w

  -- where it goes on
  after_by : (n : Option ℕ) (p : Place) → among p.home ≡ true → PlaceIn among (option_map (line_start p) n)
  after_by None p h = tt
  after_by (Some n) p h = h

  after_line : (lines : Lines) (p : Place) → among p.home ≡ true → PlaceIn among (line_after lines p)
  after_line lines p h = by p.line
    where
      by : (l : Option ℕ) → PlaceIn among (option_and_then (λ (n : ℕ). option_map (line_start p) (number_after (Some n) lines)) l)
      by None = tt
      by (Some n) = after_by (number_after (Some n) lines) p h

  goal_in : (lines : Lines) (p : Place) (g : Goal) → among p.home ≡ true → PlaceIn among (goal_place lines p g)
  goal_in lines p (goal.Unit k) h = h
  goal_in lines p (goal.Line n) h = h
  goal_in lines p goal.NextLine h = after_line lines p h

  next_in : (p : Place) (me : Private) (home : Lines) → among p.home ≡ true → PlaceIn among (following_place p me home)
  next_in p me home h = goal_in home p (unit_or_next (p.unit + 1) (units_at p me home)) h

  goes_in : (o : Option Place) (me : Private) → PlaceIn among o → Within me → EndIn (goes_to o me)
  goes_in None me h w = readied _ me w
  goes_in (Some q) me h w = record { part = w.part; place = h; kept = w.kept; frames = w.frames }

  jumped_in : (p q : Place) (me : Private) (home : Lines) → among q.home ≡ true → Within me → Within (jumps p q me home)
  jumped_in p q me home h w =
      either Within (not (is_some p.line) && is_some q.line) (enters_program (is_continue (statement_placed p me.immediate home)) q me) (moves_to q me)
      (record { part = w.part; place = h; kept = tt; frames = without_loops me.stack w.frames })
      (record { part = w.part; place = h; kept = w.kept; frames = w.frames })

  faulted_in : (code : ℕ) (o : Option Place) (p : Place) (me : Private) → PlaceIn among o → Within me → EndIn (faults code o p me)
  faulted_in code None p me h w = record { part = w.part; place = tt; kept = w.kept; frames = without_loops me.stack w.frames }
  faulted_in code (Some q) p me h w = record { part = w.part; place = h; kept = w.kept; frames = w.frames }

  unit_in : (o : Option ℕ) (p : Place) → among p.home ≡ true → PlaceIn among (option_map (λ k. record p { unit = k }) o)
  unit_in None p h = tt
  unit_in (Some k) p h = h

  error_in : (code : ℕ) (p : Place) (me : Private) (home : Lines) → among p.home ≡ true → PlaceIn among (error_place code p me home)
  error_in code p me home h = either (PlaceIn among) (is_taken code) _ None (unit_in (taken_fault p.unit (units_at p me home)) p h) tt

  ends_in : (same : Stepped) (o : Outcome) (p : Place) (me : Private) (home : Lines) → among p.home ≡ true → OutcomeIn among o → Within me → EndIn (ends_by same o p me home)
  ends_in same outcome.Next p me home h k w = goes_in (following_place p me home) me (next_in p me home h) w
  ends_in same (outcome.Jump q) p me home h k w = jumped_in p q me home k w
  ends_in same (outcome.Failed code) p me home h k w = faulted_in code (error_place code p me home) p me (error_in code p me home h) w
  ends_in same outcome.Repeat p me home h k w = w
  ends_in same outcome.Break p me home h k w = goes_in (following_place p me home) me (next_in p me home h) w
  ends_in same outcome.Ready p me home h k w = readied _ me w

  onward_in : (lines : Lines) (p : Place) (way : Onward) → among p.home ≡ true → PlaceIn among (place_onward lines p way)
  onward_in lines p onward.NextUnit h = h
  onward_in lines p onward.NextLine h = after_line lines p h

  ends_onward_in : (same : Stepped) (o : Outcome) (way : Onward) (p : Place) (me : Private) (home : Lines) → among p.home ≡ true → OutcomeIn among o → Within me → EndIn (ends_onward same o way p me home)
  ends_onward_in same outcome.Next way p me home h k w = goes_in (place_onward home p way) me (onward_in home p way h) w
  ends_onward_in same outcome.Break way p me home h k w = goes_in (place_onward home p way) me (onward_in home p way h) w
  ends_onward_in same o way p me home h k w = ends_in same o p me home h k w

  -- statements
  abbrev PlanningIn : Planning → Type 0
  PlanningIn x = IsWithin among x.me × PlannedIn among x.planned

  show_marks_none : (text : List ℕ) (me : Private) → HomesIn among (shows_text text me)
  show_marks_none text me = marks_none among (shows_text text me) refl

  listed_in : (b : Bool) (range : ℕ × ℕ) (me : Private) (s : SeenLent) → Within me → PlanningIn (lists b range me s)
  listed_in true range me s w = (w, tt)
  listed_in false range me s w = (w, show_marks_none (range_listed range s.own.lines) me)

  planned_in : (b : Builder) (p : Place) (me : Private) (s : SeenLent) → Within me → PlanningIn (plan_by ways b p me s)
  planned_in (builder.Listing from to) p me s w = listed_in (is_some p.line) (from, to) me s w
  planned_in (builder.Language r) p me s w = (lawful.leave_the_rest r).plans_within (at_homes among) me s w
  planned_in builder.Nobody p me s w = (w, tt)

  begun_in : (x : Planned) (b : Builder) (p : Place) (me : Private) (home : Lines) → among p.home ≡ true → PlannedIn among x → Within me → Within (begun_by x b p me home).me
  begun_in (planned.Done o) b p me home h k w = ends_in counts o p me home h k w
  begun_in (planned.Ask a) b p me home h k w = w

  begins_in : (u : Option Statement) (p : Place) (me : Private) (s : SeenLent) → among p.home ≡ true → Within me → Within (begins_where ways u p me s).me
  begins_in None p me s h w = readied _ me w
  begins_in (Some u) p me s h w =
      let x = planned_in (builder_of ways u) p me s w in
      begun_in (plan_by ways (builder_of ways u) p me s).planned (builder_of ways u) p (plan_by ways (builder_of ways u) p me s).me s.home.lines h x.1 x.0

  abbrev FinishingIn : Finishing → Type 0
  FinishingIn x = IsWithin among x.me × OutcomeIn among x.outcome

  finish_in : (b : Builder) (x : Access) (a : Answer) (me : Private) (s : SeenLent) → AnswerIn among a → Within me → FinishingIn (finish_by ways b x a me s)
  finish_in (builder.Listing from to) x a me s leads w = (within (at_homes among) me (shown x a me).work me.slots me.held w, shown_leads (at_homes among) (column_shown x a) me)
  finish_in (builder.Language r) x a me s leads w = (lawful.leave_the_rest r).finishes_within (at_homes among) x a me s leads w
  finish_in builder.Nobody x a me s leads w = (w, tt)

  finished_in : (b : Builder) (x : Access) (a : Answer) (way : Onward) (p : Place) (me : Private) (s : SeenLent) → among p.home ≡ true → AnswerIn among a → Within me → EndIn (finishes ways b x a way p me s)
  finished_in b x a way p me s h leads w =
      let y = finish_in b x a me s leads w in
      ends_onward_in (repeats a) (finish_by ways b x a me s).outcome way p (finish_by ways b x a me s).me s.home.lines h y.1 y.0

  module _ {M : Type 0} (store : M → StoreState) (serving : ServingOf M) (lending : Loan M) (loans : LoansGlobals store lending) (answers : AnswersLead store serving) where
    -- after a step, where each name that it touches leads to one among them
    abbrev StepIn : StepEnd M → Type 0
    StepIn e = IsWithin among e.me

    abbrev Led : Told → M → Type 0
    Led t m = TouchedNamesIn among t.touched (store m)

    read_in : (x : Answer) (me : Private) (m : M) → Within me → Within (line_read store serving lending x me m).me
    read_in (answer.Line bytes) me m w = line_in bytes me w
    read_in (answer.Special n) me m w = pressed_in (typed_by_mark n (text_in (store m) me.part).lines) (first_opening (is_mark n) (text_in (store m) me.part).lines) me w
    read_in x me m w = w

    carried_in : (who : ℕ) (c : Progress) (p : Place) (whose : At) (me : Private) (m : M) → Led (tells_carrying ways store serving lending who c p whose me m) m → among p.home ≡ true → Within me → Within (carries_out ways store serving lending who c p whose me m).me
    carried_in who (progress.Ended e) p whose me m led h w = w
    carried_in who (progress.Asks a b way) p whose me m led h w =
        let g = serving m who a in
        let leads = answers among who a m (λ n q i is. led n q (in_left (object.Name n) (touched (store m) who a) (loan_touched who p.home whose (store g.after)) i) is) in
        finished_in b a g.answer way p me (seen_by who p.home whose (store g.after)) h leads w

    -- over what is lent to a statement each name leads where it led
    led_on : (who home : ℕ) (whose : At) (left : Globals) (m : M) (front back : List Object) → TouchedNamesIn among (front ++ back) (store m)
        → TouchedNamesIn among back (store (lent_to_begin store serving lending who home whose m left))
    led_on who home whose left m front back led n q i is =
        led n q (in_right (object.Name n) front back i)
        (sym (ap (λ (s : StoreState). content s (object.Name n)) (begun_store store serving lending loans who home whose m left) ∙ names_left home whose left.vars (store m) n) ∙ is)

    by_rule : (r : Rule) (me : Private) (m : M) → HasDue r me → Within me → Led (told_by ways store serving lending r me m) m → StepIn (steps_by ways store serving lending r me m)
    by_rule rule.Reset me m is w led = reset_in me w
    by_rule rule.Halt me m is w led = halted_in me w
    by_rule rule.Show me m is w led = shown_in (shows_output me) _ me w
    by_rule rule.Insert me m is w led = typed_in _ me w
    by_rule rule.Read me m is w led = let g = serving m me.part (access.ReadLine me.term) in read_in g.answer me g.after w
    by_rule rule.Put me m is w led = put_in _ me w
    by_rule (rule.Execute p) me m is w led =
        let whose = whose_by p me (store m) in
        let s = seen_by me.part p.home whose (store m) in
        let left = leaves ways p me s in
        let b = begins ways p me s in
        let h = subst (PlaceIn among) is w.place in
        let x = begins_in (statement_placed p me.immediate s.home.lines) p me s h w in
        let u = lent_to_begin store serving lending me.part p.home whose m left in
        let led_then = led_on me.part p.home whose left m (begin_touched me.part p.home whose (store m)) (tells_carrying ways store serving lending me.part b.progress p whose b.me u).touched led in
        carried_in me.part b.progress p whose b.me u led_then h x

    step_in : (me : Private) (m : M) → Within me → Led (told ways store serving lending me m) m → StepIn (step ways store serving lending me m)
    step_in me m w led = by_rule (due me) (without_halt me) m (has_due me) (record { part = w.part; place = w.place; kept = w.kept; frames = w.frames }) led

pub steps_stay_within : (ways : Ways) (lawful : AreLawful ways) {M : Type 0} (store : M → StoreState) (serving : ServingOf M) (lending : Loan M) → LoansGlobals store lending → AnswersLead store serving
    → StepsStayWithin ways store serving lending
steps_stay_within ways lawful store serving lending loans answers among me m led w = step_in ways lawful among store serving lending loans answers me m w led
