-- What waits to be shown after a step, and after a turn, waited before, or is for the terminal.
use Rattle.std.proofs.Common.{◌∙◌, refl, inl, inr, sym, subst, ℕ, zero, suc, ◌&&◌, not, nat_lt, Bool, true, false, List, length, Option, Some, None, is_some, Result, Ok, Err}
use Rattle.b2_flow.specs.Stacks.{most_frames}
use Rattle.b2_flow.specs.declared.frame.Place.{Place}
use Rattle.b2_syntax.specs.Reading.{reads}
use Rattle.b2_syntax.specs.declared.Entered.{Entered}
use Rattle.b2_syntax.specs.declared.Entered.TheVariants as entered
use Rattle.b2_syntax.specs.declared.LineErr.{LineErr}
use Rattle.b2_syntax.specs.declared.LineErr.TheVariants as refusal
use Rattle.b2_text.specs.Program.{Lines}
use Rattle.b2_text.specs.Spots.{first_opening, is_mark}
use Rattle.b2_text.specs.declared.spots.Spot.{Spot}
use Rattle.b2_access.specs.Lending.{SeenLent}
use Rattle.b2_access.specs.Loans.{Loan}
use Rattle.b2_access.specs.KeyLiterals.{typed_by_mark}
use Rattle.b2_access.specs.Pending.{IsForTerminal, KeepsOrShows, PendingOutput}
use Rattle.b2_access.specs.Placed.{Statement, statement_placed}
use Rattle.b2_access.specs.Sharing.{ServingOf}
use Rattle.b2_access.specs.Showing.{shown as shown_at}
use Rattle.b2_access.specs.Store.{StoreState}
use Rattle.b2_access.specs.declared.accesses.Access.{Access}
use Rattle.b2_access.specs.declared.accesses.Access.TheVariants as access
use Rattle.b2_access.specs.declared.accesses.Answer.{Answer}
use Rattle.b2_access.specs.declared.accesses.Answer.TheVariants as answer
use Rattle.b2_access.specs.declared.lending.At.{At}
use Rattle.b2_access.specs.declared.planned.Outcome.{Outcome}
use Rattle.b2_access.specs.declared.planned.Outcome.TheVariants as outcome
use Rattle.b2_access.specs.declared.planned.Planned.{Planned}
use Rattle.b2_access.specs.declared.planned.Planned.TheVariants as planned
use Rattle.b2_access.specs.declared.private.Private.{Private}
use Rattle.b2_access.proofs.Choice.{either}
use Rattle.b2_access.proofs.Working.{keeps_or_shows}
use Rattle.b2_language.specs.Following.{following_place}
use Rattle.b2_language.specs.Languages.{AreLawful, Ways}
use Rattle.b2_machine.specs.Endings.{counts, repeats}
use Rattle.b2_machine.specs.Keys.{calls_where, pressed_by}
use Rattle.b2_machine.specs.Listed.{lists}
use Rattle.b2_machine.specs.Moving.{ends_by, ends_onward, error_place, faults, goes_to, jumps, place_onward}
use Rattle.b2_machine.specs.Statements.{begins, begins_where, begun_by, builder_of, finish_by, finishes, leaves, plan_by}
use Rattle.b2_machine.specs.Step.{StepEnd, carries_out, executes, lent_to_begin, line_read, seen_by, step, steps_by, text_in, whose_by}
use Rattle.b2_machine.specs.Touched.{StepsShowAtTerminal}
use Rattle.b2_machine.specs.Turn.{TurnEnd, counted_on, ended_turn as turn_ended, passes_none, turn, turn_from, unless_ended}
use Rattle.b2_machine.proofs.PassedTurns.{each_turn}
use Rattle.b2_machine.specs.Typing.{inserts_literal, put_by, puts_numbered, shown_by, shows_output, takes, takes_or_refuses, typed_by_key}
use Rattle.b2_machine.specs.declared.ends.Stepped.{Stepped}
use Rattle.b2_machine.specs.declared.ends.Why.{Why}
use Rattle.b2_machine.specs.declared.moving.Onward.{Onward}
use Rattle.b2_machine.specs.declared.statements.Builder.{Builder}
use Rattle.b2_machine.specs.declared.statements.Builder.TheVariants as builder
use Rattle.b2_machine.specs.declared.statements.Progress.{Progress}
use Rattle.b2_machine.specs.declared.statements.Progress.TheVariants as progress
use Rattle.b2_machine.specs.Due.{due}
use Rattle.b2_machine.specs.declared.rules.Rule.{Rule}
use Rattle.b2_machine.specs.declared.rules.Rule.TheVariants as rule
use Rattle.b2_machine.specs.Readiness.{without_halt}

abbrev Shows : Private → Private → Type 0
Shows me after = KeepsOrShows me.pending after.pending

-- one change after another
then_shows : (x y z : PendingOutput) → KeepsOrShows x y → KeepsOrShows y z → KeepsOrShows x z
then_shows x y z h (inr k) = inr k
then_shows x y z (inl e) (inl f) = inl (f ∙ e)
then_shows x y z (inr h) (inl f) = inr (subst IsForTerminal (sym f) h)

-- what is shown, typed and entered
shown_shows : (x : Access) (a : Answer) (me : Private) → Shows me (shown_by x a me).me
shown_shows (access.Show term bytes column) answer.Done me = inr tt
shown_shows (access.PrintTo addr bytes column) answer.Done me = inr tt
shown_shows x a me = inl refl

typed_shows : (a : Answer) (me : Private) → Shows me (typed_by_key a me).me
typed_shows answer.Done me = inl refl
typed_shows a me = inl refl

put_shows : (a : Answer) (me : Private) → Shows me (put_by a me).me
put_shows answer.Done me = inr refl
put_shows (answer.Locked q) me = inr refl
put_shows (answer.Refused code) me = inr refl
put_shows a me = inl refl

takes_shows : (e : Entered) (me : Private) → Shows me (takes e me)
takes_shows entered.Empty me = inr refl
takes_shows (entered.Delete n) me = inl refl
takes_shows (entered.Numbered n atoms) me = inl refl
takes_shows (entered.Immediate atoms) me = inl refl

line_shows : (r : Result Entered LineErr) (me : Private) → Shows me (takes_or_refuses r me)
line_shows (Ok e) me = takes_shows e me
line_shows (Err (refusal.At code column)) me = inr refl
line_shows (Err refusal.NoMemory) me = inl refl

-- special function keys
called_shows : (o : Option Spot) (me : Private) → Shows me (calls_where o me)
called_shows None me = inl refl
called_shows (Some spot) me = either (Shows me) (nat_lt (length me.stack) most_frames) _ _ (inl refl) (inr refl)

pressed_shows : (text : Option (List ℕ)) (o : Option Spot) (me : Private) → Shows me (pressed_by text o me)
pressed_shows (Some text) o me = inl refl
pressed_shows None o me = called_shows o me

-- where it goes on
goes_shows : (o : Option Place) (me : Private) → Shows me (goes_to o me).me
goes_shows None me = inr refl
goes_shows (Some q) me = inl refl

jumped_shows : (p q : Place) (me : Private) (home : Lines) → Shows me (jumps p q me home)
jumped_shows p q me home = either (Shows me) (not (is_some p.line) && is_some q.line) _ _ (inl refl) (inl refl)

faulted_shows : (code : ℕ) (o : Option Place) (p : Place) (me : Private) → Shows me (faults code o p me).me
faulted_shows code None p me = inr refl
faulted_shows code (Some q) p me = inl refl

ended_shows : (same : Stepped) (o : Outcome) (p : Place) (me : Private) (home : Lines) → Shows me (ends_by same o p me home).me
ended_shows same outcome.Next p me home = goes_shows (following_place p me home) me
ended_shows same (outcome.Jump q) p me home = jumped_shows p q me home
ended_shows same (outcome.Failed code) p me home = faulted_shows code (error_place code p me home) p me
ended_shows same outcome.Repeat p me home = inl refl
ended_shows same outcome.Break p me home = goes_shows (following_place p me home) me
ended_shows same outcome.Ready p me home = inr refl

onward_shows : (same : Stepped) (o : Outcome) (w : Onward) (p : Place) (me : Private) (home : Lines) → Shows me (ends_onward same o w p me home).me
onward_shows same outcome.Next w p me home = goes_shows (place_onward home p w) me
onward_shows same outcome.Break w p me home = goes_shows (place_onward home p w) me
onward_shows same o w p me home = ended_shows same o p me home

-- statements
listed_shows : (b : Bool) (range : ℕ × ℕ) (me : Private) (s : SeenLent) → Shows me (lists b range me s).me
listed_shows true range me s = inl refl
listed_shows false range me s = inl refl

planned_shows : (ways : Ways) (lawful : AreLawful ways) (b : Builder) (p : Place) (me : Private) (s : SeenLent) → Shows me (plan_by ways b p me s).me
planned_shows ways lawful (builder.Listing from to) p me s = listed_shows (is_some p.line) (from, to) me s
planned_shows ways lawful (builder.Language r) p me s = (lawful.leave_the_rest r).plans_to_show me s
planned_shows ways lawful builder.Nobody p me s = inl refl

begun_shows : (x : Planned) (b : Builder) (p : Place) (me : Private) (home : Lines) → Shows me (begun_by x b p me home).me
begun_shows (planned.Done o) b p me home = ended_shows counts o p me home
begun_shows (planned.Ask a) b p me home = inl refl

begins_shows : (ways : Ways) (lawful : AreLawful ways) (u : Option Statement) (p : Place) (me : Private) (s : SeenLent) → Shows me (begins_where ways u p me s).me
begins_shows ways lawful None p me s = inr refl
begins_shows ways lawful (Some u) p me s =
    let x = plan_by ways (builder_of ways u) p me s in
    then_shows me.pending x.me.pending (begins_where ways (Some u) p me s).me.pending (planned_shows ways lawful (builder_of ways u) p me s)
    (begun_shows x.planned (builder_of ways u) p x.me s.home.lines)

finish_shows : (ways : Ways) (lawful : AreLawful ways) (b : Builder) (x : Access) (a : Answer) (me : Private) (s : SeenLent) → Shows me (finish_by ways b x a me s).me
finish_shows ways lawful (builder.Listing from to) x a me s = keeps_or_shows (shown_at x a me).work.shows me.pending
finish_shows ways lawful (builder.Language r) x a me s = (lawful.leave_the_rest r).finishes_to_show x a me s
finish_shows ways lawful builder.Nobody x a me s = inl refl

finished_shows : (ways : Ways) (lawful : AreLawful ways) (b : Builder) (x : Access) (a : Answer) (w : Onward) (p : Place) (me : Private) (s : SeenLent) → Shows me (finishes ways b x a w p me s).me
finished_shows ways lawful b x a w p me s =
    let y = finish_by ways b x a me s in
    then_shows me.pending y.me.pending (finishes ways b x a w p me s).me.pending (finish_shows ways lawful b x a me s) (onward_shows (repeats a) y.outcome w p y.me s.home.lines)

module _ (ways : Ways) (lawful : AreLawful ways) {M : Type 0} (store : M → StoreState) (serving : ServingOf M) (lending : Loan M) where
  abbrev StepShows : Private → StepEnd M → Type 0
  StepShows me e = Shows me e.me

  read_shows : (x : Answer) (me : Private) (m : M) → StepShows me (line_read store serving lending x me m)
  read_shows (answer.Line bytes) me m = line_shows (reads bytes) (record me { term_column = 0 })
  read_shows (answer.Special n) me m = pressed_shows (typed_by_mark n (text_in (store m) me.part).lines) (first_opening (is_mark n) (text_in (store m) me.part).lines) me
  read_shows x me m = inl refl

  carried_shows : (who : ℕ) (c : Progress) (p : Place) (whose : At) (me : Private) (m : M) → StepShows me (carries_out ways store serving lending who c p whose me m)
  carried_shows who (progress.Ended e) p whose me m = inl refl
  carried_shows who (progress.Asks a b w) p whose me m =
      let g = serving m who a in
      finished_shows ways lawful b a g.answer w p me (seen_by who p.home whose (store g.after))

  by_rule : (r : Rule) (me : Private) (m : M) → StepShows me (steps_by ways store serving lending r me m)
  by_rule rule.Reset me m = inr refl
  by_rule rule.Halt me m = inr refl
  by_rule rule.Show me m = let a = shows_output me in shown_shows a (serving m me.part a).answer me
  by_rule rule.Insert me m = typed_shows (serving m me.part (inserts_literal me)).answer me
  by_rule rule.Read me m = let g = serving m me.part (access.ReadLine me.term) in read_shows g.answer me g.after
  by_rule rule.Put me m = put_shows (serving m me.part (puts_numbered me)).answer me
  by_rule (rule.Execute p) me m =
      let whose = whose_by p me (store m) in
      let s = seen_by me.part p.home whose (store m) in
      let b = begins ways p me s in
      then_shows me.pending b.me.pending (executes ways store serving lending p me m).me.pending
      (begins_shows ways lawful (statement_placed p me.immediate s.home.lines) p me s)
      (carried_shows me.part b.progress p whose b.me (lent_to_begin store serving lending me.part p.home whose m (leaves ways p me s)))

  pub step_shows : StepsShowAtTerminal ways store serving lending
  step_shows me m = by_rule (due me) (without_halt me) m

  -- and so a turn: what waits for the terminal alone, as at the start, does so after it
  pub still_for_terminal : (me after : Private) → Shows me after → IsForTerminal me.pending → IsForTerminal after.pending
  still_for_terminal me after (inl e) h = subst IsForTerminal (sym e) h
  still_for_terminal me after (inr k) h = k

  ended_turn : (o : Option Why) (n : ℕ) (me : Private) (m : M) (steps : ℕ) → IsForTerminal me.pending → ((k : ℕ) → IsForTerminal (turn_from ways store serving lending n me m k).me.pending)
      → IsForTerminal (unless_ended {A = TurnEnd M} o (λ w. turn_ended steps w me m) (turn_from ways store serving lending n me m steps)).me.pending
  ended_turn None n me m steps h k = k steps
  ended_turn (Some w) n me m steps h k = h

  from_shows : (n : ℕ) (me : Private) (m : M) (steps : ℕ) → IsForTerminal me.pending → IsForTerminal (turn_from ways store serving lending n me m steps).me.pending
  unfolding turn_from
  from_shows zero me m steps h = h
  from_shows (suc n) me m steps h =
      let s = step ways store serving lending me m in
      let after = still_for_terminal me s.me (step_shows me m) h in
      ended_turn s.end.why n s.me s.after (counted_on steps s.end) after (λ k. from_shows n s.me s.after k after)

  pub turn_shows : (quota : ℕ) (me : Private) (m : M) → IsForTerminal me.pending → IsForTerminal (turn ways store serving lending quota me m).me.pending
  turn_shows quota me m h = each_turn ways store serving lending (λ t. IsForTerminal t.me.pending) quota me m h (from_shows quota (passes_none me) m 0 h)
