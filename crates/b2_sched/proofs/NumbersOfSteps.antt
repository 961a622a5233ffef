-- A step of a partition keeps numbers in its own variables, in the values of a call, and in all `@` variables, where the statements of
-- its language do.
use Rattle.std.proofs.Common.{ℕ, ◌&&◌, not, nat_lt, Bool, true, false, List, [], length, Option, Some, None, is_some, Result, Ok, Err}
use Rattle.std.proofs.lemmas.List.Elements.{All-nil}
use Rattle.b2_base.specs.declared.codes.TheConstants.{A04_TOO_DEEP}
use Rattle.b2_flow.specs.Stacks.{most_frames}
use Rattle.b2_flow.specs.declared.frame.Place.{Place}
use Rattle.b2_syntax.specs.Reading.{reads}
use Rattle.b2_syntax.specs.declared.Entered.{Entered}
use Rattle.b2_syntax.specs.declared.Entered.TheVariants as entered
use Rattle.b2_syntax.specs.declared.LineErr.{LineErr}
use Rattle.b2_syntax.specs.declared.LineErr.TheVariants as refusal
use Rattle.b2_text.specs.Program.{Lines}
use Rattle.b2_text.specs.Spots.{first_opening, is_mark}
use Rattle.b2_text.specs.declared.spots.Spot.{Spot}
use Rattle.b2_access.specs.Lending.{SeenLent}
use Rattle.b2_access.specs.Loans.{lends}
use Rattle.b2_access.specs.KeyLiterals.{typed_by_mark}
use Rattle.b2_access.specs.Placed.{Statement, statement_placed}
use Rattle.b2_access.specs.Planning.{finished}
use Rattle.b2_access.specs.Serving.{itself}
use Rattle.b2_access.specs.Showing.{shown_where}
use Rattle.b2_access.specs.Store.{StoreState}
use Rattle.b2_access.specs.Views.{column_shown}
use Rattle.b2_access.specs.Working.{ended}
use Rattle.b2_access.specs.declared.accesses.Access.{Access}
use Rattle.b2_access.specs.declared.accesses.Access.TheVariants as access
use Rattle.b2_access.specs.declared.accesses.Answer.{Answer}
use Rattle.b2_access.specs.declared.accesses.Answer.TheVariants as answer
use Rattle.b2_access.specs.declared.lending.At.{At}
use Rattle.b2_access.specs.declared.planned.Outcome.{Outcome}
use Rattle.b2_access.specs.declared.planned.Outcome.TheVariants as outcome
use Rattle.b2_access.specs.declared.planned.Planned.{Planned}
use Rattle.b2_access.specs.declared.planned.Planned.TheVariants as planned
use Rattle.b2_access.specs.declared.private.Private.{Private}
use Rattle.b2_access.proofs.Choice.{either}
use Rattle.b2_language.specs.Following.{following_place, moves_to}
use Rattle.b2_language.specs.Languages.{Ways}
use Rattle.b2_machine.specs.Endings.{counts, repeats}
use Rattle.b2_machine.specs.Keys.{called_at, calls_where, pressed_by}
use Rattle.b2_machine.specs.Listed.{lists}
use Rattle.b2_machine.specs.Moving.{ends_by, ends_onward, enters_program, error_place, faults, goes_to, is_continue, jumps, place_onward}
use Rattle.b2_machine.specs.Readiness.{gives_back, refuses, without_halt}
use Rattle.b2_machine.specs.Statements.{begins, begins_where, begun_by, builder_of, finish_by, leaves, left_where, plan_by}
use Rattle.b2_machine.specs.Step.{StepEnd, carries_out, lent_to_begin, line_read, seen_by, step, steps_by, text_in, whose_by}
use Rattle.b2_machine.specs.Typing.{inserts_literal, put_by, puts_numbered, shown_by, shows_output, takes, takes_or_refuses, typed_by_key}
use Rattle.b2_machine.specs.declared.ends.Stepped.{Stepped}
use Rattle.b2_machine.specs.declared.moving.Onward.{Onward}
use Rattle.b2_machine.specs.declared.statements.Builder.{Builder}
use Rattle.b2_machine.specs.declared.statements.Builder.TheVariants as builder
use Rattle.b2_machine.specs.declared.statements.Progress.{Progress}
use Rattle.b2_machine.specs.declared.statements.Progress.TheVariants as progress
use Rattle.b2_store.specs.DiskWork.{serves}
use Rattle.b2_stmt_file.specs.SavedNumbers.{IsAnyNumber}
use Rattle.b2_sched.proofs.NumbersServed.{StoreHolds, answered_holds, begun_holds, lent_holds, seen_holds, served_holds}
use Rattle.b2_sched.specs.Numbers.{AnswerHolds, FinishingHolds, GlobalsHold, PlanningHolds, PrivateHolds}
use Rattle.b2_machine.specs.Due.{due}
use Rattle.b2_machine.specs.declared.rules.Rule.{Rule}
use Rattle.b2_machine.specs.declared.rules.Rule.TheVariants as rule

-- the statements of a language keep numbers, as they plan and as they finish
pub record KeepNumbers (ways : Ways) : Type 0 where
  pub as_planned : (r : ℕ) (me : Private) (s : SeenLent) → PrivateHolds me → GlobalsHold s.globals → PlanningHolds (ways.plan r me s)
  pub as_finished : (r : ℕ) (x : Access) (a : Answer) (me : Private) (s : SeenLent) → AnswerHolds a → PrivateHolds me → GlobalsHold s.globals → FinishingHolds (ways.finish r x a me s)

-- ---- the machine's own rules

-- what is shown, typed and entered
shown_keeps : (x : Access) (a : Answer) (me : Private) → PrivateHolds me → PrivateHolds (shown_by x a me).me
shown_keeps (access.Show term bytes column) answer.Done me h = h
shown_keeps (access.PrintTo addr bytes column) answer.Done me h = h
shown_keeps x a me h = h

typed_keeps : (a : Answer) (me : Private) → PrivateHolds me → PrivateHolds (typed_by_key a me).me
typed_keeps answer.Done me h = h
typed_keeps a me h = h

put_keeps : (a : Answer) (me : Private) → PrivateHolds me → PrivateHolds (put_by a me).me
put_keeps answer.Done me h = (h.0, tt)
put_keeps (answer.Locked q) me h = (h.0, tt)
put_keeps (answer.Refused code) me h = (h.0, tt)
put_keeps a me h = h

takes_keeps : (e : Entered) (me : Private) → PrivateHolds me → PrivateHolds (takes e me)
takes_keeps entered.Empty me h = h
takes_keeps (entered.Delete n) me h = h
takes_keeps (entered.Numbered n atoms) me h = h
takes_keeps (entered.Immediate atoms) me h = h

line_keeps : (r : Result Entered LineErr) (me : Private) → PrivateHolds me → PrivateHolds (takes_or_refuses r me)
line_keeps (Ok e) me h = takes_keeps e me h
line_keeps (Err (refusal.At code column)) me h = (h.0, tt)
line_keeps (Err refusal.NoMemory) me h = h

-- a special function key calls without values
called_keeps : (o : Option Spot) (me : Private) → PrivateHolds me → PrivateHolds (calls_where o me)
called_keeps None me h = h
called_keeps (Some spot) me h = either PrivateHolds (nat_lt (length me.stack) most_frames) (called_at spot me) (refuses A04_TOO_DEEP [] me) (h.0, All-nil IsAnyNumber) (h.0, tt)

pressed_keeps : (text : Option (List ℕ)) (o : Option Spot) (me : Private) → PrivateHolds me → PrivateHolds (pressed_by text o me)
pressed_keeps (Some text) o me h = h
pressed_keeps None o me h = called_keeps o me h

-- where it goes on
goes_keeps : (o : Option Place) (me : Private) → PrivateHolds me → PrivateHolds (goes_to o me).me
goes_keeps None me h = h
goes_keeps (Some q) me h = h

entered_keeps : (continues : Bool) (q : Place) (me : Private) → PrivateHolds me → PrivateHolds (enters_program continues q me)
entered_keeps true q me h = h
entered_keeps false q me h = (h.0, tt)

jumped_keeps : (p q : Place) (me : Private) (home : Lines) → PrivateHolds me → PrivateHolds (jumps p q me home)
jumped_keeps p q me home h =
    let continues = is_continue (statement_placed p me.immediate home) in
    either PrivateHolds (not (is_some p.line) && is_some q.line) (enters_program continues q me) (moves_to q me) (entered_keeps continues q me h) h

faulted_keeps : (code : ℕ) (o : Option Place) (p : Place) (me : Private) → PrivateHolds me → PrivateHolds (faults code o p me).me
faulted_keeps code None p me h = (h.0, tt)
faulted_keeps code (Some q) p me h = (h.0, tt)

ended_keeps : (same : Stepped) (o : Outcome) (p : Place) (me : Private) (home : Lines) → PrivateHolds me → PrivateHolds (ends_by same o p me home).me
ended_keeps same outcome.Next p me home h = goes_keeps (following_place p me home) me h
ended_keeps same (outcome.Jump q) p me home h = jumped_keeps p q me home h
ended_keeps same (outcome.Failed code) p me home h = faulted_keeps code (error_place code p me home) p me h
ended_keeps same outcome.Repeat p me home h = h
ended_keeps same outcome.Break p me home h = goes_keeps (following_place p me home) me h
ended_keeps same outcome.Ready p me home h = h

onward_keeps : (same : Stepped) (o : Outcome) (w : Onward) (p : Place) (me : Private) (home : Lines) → PrivateHolds me → PrivateHolds (ends_onward same o w p me home).me
onward_keeps same outcome.Next w p me home h = goes_keeps (place_onward home p w) me h
onward_keeps same outcome.Break w p me home h = goes_keeps (place_onward home p w) me h
onward_keeps same o w p me home h = ended_keeps same o p me home h

-- LIST
listed_keeps : (b : Bool) (range : ℕ × ℕ) (me : Private) (s : SeenLent) → PrivateHolds me → GlobalsHold s.globals → PlanningHolds (lists b range me s)
listed_keeps true range me s h g = (h, g)
listed_keeps false range me s h g = (h, g)

list_shown : (column : Option ℕ) (me : Private) (s : SeenLent) → PrivateHolds me → GlobalsHold s.globals → FinishingHolds (finished s (ended me (shown_where column me)))
list_shown (Some column) me s h g = (h, g)
list_shown None me s h g = (h, g)

-- ---- statements

module _ (ways : Ways) (keep : KeepNumbers ways) where
  planned_keeps : (b : Builder) (p : Place) (me : Private) (s : SeenLent) → PrivateHolds me → GlobalsHold s.globals → PlanningHolds (plan_by ways b p me s)
  planned_keeps (builder.Listing from to) p me s h g = listed_keeps (is_some p.line) (from, to) me s h g
  planned_keeps (builder.Language r) p me s h g = keep.as_planned r me s h g
  planned_keeps builder.Nobody p me s h g = (h, g)

  begun_keeps : (x : Planned) (b : Builder) (p : Place) (me : Private) (home : Lines) → PrivateHolds me → PrivateHolds (begun_by x b p me home).me
  begun_keeps (planned.Done o) b p me home h = ended_keeps counts o p me home h
  begun_keeps (planned.Ask a) b p me home h = h

  begins_keeps : (u : Option Statement) (p : Place) (me : Private) (s : SeenLent) → PrivateHolds me → GlobalsHold s.globals → PrivateHolds (begins_where ways u p me s).me × GlobalsHold (left_where ways u p me s)
  begins_keeps None p me s h g = (h, g)
  begins_keeps (Some u) p me s h g =
      let b = builder_of ways u in
      let x = plan_by ways b p me s in
      let k = planned_keeps b p me s h g in
      (begun_keeps x.planned b p x.me s.home.lines k.0, k.1)

  finish_keeps : (b : Builder) (x : Access) (a : Answer) (me : Private) (s : SeenLent) → AnswerHolds a → PrivateHolds me → GlobalsHold s.globals → FinishingHolds (finish_by ways b x a me s)
  finish_keeps (builder.Listing from to) x a me s told h g = list_shown (column_shown x a) me s h g
  finish_keeps (builder.Language r) x a me s told h g = keep.as_finished r x a me s told h g
  finish_keeps builder.Nobody x a me s told h g = (h, g)

  -- ---- the rules of a step

  abbrev pub Holds : Private → StoreState → Type 0
  Holds me s = PrivateHolds me × StoreHolds s

  abbrev StepHolds : StepEnd StoreState → Type 0
  StepHolds e = Holds e.me e.after

  read_holds : (x : Answer) (me : Private) (s : StoreState) → Holds me s → StepHolds (line_read itself serves lends x me s)
  read_holds (answer.Line bytes) me s h = (line_keeps (reads bytes) (record me { term_column = 0 }) h.0, h.1)
  read_holds (answer.Special n) me s h =
      let own = (text_in s me.part).lines in
      (pressed_keeps (typed_by_mark n own) (first_opening (is_mark n) own) me h.0, h.1)
  read_holds x me s h = h

  carried_holds : (who : ℕ) (c : Progress) (p : Place) (whose : At) (me : Private) (s : StoreState) → Holds me s → StepHolds (carries_out ways itself serves lends who c p whose me s)
  carried_holds who (progress.Ended e) p whose me s h = h
  carried_holds who (progress.Asks a b w) p whose me s h =
      let g = serves s who a in
      let seen = seen_by who p.home whose g.after in
      let after = served_holds s who a h.1 in
      let y = finish_by ways b a g.answer me seen in
      let k = finish_keeps b a g.answer me seen (answered_holds s who a) h.0 (seen_holds who p.home whose g.after after) in
      (onward_keeps (repeats g.answer) y.outcome w p y.me seen.home.lines k.0, lent_holds who p.home whose g.after y.globals k.1 after)

  by_rule : (r : Rule) (me : Private) (s : StoreState) → Holds me s → StepHolds (steps_by ways itself serves lends r me s)
  by_rule rule.Reset me s h = ((h.0.0, tt), served_holds s me.part (gives_back me) h.1)
  by_rule rule.Halt me s h = h
  by_rule rule.Show me s h = let a = shows_output me in (shown_keeps a (serves s me.part a).answer me h.0, served_holds s me.part a h.1)
  by_rule rule.Insert me s h = let a = inserts_literal me in (typed_keeps (serves s me.part a).answer me h.0, served_holds s me.part a h.1)
  by_rule rule.Read me s h =
      let a = access.ReadLine me.term in
      let g = serves s me.part a in
      read_holds g.answer me g.after (h.0, served_holds s me.part a h.1)
  by_rule rule.Put me s h = let a = puts_numbered me in (put_keeps (serves s me.part a).answer me h.0, served_holds s me.part a h.1)
  by_rule (rule.Execute p) me s h =
      let whose = whose_by p me s in
      let seen = seen_by me.part p.home whose s in
      let b = begins ways p me seen in
      let k = begins_keeps (statement_placed p me.immediate seen.home.lines) p me seen h.0 (seen_holds me.part p.home whose s h.1) in
      carried_holds me.part b.progress p whose b.me (lent_to_begin itself serves lends me.part p.home whose s (leaves ways p me seen)) (k.0, begun_holds me.part p.home whose s (leaves ways p me seen) k.1 h.1)

  pub step_holds : (me : Private) (s : StoreState) → Holds me s → StepHolds (step ways itself serves lends me s)
  step_holds me s h = by_rule (due me) (without_halt me) s h
