-- A step asks at the terminal of its partition alone, and leaves which one that is.
use Rattle.std.proofs.Common.{◌≡◌, ◌∙◌, refl, ap, ℕ, Bool, true, false, List, Option, Some, None, is_some}
use Rattle.std.specs.Str.{bytes_eq}
use Rattle.b2_flow.specs.declared.frame.Place.{Place}
use Rattle.b2_syntax.specs.Reading.{reads}
use Rattle.b2_text.specs.Program.{Lines}
use Rattle.b2_text.specs.Spots.{first_opening, is_mark}
use Rattle.b2_access.specs.Lending.{SeenLent}
use Rattle.b2_access.specs.Loans.{Loan}
use Rattle.b2_access.specs.OwnTerminal.{AskedAt, NamesAlone, PlannedAt}
use Rattle.b2_access.specs.Partition.{terminal_address}
use Rattle.b2_access.specs.Placed.{Statement, statement_placed}
use Rattle.b2_access.specs.Planning.{Planning}
use Rattle.b2_access.specs.Sharing.{ServingOf}
use Rattle.b2_access.specs.Store.{StoreState}
use Rattle.b2_access.specs.declared.accesses.Access.{Access}
use Rattle.b2_access.specs.declared.accesses.Access.TheVariants as access
use Rattle.b2_access.specs.declared.accesses.Answer.{Answer}
use Rattle.b2_access.specs.declared.accesses.Answer.TheVariants as answer
use Rattle.b2_access.specs.declared.lending.At.{At}
use Rattle.b2_access.specs.declared.planned.Planned.{Planned}
use Rattle.b2_access.specs.declared.planned.Planned.TheVariants as planned
use Rattle.b2_access.specs.declared.private.Private.{Private}
use Rattle.b2_access.proofs.Choice.{either}
use Rattle.b2_access.proofs.OwnTerminal.{names_none, names_own}
use Rattle.b2_language.specs.Languages.{AreLawful, Ways}
use Rattle.b2_access.specs.KeyLiterals.{typed_by_mark}
use Rattle.b2_machine.specs.Endings.{counts, repeats}
use Rattle.b2_machine.specs.Keys.{pressed}
use Rattle.b2_machine.specs.Listed.{range_listed, lists}
use Rattle.b2_machine.specs.Messages.{prints_text, shows_text}
use Rattle.b2_machine.specs.Moving.{ends_by, ends_onward}
use Rattle.b2_machine.specs.Readiness.{gives_back, without_halt}
use Rattle.b2_machine.specs.Statements.{Begun, begins, begins_where, begun_by, builder_of, finish_by, finishes, leaves, plan_by}
use Rattle.b2_machine.specs.Step.{StepEnd, carries_out, lent_to_begin, line_read, seen_by, steps_by, text_in, whose_by}
use Rattle.b2_machine.specs.Touched.{StepsAskAtTerminal, access_asked, asks_by}
use Rattle.b2_machine.specs.Typing.{inserts_literal, on_own_line, output_pending, put_by, puts_numbered, shown_by, shows_output, shows_pending, takes_or_refuses, typed_by_key}
use Rattle.b2_machine.proofs.OwnRules.{Own, StaysOwn, ended_stays, line_stays, onward_stays, pressed_stays, put_stays, shown_stays, typed_stays}
use Rattle.b2_machine.specs.declared.moving.Onward.{Onward}
use Rattle.b2_machine.specs.declared.statements.Builder.{Builder}
use Rattle.b2_machine.specs.declared.statements.Builder.TheVariants as builder
use Rattle.b2_machine.specs.declared.statements.Progress.{Progress}
use Rattle.b2_machine.specs.declared.statements.Progress.TheVariants as progress
use Rattle.b2_machine.specs.Due.{due}
use Rattle.b2_machine.specs.declared.rules.Rule.{Rule}
use Rattle.b2_machine.specs.declared.rules.Rule.TheVariants as rule

-- the terminal stays
abbrev SameTerminal : Private → Private → Type 0
SameTerminal me after = after.term ≡ me.term

same_terminal : (me after : Private) → StaysOwn me after → SameTerminal me after
same_terminal me after is = ap (λ (o : Own). o.term) is

-- what is shown
pending_names : (device text : List ℕ) (me : Private) → NamesAlone me.term (shows_pending device text me)
pending_names device text me =
    either (NamesAlone me.term) (bytes_eq device terminal_address) _ _
    (names_own me.term (shows_text (on_own_line me.term_column text) me) refl)
    (names_none me.term (prints_text device text me) refl)

-- statements
abbrev PlanningAt : ℕ → Planning → Type 0
PlanningAt t x = (x.me.term ≡ t) × PlannedAt t x.planned

listed_at : (b : Bool) (range : ℕ × ℕ) (me : Private) (s : SeenLent) → PlanningAt me.term (lists b range me s)
listed_at true range me s = (refl, tt)
listed_at false range me s = (refl, names_own me.term (shows_text (range_listed range s.own.lines) me) refl)

planned_at : (ways : Ways) (lawful : AreLawful ways) (b : Builder) (p : Place) (me : Private) (s : SeenLent) → PlanningAt me.term (plan_by ways b p me s)
planned_at ways lawful (builder.Listing from to) p me s = listed_at (is_some p.line) (from, to) me s
planned_at ways lawful (builder.Language r) p me s = (lawful.leave_the_rest r).plans_at_terminal me s
planned_at ways lawful builder.Nobody p me s = (refl, tt)

abbrev BegunAt : ℕ → Begun → Type 0
BegunAt t b = (b.me.term ≡ t) × AskedAt t (access_asked b.progress)

begun_at : (t : ℕ) (x : Planned) (b : Builder) (p : Place) (me : Private) (home : Lines) → me.term ≡ t → PlannedAt t x → BegunAt t (begun_by x b p me home)
begun_at t (planned.Done o) b p me home is h = (same_terminal me (ends_by counts o p me home).me (ended_stays counts o p me home) ∙ is, tt)
begun_at t (planned.Ask a) b p me home is h = (is, h)

begins_at : (ways : Ways) (lawful : AreLawful ways) (u : Option Statement) (p : Place) (me : Private) (s : SeenLent) → BegunAt me.term (begins_where ways u p me s)
begins_at ways lawful None p me s = (refl, tt)
begins_at ways lawful (Some u) p me s =
    let x = plan_by ways (builder_of ways u) p me s in
    let h = planned_at ways lawful (builder_of ways u) p me s in
    begun_at me.term x.planned (builder_of ways u) p x.me s.home.lines h.0 h.1

finish_stays : (ways : Ways) (lawful : AreLawful ways) (b : Builder) (x : Access) (a : Answer) (me : Private) (s : SeenLent) → SameTerminal me (finish_by ways b x a me s).me
finish_stays ways lawful (builder.Listing from to) x a me s = refl
finish_stays ways lawful (builder.Language r) x a me s = (lawful.leave_the_rest r).finishes_at_terminal x a me s
finish_stays ways lawful builder.Nobody x a me s = refl

finished_stays : (ways : Ways) (lawful : AreLawful ways) (b : Builder) (x : Access) (a : Answer) (w : Onward) (p : Place) (me : Private) (s : SeenLent) → SameTerminal me (finishes ways b x a w p me s).me
finished_stays ways lawful b x a w p me s =
    let y = finish_by ways b x a me s in
    same_terminal y.me (ends_onward (repeats a) y.outcome w p y.me s.home.lines).me (onward_stays (repeats a) y.outcome w p y.me s.home.lines) ∙ finish_stays ways lawful b x a me s

module _ (ways : Ways) (lawful : AreLawful ways) {M : Type 0} (store : M → StoreState) (serving : ServingOf M) (lending : Loan M) where
  -- after a step, and what it asked for
  abbrev StepAt : ℕ → StepEnd M → Option Access → Type 0
  StepAt t e asks = (e.me.term ≡ t) × AskedAt t asks

  read_stays : (x : Answer) (me : Private) (m : M) → SameTerminal me (line_read store serving lending x me m).me
  read_stays (answer.Line bytes) me m = same_terminal me (takes_or_refuses (reads bytes) (record me { term_column = 0 })) (line_stays (reads bytes) (record me { term_column = 0 }))
  read_stays (answer.Special n) me m =
      let own = (text_in (store m) me.part).lines in
      same_terminal me (pressed n own me) (pressed_stays (typed_by_mark n own) (first_opening (is_mark n) own) me)
  read_stays x me m = refl

  carried_stays : (who : ℕ) (c : Progress) (p : Place) (whose : At) (me : Private) (m : M) → SameTerminal me (carries_out ways store serving lending who c p whose me m).me
  carried_stays who (progress.Ended e) p whose me m = refl
  carried_stays who (progress.Asks a b w) p whose me m =
      let g = serving m who a in
      finished_stays ways lawful b a g.answer w p me (seen_by who p.home whose (store g.after))

  by_rule : (r : Rule) (me : Private) (m : M) → StepAt me.term (steps_by ways store serving lending r me m) (asks_by ways r me (store m))
  by_rule rule.Reset me m = (refl, names_none me.term (gives_back me) refl)
  by_rule rule.Halt me m = (refl, tt)
  by_rule rule.Show me m =
      let a = shows_output me in
      let x = (serving m me.part a).answer in
      (same_terminal me (shown_by a x me).me (shown_stays a x me), pending_names (output_pending me).0 (output_pending me).1 me)
  by_rule rule.Insert me m =
      let a = inserts_literal me in
      let x = (serving m me.part a).answer in
      (same_terminal me (typed_by_key x me).me (typed_stays x me), names_own me.term a refl)
  by_rule rule.Read me m =
      let a = access.ReadLine me.term in
      let g = serving m me.part a in
      (read_stays g.answer me g.after, names_own me.term a refl)
  by_rule rule.Put me m =
      let a = puts_numbered me in
      let x = (serving m me.part a).answer in
      (same_terminal me (put_by x me).me (put_stays x me), names_none me.term a refl)
  by_rule (rule.Execute p) me m =
      let whose = whose_by p me (store m) in
      let s = seen_by me.part p.home whose (store m) in
      let b = begins ways p me s in
      let h = begins_at ways lawful (statement_placed p me.immediate s.home.lines) p me s in
      (carried_stays me.part b.progress p whose b.me (lent_to_begin store serving lending me.part p.home whose m (leaves ways p me s)) ∙ h.0, h.1)

pub steps_ask_at_terminal : (ways : Ways) (lawful : AreLawful ways) {M : Type 0} (store : M → StoreState) (serving : ServingOf M) (lending : Loan M) → StepsAskAtTerminal ways store serving lending
steps_ask_at_terminal ways lawful store serving lending me m = by_rule ways lawful store serving lending (due me) (without_halt me) m
