-- A step keeps the files that a partition has open on platters that are listed for it, at their first sectors or after them.
use Rattle.std.proofs.Common.{refl, ap, ℕ, List, Option, Some, None, is_some, subst, sym}
use Rattle.b2_flow.specs.declared.frame.Place.{Place}
use Rattle.b2_syntax.specs.Reading.{reads}
use Rattle.b2_text.specs.Program.{Lines}
use Rattle.b2_text.specs.Spots.{first_opening, is_mark}
use Rattle.b2_access.specs.Fitting.{AnswerFits}
use Rattle.b2_access.specs.Lending.{SeenLent}
use Rattle.b2_access.specs.Loans.{Loan}
use Rattle.b2_access.specs.LegalPlans.{IsLegalPlan}
use Rattle.b2_access.specs.KeyLiterals.{typed_by_mark}
use Rattle.b2_access.specs.OpenFiles.{HasOpenFiles}
use Rattle.b2_access.specs.OwnDevices.{PlannedListed, ReachesListed}
use Rattle.b2_access.specs.Placed.{Statement, statement_placed}
use Rattle.b2_access.specs.Sharing.{ServingOf}
use Rattle.b2_access.specs.Store.{StoreState}
use Rattle.b2_access.specs.Touching.{IsLegal}
use Rattle.b2_access.specs.Waiting.{UnchangedIfAsks}
use Rattle.b2_access.specs.declared.accesses.Access.{Access}
use Rattle.b2_access.specs.declared.accesses.Access.TheVariants as access
use Rattle.b2_access.specs.declared.accesses.Answer.{Answer}
use Rattle.b2_access.specs.declared.accesses.Answer.TheVariants as answer
use Rattle.b2_access.specs.declared.devices.Device.{Device}
use Rattle.b2_access.specs.declared.lending.At.{At}
use Rattle.b2_access.specs.declared.planned.Planned.{Planned}
use Rattle.b2_access.specs.declared.planned.Planned.TheVariants as planned
use Rattle.b2_access.specs.declared.private.Private.{Private}
use Rattle.b2_access.proofs.OpenFiles.{same_files}
use Rattle.b2_language.specs.Languages.{AreLawful, AskForListed, KeepOpenFiles, Ways}
use Rattle.b2_machine.specs.Endings.{counts, repeats}
use Rattle.b2_machine.specs.OpenFiles.{FitsFrom, StepsKeepOpenFiles}
use Rattle.b2_machine.specs.Statements.{Begun, begins, begins_where, begun_by, builder_of, finish_by, finishes, leaves, plan_by}
use Rattle.b2_machine.specs.Step.{StepEnd, carries_out, lent_to_begin, line_read, seen_by, step, steps_by, text_in, whose_by}
use Rattle.b2_machine.specs.Typing.{inserts_literal, put_by, puts_numbered, shown_by, shows_output, typed_by_key}
use Rattle.b2_machine.specs.declared.moving.Onward.{Onward}
use Rattle.b2_machine.specs.declared.statements.Builder.{Builder}
use Rattle.b2_machine.specs.declared.statements.Builder.TheVariants as builder
use Rattle.b2_machine.specs.declared.statements.Progress.{Progress}
use Rattle.b2_machine.specs.declared.statements.Progress.TheVariants as progress
use Rattle.b2_machine.proofs.LegalPlans.{planned_by}
use Rattle.b2_machine.proofs.OwnRules.{Own, StaysOwn, ended_stays, line_stays, listed_stays, onward_stays, pressed_stays, put_stays, shown_stays, typed_stays}
use Rattle.b2_machine.proofs.StepDevices.{planned_listed}
use Rattle.b2_machine.proofs.Unchanged.{plans}
use Rattle.b2_vars.specs.Globals.{Globals}
use Rattle.b2_machine.specs.Due.{due}
use Rattle.b2_machine.specs.declared.rules.Rule.{Rule}
use Rattle.b2_machine.specs.declared.rules.Rule.TheVariants as rule
use Rattle.b2_machine.specs.Readiness.{without_halt}

module _ (ways : List Device → Ways) (lawful : (devices : List Device) → AreLawful (ways devices)) (listed : AskForListed ways) (keeps : KeepOpenFiles ways) (devices : List Device) where
  abbrev Open : Private → Type 0
  Open me = HasOpenFiles devices me

  -- what the machine's own rules leave
  still : (me after : Private) → StaysOwn me after → Open me → Open after
  still me after is h = same_files devices me after (ap (λ (o : Own). o.part) is) (ap (λ (o : Own). o.slots) is) h

  -- what a statement plans
  planned_open : (b : Builder) (p : Place) (me : Private) (s : SeenLent) → Open me → Open (plan_by (ways devices) b p me s).me
  planned_open (builder.Listing from to) p me s h = still me (plan_by (ways devices) (builder.Listing from to) p me s).me (listed_stays (is_some p.line) (from, to) me s) h
  planned_open (builder.Language r) p me s h = keeps.as_planned r devices me s h
  planned_open builder.Nobody p me s h = h

  -- an access that is asked for may be, and reaches what is listed
  abbrev AsksFine : Private → Progress → Type 0
  AsksFine me (progress.Ended e) = Unit {0}
  AsksFine me (progress.Asks a b w) = ReachesListed devices me.part a × IsLegal a

  abbrev BegunOpen : Begun → Type 0
  BegunOpen b = Open b.me × AsksFine b.me b.progress

  begun_open : (x : Planned) (b : Builder) (p : Place) (before me : Private) (home : Lines) → Open me → PlannedListed devices before.part x → IsLegalPlan x → UnchangedIfAsks before me x → BegunOpen (begun_by x b p me home)
  begun_open (planned.Done o) b p before me home h fine legal same = (still me (begun_by (planned.Done o) b p me home).me (ended_stays counts o p me home) h, tt)
  begun_open (planned.Ask a) b p before me home h fine legal same = (h, (subst (λ (x : Private). ReachesListed devices x.part a) (sym same) fine, legal))

  begins_open : (u : Option Statement) (p : Place) (me : Private) (s : SeenLent) → Open me → BegunOpen (begins_where (ways devices) u p me s)
  begins_open None p me s h = (still me (begins_where (ways devices) None p me s).me refl h, tt)
  begins_open (Some u) p me s h =
      let b = builder_of (ways devices) u in
      let x = plan_by (ways devices) b p me s in
      begun_open x.planned b p me x.me s.home.lines (planned_open b p me s h) (planned_listed ways listed devices b p me s) (planned_by (ways devices) (lawful devices) b p me s) (plans (ways devices) (lawful devices) me b p s)

  -- and how it finishes
  finish_open : (b : Builder) (x : Access) (a : Answer) (me : Private) (s : SeenLent) → ReachesListed devices me.part x → AnswerFits x a → Open me → Open (finish_by (ways devices) b x a me s).me
  finish_open (builder.Listing from to) x a me s fine fits h = still me (finish_by (ways devices) (builder.Listing from to) x a me s).me refl h
  finish_open (builder.Language r) x a me s fine fits h = keeps.as_finished devices r devices x a me s fine fits h
  finish_open builder.Nobody x a me s fine fits h = h

  finished_open : (b : Builder) (x : Access) (a : Answer) (w : Onward) (p : Place) (me : Private) (s : SeenLent) → ReachesListed devices me.part x → AnswerFits x a → Open me → Open (finishes (ways devices) b x a w p me s).me
  finished_open b x a w p me s fine fits h =
      let y = finish_by (ways devices) b x a me s in
      still y.me (finishes (ways devices) b x a w p me s).me (onward_stays (repeats a) y.outcome w p y.me s.home.lines) (finish_open b x a me s fine fits h)

  -- the rules of a step
  module _ {M : Type 0} (store : M → StoreState) (serving : ServingOf M) (lending : Loan M) where
    abbrev StepOpen : StepEnd M → Type 0
    StepOpen e = Open e.me

    read_open : (x : Answer) (me : Private) (m : M) → Open me → StepOpen (line_read store serving lending x me m)
    read_open (answer.Line bytes) me m h = still me (line_read store serving lending (answer.Line bytes) me m).me (line_stays (reads bytes) (record me { term_column = 0 })) h
    read_open (answer.Special n) me m h =
        let own = (text_in (store m) me.part).lines in
        still me (line_read store serving lending (answer.Special n) me m).me (pressed_stays (typed_by_mark n own) (first_opening (is_mark n) own) me) h
    read_open x me m h = h

    carried_open : (who : ℕ) (c : Progress) (p : Place) (whose : At) (me : Private) (m : M) → FitsFrom serving m → AsksFine me c → Open me → StepOpen (carries_out (ways devices) store serving lending who c p whose me m)
    carried_open who (progress.Ended e) p whose me m fits fine h = h
    carried_open who (progress.Asks a b w) p whose me m fits fine h =
        let g = serving m who a in
        finished_open b a g.answer w p me (seen_by who p.home whose (store g.after)) fine.0 (fits who a fine.1) h

    abbrev Fits : Private → M → Type 0
    Fits me m = (home : ℕ) (whose : At) (left : Globals) → FitsFrom serving (lent_to_begin store serving lending me.part home whose m left)

    by_rule : (r : Rule) (me : Private) (m : M) → Fits me m → Open me → StepOpen (steps_by (ways devices) store serving lending r me m)
    by_rule rule.Reset me m fits h = h
    by_rule rule.Halt me m fits h = h
    by_rule rule.Show me m fits h =
        let a = shows_output me in
        let x = (serving m me.part a).answer in
        still me (shown_by a x me).me (shown_stays a x me) h
    by_rule rule.Insert me m fits h = let x = (serving m me.part (inserts_literal me)).answer in still me (typed_by_key x me).me (typed_stays x me) h
    by_rule rule.Read me m fits h = let g = serving m me.part (access.ReadLine me.term) in read_open g.answer me g.after h
    by_rule rule.Put me m fits h = let x = (serving m me.part (puts_numbered me)).answer in still me (put_by x me).me (put_stays x me) h
    by_rule (rule.Execute p) me m fits h =
        let whose = whose_by p me (store m) in
        let s = seen_by me.part p.home whose (store m) in
        let left = leaves (ways devices) p me s in
        let b = begins (ways devices) p me s in
        let k = begins_open (statement_placed p me.immediate s.home.lines) p me s h in
        carried_open me.part b.progress p whose b.me (lent_to_begin store serving lending me.part p.home whose m left) (fits p.home whose left) k.1 k.0

    step_open : (me : Private) (m : M) → Fits me m → Open me → StepOpen (step (ways devices) store serving lending me m)
    step_open me m fits h = by_rule (due me) (without_halt me) m fits h

pub steps_keep_open_files : (ways : List Device → Ways) (lawful : (devices : List Device) → AreLawful (ways devices)) (listed : AskForListed ways) (keeps : KeepOpenFiles ways) {M : Type 0} (store : M → StoreState) (serving : ServingOf M) (lending : Loan M)
    → StepsKeepOpenFiles ways store serving lending
steps_keep_open_files ways lawful listed keeps store serving lending devices me m fits h = step_open ways lawful listed keeps devices store serving lending me m fits h
