-- A step that doesn't count has changed nothing of its partition, but that a halt is forgotten.
use Rattle.std.proofs.Common.{◌≡◌, ◌∙◌, refl, ap, ℕ, Bool, true, false, if◌then◌else◌, Option, Some, None, is_some}
use Rattle.b2_flow.specs.declared.frame.Place.{Place}
use Rattle.b2_text.specs.Program.{Lines}
use Rattle.b2_access.specs.AnswerKinds.{delays}
use Rattle.b2_access.specs.Lending.{SeenLent}
use Rattle.b2_access.specs.Loans.{Loan}
use Rattle.b2_access.specs.Partition.{is_ready}
use Rattle.b2_access.specs.Placed.{Statement, statement_placed}
use Rattle.b2_access.specs.Sharing.{ServingOf}
use Rattle.b2_access.specs.Store.{StoreState}
use Rattle.b2_access.specs.Waiting.{UnchangedIfAsks}
use Rattle.b2_access.specs.declared.accesses.Access.{Access}
use Rattle.b2_access.specs.declared.accesses.Access.TheVariants as access
use Rattle.b2_access.specs.declared.accesses.Answer.{Answer}
use Rattle.b2_access.specs.declared.accesses.Answer.TheVariants as answer
use Rattle.b2_access.specs.declared.lending.At.{At}
use Rattle.b2_access.specs.declared.planned.Outcome.{Outcome}
use Rattle.b2_access.specs.declared.planned.Outcome.TheVariants as outcome
use Rattle.b2_access.specs.declared.planned.Planned.{Planned}
use Rattle.b2_access.specs.declared.planned.Planned.TheVariants as planned
use Rattle.b2_access.specs.declared.private.Private.{Private}
use Rattle.b2_language.specs.Languages.{AreLawful, Ways}
use Rattle.b2_access.proofs.Shown.{after_shown}
use Rattle.b2_access.specs.Working.{Work, put_back}
use Rattle.b2_language.specs.Following.{following_place}
use Rattle.b2_machine.specs.Counting.{UncountedStepsChangeNothing}
use Rattle.b2_machine.specs.Endings.{counts, ends_turn, repeats}
use Rattle.b2_machine.specs.Listed.{lists}
use Rattle.b2_machine.specs.Moving.{ends_by, ends_onward, error_place, faults, goes_to, onward_from, place_onward}
use Rattle.b2_machine.specs.Readiness.{without_halt}
use Rattle.b2_machine.specs.Statements.{begins_where, begun_by, builder_of, finish_by, finishes, leaves, plan_by}
use Rattle.b2_machine.specs.Step.{executes, goes_through, lent_to_begin, line_read, seen_by, steps_by, whose_by}
use Rattle.b2_machine.specs.Typing.{put_by, shown_by, shows_output, typed_by_key}
use Rattle.b2_machine.specs.declared.ends.Stepped.{Stepped}
use Rattle.b2_machine.specs.declared.ends.Why.TheVariants as reason
use Rattle.b2_machine.specs.declared.moving.Onward.{Onward}
use Rattle.b2_machine.specs.declared.statements.Builder.{Builder}
use Rattle.b2_machine.specs.declared.statements.Builder.TheVariants as builder
use Rattle.b2_machine.specs.Due.{due}
use Rattle.b2_machine.specs.declared.rules.Rule.{Rule}
use Rattle.b2_machine.specs.declared.rules.Rule.TheVariants as rule

delayed : (a : Answer) → (repeats a).counted ≡ false → delays a ≡ true
delayed answer.NoKeys h = refl
delayed (answer.Wait q) h = refl
delayed a h = cc

module _ (ways : Ways) (lawful : AreLawful ways) (before : Private) where
  -- a step that has ended so has changed nothing, where it doesn't count
  abbrev Unless : Stepped → Private → Type 0
  Unless e me = e.counted ≡ false → me ≡ before

  shown : (x : Access) (a : Answer) → Unless (shown_by x a before).end (shown_by x a before).me
  shown (access.Show term bytes column) answer.Done h = cc
  shown (access.PrintTo addr bytes column) answer.Done h = cc
  shown x a h = refl

  typed : (a : Answer) → Unless (typed_by_key a before).end (typed_by_key a before).me
  typed answer.Done h = cc
  typed a h = refl

  put : (a : Answer) → Unless (put_by a before).end (put_by a before).me
  put answer.Done h = cc
  put (answer.Locked q) h = cc
  put (answer.Refused code) h = cc
  put a h = refl

  -- where a statement leads
  gone : (o : Option Place) (me : Private) → Unless (goes_to o me).end (goes_to o me).me
  gone None me h = cc
  gone (Some q) me h = cc

  faulted : (code : ℕ) (o : Option Place) (p : Place) (me : Private) → Unless (faults code o p me).end (faults code o p me).me
  faulted code None p me h = cc
  faulted code (Some q) p me h = cc

  ended : (same : Stepped) (o : Outcome) (p : Place) (me : Private) (home : Lines) → Unless same me → Unless (ends_by same o p me home).end (ends_by same o p me home).me
  ended same outcome.Next p me home k h = gone (following_place p me home) me h
  ended same (outcome.Jump q) p me home k h = cc
  ended same (outcome.Failed code) p me home k h = faulted code (error_place code p me home) p me h
  ended same outcome.Repeat p me home k h = k h
  ended same outcome.Break p me home k h = cc
  ended same outcome.Ready p me home k h = cc

  ended_onward : (same : Stepped) (o : Outcome) (w : Onward) (p : Place) (me : Private) (home : Lines) → Unless same me → Unless (ends_onward same o w p me home).end (ends_onward same o w p me home).me
  ended_onward same outcome.Next w p me home k h = gone (place_onward home p w) me h
  ended_onward same outcome.Break w p me home k h = cc
  ended_onward same o w p me home k h = ended same o p me home k h

  -- what a statement plans, and how it finishes
  listed : (b : Bool) (range : ℕ × ℕ) (s : SeenLent) → UnchangedIfAsks before (lists b range before s).me (lists b range before s).planned
  listed true range s = tt
  listed false range s = refl

  pub plans : (b : Builder) (p : Place) (s : SeenLent) → UnchangedIfAsks before (plan_by ways b p before s).me (plan_by ways b p before s).planned
  plans (builder.Listing from to) p s = listed (is_some p.line) (from, to) s
  plans (builder.Language r) p s = (lawful.leave_the_rest r).plans_before_changes before s
  plans builder.Nobody p s = tt

  finished : (b : Builder) (x : Access) (a : Answer) (me : Private) (s : SeenLent) → delays a ≡ true → (finish_by ways b x a me s).me ≡ me
  finished (builder.Listing from to) x a me s h = ap (λ (w : Work). put_back w me) (after_shown x a me h)
  finished (builder.Language r) x a me s h = (lawful.leave_the_rest r).finishes_unchanged x a me s h
  finished builder.Nobody x a me s h = refl

  finishing : (b : Builder) (x : Access) (a : Answer) (w : Onward) (p : Place) (me : Private) (s : SeenLent) → me ≡ before → Unless (finishes ways b x a w p me s).end (finishes ways b x a w p me s).me
  finishing b x a w p me s same =
      let f = finish_by ways b x a me s in
      ended_onward (repeats a) f.outcome w p f.me s.home.lines (λ h. finished b x a me s (delayed a h) ∙ same)

  module _ {M : Type 0} (store : M → StoreState) (serving : ServingOf M) (lending : Loan M) where
    begun : (who : ℕ) (x : Planned) (b : Builder) (p : Place) (whose : At) (me : Private) (home : Lines) (m : M) → UnchangedIfAsks before me x
        → Unless (goes_through ways store serving lending who (begun_by x b p me home) p whose m).end (goes_through ways store serving lending who (begun_by x b p me home) p whose m).me
    begun who (planned.Done o) b p whose me home m same = ended counts o p me home (λ h. cc)
    begun who (planned.Ask a) b p whose me home m same = let g = serving m who a in finishing b a g.answer (onward_from p me home) p me (seen_by who p.home whose (store g.after)) same

    unit : (who : ℕ) (o : Option Statement) (p : Place) (whose : At) (s : SeenLent) (m : M)
        → Unless (goes_through ways store serving lending who (begins_where ways o p before s) p whose m).end (goes_through ways store serving lending who (begins_where ways o p before s) p whose m).me
    unit who None p whose s m h = cc
    unit who (Some u) p whose s m h = let x = plan_by ways (builder_of ways u) p before s in begun who x.planned (builder_of ways u) p whose x.me s.home.lines m (plans (builder_of ways u) p s) h

    executed : (p : Place) (m : M) → Unless (executes ways store serving lending p before m).end (executes ways store serving lending p before m).me
    executed p m =
        let whose = whose_by p before (store m) in
        let s = seen_by before.part p.home whose (store m) in
        unit before.part (statement_placed p before.immediate s.home.lines) p whose s (lent_to_begin store serving lending before.part p.home whose m (leaves ways p before s))

    read : (a : Answer) (m : M) → Unless (line_read store serving lending a before m).end (line_read store serving lending a before m).me
    read (answer.Line bytes) m h = cc
    read (answer.Special n) m h = cc
    read a m h = refl

    reset_counts : (b : Bool) → (if b then counts else ends_turn reason.Ready).counted ≡ true
    reset_counts true = refl
    reset_counts false = refl

    by_rule : (r : Rule) (m : M) → Unless (steps_by ways store serving lending r before m).end (steps_by ways store serving lending r before m).me
    by_rule rule.Reset m h = let counted = reset_counts (is_ready before) in cc
    by_rule rule.Halt m h = cc
    by_rule rule.Show m h = shown (shows_output before) _ h
    by_rule rule.Insert m h = typed _ h
    by_rule rule.Read m h = let g = serving m before.part (access.ReadLine before.term) in read g.answer g.after h
    by_rule rule.Put m h = put _ h
    by_rule (rule.Execute p) m h = executed p m h

module _ (ways : Ways) (lawful : AreLawful ways) {M : Type 0} (store : M → StoreState) (serving : ServingOf M) (lending : Loan M) where
  pub uncounted_steps_change_nothing : UncountedStepsChangeNothing ways store serving lending
  uncounted_steps_change_nothing me m h = ap (λ (p : Private). record p { halt = me.halt }) (by_rule ways lawful (without_halt me) store serving lending (due me) m h)
