-- A step that doesn't count ends its turn.
use Rattle.std.proofs.Common.{refl, ℕ, Bool, true, false, if◌then◌else◌, Option, Some, None}
use Rattle.b2_flow.specs.declared.frame.Place.{Place}
use Rattle.b2_text.specs.Program.{Lines}
use Rattle.b2_access.specs.Lending.{SeenLent}
use Rattle.b2_access.specs.Loans.{Loan}
use Rattle.b2_access.specs.Partition.{is_ready}
use Rattle.b2_access.specs.Placed.{Statement, statement_placed}
use Rattle.b2_access.specs.Sharing.{ServingOf}
use Rattle.b2_access.specs.Store.{StoreState}
use Rattle.b2_access.specs.declared.accesses.Access.{Access}
use Rattle.b2_access.specs.declared.accesses.Access.TheVariants as access
use Rattle.b2_access.specs.declared.accesses.Answer.{Answer}
use Rattle.b2_access.specs.declared.accesses.Answer.TheVariants as answer
use Rattle.b2_access.specs.declared.lending.At.{At}
use Rattle.b2_access.specs.declared.planned.Outcome.{Outcome}
use Rattle.b2_access.specs.declared.planned.Outcome.TheVariants as outcome
use Rattle.b2_access.specs.declared.planned.Planned.{Planned}
use Rattle.b2_access.specs.declared.planned.Planned.TheVariants as planned
use Rattle.b2_access.specs.declared.private.Private.{Private}
use Rattle.b2_language.specs.Languages.{Ways}
use Rattle.b2_language.specs.Following.{following_place}
use Rattle.b2_machine.specs.Counting.{CountsOrEnds, StepsCountOrEnd}
use Rattle.b2_machine.specs.Endings.{counts, ends_turn, repeats}
use Rattle.b2_machine.specs.Moving.{ends_by, ends_onward, error_place, faults, goes_to, onward_from, place_onward}
use Rattle.b2_machine.specs.Readiness.{without_halt}
use Rattle.b2_machine.specs.Statements.{begins_where, begun_by, builder_of, finish_by, finishes, leaves, plan_by}
use Rattle.b2_machine.specs.Step.{executes, goes_through, lent_to_begin, line_read, seen_by, steps_by, whose_by}
use Rattle.b2_machine.specs.Typing.{put_by, shown_by, shows_output, typed_by_key}
use Rattle.b2_machine.specs.declared.ends.Stepped.{Stepped}
use Rattle.b2_machine.specs.declared.ends.Why.{Why}
use Rattle.b2_machine.specs.declared.ends.Why.TheVariants as reason
use Rattle.b2_machine.specs.declared.moving.Onward.{Onward}
use Rattle.b2_machine.specs.declared.statements.Builder.{Builder}
use Rattle.b2_machine.specs.Due.{due}
use Rattle.b2_machine.specs.declared.rules.Rule.{Rule}
use Rattle.b2_machine.specs.declared.rules.Rule.TheVariants as rule

counting : CountsOrEnds counts
counting h = cc

ending : (w : Why) → CountsOrEnds (ends_turn w)
ending w h = refl

repeating : (a : Answer) → CountsOrEnds (repeats a)
repeating answer.NoKeys h = refl
repeating (answer.Wait q) h = refl
repeating a h = cc

-- what waits to be shown, a literal, and a numbered line
shown : (x : Access) (a : Answer) (me : Private) → CountsOrEnds (shown_by x a me).end
shown (access.Show term bytes column) answer.Done me = counting
shown (access.PrintTo addr bytes column) answer.Done me = counting
shown x a me = repeating a

typed : (a : Answer) (me : Private) → CountsOrEnds (typed_by_key a me).end
typed answer.Done me = counting
typed a me = repeating a

put : (a : Answer) (me : Private) → CountsOrEnds (put_by a me).end
put answer.Done me = counting
put (answer.Locked q) me = counting
put (answer.Refused code) me = counting
put a me = repeating a

-- where a statement leads
gone : (o : Option Place) (me : Private) → CountsOrEnds (goes_to o me).end
gone None me = ending reason.Ready
gone (Some q) me = counting

faulted : (code : ℕ) (o : Option Place) (p : Place) (me : Private) → CountsOrEnds (faults code o p me).end
faulted code None p me = ending reason.Ready
faulted code (Some q) p me = counting

ended : (same : Stepped) (o : Outcome) (p : Place) (me : Private) (home : Lines) → CountsOrEnds same → CountsOrEnds (ends_by same o p me home).end
ended same outcome.Next p me home h = gone (following_place p me home) me
ended same (outcome.Jump q) p me home h = counting
ended same (outcome.Failed code) p me home h = faulted code (error_place code p me home) p me
ended same outcome.Repeat p me home h = h
ended same outcome.Break p me home h = ending reason.Break
ended same outcome.Ready p me home h = ending reason.Ready

ended_onward : (same : Stepped) (o : Outcome) (w : Onward) (p : Place) (me : Private) (home : Lines) → CountsOrEnds same → CountsOrEnds (ends_onward same o w p me home).end
ended_onward same outcome.Next w p me home h = gone (place_onward home p w) me
ended_onward same outcome.Break w p me home h = ending reason.Break
ended_onward same o w p me home h = ended same o p me home h

finishing : (ways : Ways) (b : Builder) (x : Access) (a : Answer) (w : Onward) (p : Place) (me : Private) (s : SeenLent) → CountsOrEnds (finishes ways b x a w p me s).end
finishing ways b x a w p me s = let f = finish_by ways b x a me s in ended_onward (repeats a) f.outcome w p f.me s.home.lines (repeating a)

module _ (ways : Ways) {M : Type 0} (store : M → StoreState) (serving : ServingOf M) (lending : Loan M) where
  begun : (who : ℕ) (x : Planned) (b : Builder) (p : Place) (whose : At) (me : Private) (home : Lines) (m : M) → CountsOrEnds (goes_through ways store serving lending who (begun_by x b p me home) p whose m).end
  begun who (planned.Done o) b p whose me home m = ended counts o p me home counting
  begun who (planned.Ask a) b p whose me home m = let g = serving m who a in finishing ways b a g.answer (onward_from p me home) p me (seen_by who p.home whose (store g.after))

  unit : (who : ℕ) (o : Option Statement) (p : Place) (whose : At) (me : Private) (s : SeenLent) (m : M) → CountsOrEnds (goes_through ways store serving lending who (begins_where ways o p me s) p whose m).end
  unit who None p whose me s m = ending reason.Ready
  unit who (Some u) p whose me s m = let x = plan_by ways (builder_of ways u) p me s in begun who x.planned (builder_of ways u) p whose x.me s.home.lines m

  executed : (p : Place) (me : Private) (m : M) → CountsOrEnds (executes ways store serving lending p me m).end
  executed p me m =
      let whose = whose_by p me (store m) in
      let s = seen_by me.part p.home whose (store m) in
      unit me.part (statement_placed p me.immediate s.home.lines) p whose me s (lent_to_begin store serving lending me.part p.home whose m (leaves ways p me s))

  read : (a : Answer) (me : Private) (m : M) → CountsOrEnds (line_read store serving lending a me m).end
  read (answer.Line bytes) me m = counting
  read (answer.Special n) me m = counting
  read a me m = repeating a

  reset : (b : Bool) → CountsOrEnds (if b then counts else ends_turn reason.Ready)
  reset true = counting
  reset false = ending reason.Ready

  by_rule : (r : Rule) (me : Private) (m : M) → CountsOrEnds (steps_by ways store serving lending r me m).end
  by_rule rule.Reset me m = reset (is_ready me)
  by_rule rule.Halt me m = ending reason.Ready
  by_rule rule.Show me m = shown (shows_output me) _ me
  by_rule rule.Insert me m = typed _ me
  by_rule rule.Read me m = let g = serving m me.part (access.ReadLine me.term) in read g.answer me g.after
  by_rule rule.Put me m = put _ me
  by_rule (rule.Execute p) me m = executed p me m

  pub steps_count_or_end : StepsCountOrEnd ways store serving lending
  steps_count_or_end me m = by_rule (due me) (without_halt me) m
