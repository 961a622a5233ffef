-- A step, by cases on its six rules, and a turn, by its steps, over a store that is seen as another one.
use Rattle.std.specs.Prelude.{◌≡◌, ℕ, zero, suc, Option, Some, None, refl}
use Rattle.std.proofs.Common.{sym, ap, subst, ◌∙◌}
use Rattle.b2_vars.specs.Globals.{Globals, unreached}
use Rattle.b2_flow.specs.declared.frame.Place.{Place}
use Rattle.b2_access.specs.Loans.{Loan}
use Rattle.b2_access.specs.Sharing.{Gives, ServingOf}
use Rattle.b2_access.specs.Store.{StoreState}
use Rattle.b2_access.specs.declared.accesses.Access.{Access}
use Rattle.b2_access.specs.declared.accesses.Access.TheVariants as access
use Rattle.b2_access.specs.declared.accesses.Answer.{Answer}
use Rattle.b2_access.specs.declared.accesses.Answer.TheVariants as answer
use Rattle.b2_access.specs.declared.lending.At.{At}
use Rattle.b2_access.specs.declared.lending.At.TheVariants as at
use Rattle.b2_access.specs.declared.private.Private.{Private}
use Rattle.b2_language.specs.Languages.{Ways}
use Rattle.b2_machine.specs.Endings.{Ending}
use Rattle.b2_machine.specs.Readiness.{gives_back, resets, without_halt}
use Rattle.b2_machine.specs.Seeing.{StepsAreSeen, TurnsAreSeen, given_seen, step_seen, turn_seen}
use Rattle.b2_machine.specs.Statements.{begins, leaves}
use Rattle.b2_machine.specs.Step.{StepEnd, asks_for, carries_out, finishes_by, goes_through, lent_to_begin, line_read, reads_line, seen_by, step, steps_by, whose_by}
use Rattle.b2_machine.specs.Turn.{counted_on, ended_turn, passes_none, passes_turn, turn, turn_from, unless_ended}
use Rattle.b2_machine.proofs.PassedTurns.{turn_seen_by}
use Rattle.b2_machine.specs.Typing.{inserts_literal, put_by, puts_numbered, shown_by, shows_output, typed_by_key}
use Rattle.b2_machine.specs.declared.ends.Why.{Why}
use Rattle.b2_machine.specs.declared.statements.Progress.{Progress}
use Rattle.b2_machine.specs.declared.statements.Progress.TheVariants as progress
use Rattle.b2_machine.specs.Due.{due}
use Rattle.b2_machine.specs.declared.rules.Rule.{Rule}
use Rattle.b2_machine.specs.declared.rules.Rule.TheVariants as rule

module _ (ways : Ways) {M N : Type 0} (see : M → N) (other_store : N → StoreState) (serving : ServingOf M) (other_serving : ServingOf N) (lending : Loan M) (other_lending : Loan N)
    (serves : (m : M) (who : ℕ) (a : Access) → given_seen see (serving m who a) ≡ other_serving (see m) who a)
    (lends : (who home : ℕ) (whose : At) (m : M) (left : Globals) → see (lending who home whose m left) ≡ other_lending who home whose (see m) left) where
  abbrev store : M → StoreState
  store m = other_store (see m)

  abbrev ended_with : Ending → N → StepEnd N
  ended_with e n = record { me = e.me; after = n; end = e.end }

  -- an access, and how a step ends by its answer
  by_answer : (a : Access) (ends : Answer → Ending) (me : Private) (m : M) → step_seen see (asks_for store serving lending a ends me m) ≡ asks_for other_store other_serving other_lending a ends me (see m)
  by_answer a ends me m = ap (λ (g : Gives N). ended_with (ends g.answer) g.after) (serves m me.part a)

  -- a line that is read
  by_reading : (x : Answer) (me : Private) (m : M) → step_seen see (line_read store serving lending x me m) ≡ line_read other_store other_serving other_lending x me (see m)
  by_reading (answer.Line bytes) me m = refl
  by_reading (answer.Special n) me m = ap (λ (k : N). record (line_read other_store other_serving other_lending (answer.Special n) me (see m)) { after = k }) (lends me.part me.part at.None m (unreached None))
  by_reading x me m = refl

  by_line : (me : Private) (m : M) → step_seen see (reads_line store serving lending me m) ≡ reads_line other_store other_serving other_lending me (see m)
  by_line me m =
      let g = serving m me.part (access.ReadLine me.term) in
      by_reading g.answer me g.after ∙ ap (λ (x : Gives N). line_read other_store other_serving other_lending x.answer me x.after) (serves m me.part (access.ReadLine me.term))

  -- the statement at the place
  begun : (who home : ℕ) (whose : At) (m : M) (left : Globals) → see (lent_to_begin store serving lending who home whose m left) ≡ lent_to_begin other_store other_serving other_lending who home whose (see m) left
  begun who home at.None m left = lends who home at.None m (unreached None)
  begun who home at.Home m left = lends who home at.Home (lending who home at.None m (unreached None)) left ∙ ap (λ (k : N). other_lending who home at.Home k left) (lends who home at.None m (unreached None))
  begun who home (at.Named n) m left = lends who home (at.Named n) (lending who home at.None m (unreached None)) left ∙ ap (λ (k : N). other_lending who home (at.Named n) k left) (lends who home at.None m (unreached None))

  carried_out : (who : ℕ) (c : Progress) (p : Place) (whose : At) (me : Private) (m : M) → step_seen see (carries_out ways store serving lending who c p whose me m) ≡ carries_out ways other_store other_serving other_lending who c p whose me (see m)
  carried_out who (progress.Ended e) p whose me m = refl
  carried_out who (progress.Asks a b w) p whose me m =
      let g = serving m who a in
      let finished = finishes_by ways store serving lending who b a w p whose me g in
      ap (λ (k : N). record { me = finished.me; after = k; end = finished.end }) (lends who p.home whose g.after _)
      ∙ ap (λ (x : Gives N). finishes_by ways other_store other_serving other_lending who b a w p whose me x) (serves m who a)

  -- each rule
  by_rule : (r : Rule) (me : Private) (m : M) → step_seen see (steps_by ways store serving lending r me m) ≡ steps_by ways other_store other_serving other_lending r me (see m)
  by_rule rule.Reset me m = by_answer (gives_back me) (λ _. resets me) me m
  by_rule rule.Halt me m = refl
  by_rule rule.Show me m = let a = shows_output me in by_answer a (λ x. shown_by a x me) me m
  by_rule rule.Insert me m = by_answer (inserts_literal me) (λ x. typed_by_key x me) me m
  by_rule rule.Read me m = by_line me m
  by_rule rule.Put me m = by_answer (puts_numbered me) (λ x. put_by x me) me m
  by_rule (rule.Execute p) me m =
      let s = store m in
      let whose = whose_by p me s in
      let seen = seen_by me.part p.home whose s in
      let b = begins ways p me seen in
      let left = leaves ways p me seen in
      carried_out me.part b.progress p whose b.me (lent_to_begin store serving lending me.part p.home whose m left)
      ∙ ap (λ (k : N). goes_through ways other_store other_serving other_lending me.part b p whose k) (begun me.part p.home whose m left)

  one_step : (me : Private) (m : M) → step_seen see (step ways store serving lending me m) ≡ step ways other_store other_serving other_lending me (see m)
  one_step me m = by_rule (due me) (without_halt me) m

  -- at most so many more steps
  more_steps : (n : ℕ) (me : Private) (m : M) (steps : ℕ) → turn_seen see (turn_from ways store serving lending n me m steps) ≡ turn_from ways other_store other_serving other_lending n me (see m) steps
  unfolding turn_from
  more_steps zero me m steps = refl
  more_steps (suc n) me m steps =
      let x = step ways store serving lending me m in
      by x.end.why (more_steps n x.me x.after (counted_on steps x.end))
      ∙ ap (λ (y : StepEnd N). unless_ended y.end.why (λ why. ended_turn (counted_on steps y.end) why y.me y.after) (turn_from ways other_store other_serving other_lending n y.me y.after (counted_on steps y.end))) (one_step me m)
    where
      by : (why : Option Why)
          → turn_seen see (turn_from ways store serving lending n (step ways store serving lending me m).me (step ways store serving lending me m).after (counted_on steps (step ways store serving lending me m).end))
          ≡ turn_from ways other_store other_serving other_lending n (step ways store serving lending me m).me (see (step ways store serving lending me m).after) (counted_on steps (step ways store serving lending me m).end)
          → turn_seen see (unless_ended why (λ why. ended_turn (counted_on steps (step ways store serving lending me m).end) why (step ways store serving lending me m).me (step ways store serving lending me m).after) (turn_from ways store serving lending n (step ways store serving lending me m).me (step ways store serving lending me m).after (counted_on steps (step ways store serving lending me m).end)))
          ≡ unless_ended why (λ why. ended_turn (counted_on steps (step ways store serving lending me m).end) why (step ways store serving lending me m).me (see (step ways store serving lending me m).after)) (turn_from ways other_store other_serving other_lending n (step ways store serving lending me m).me (see (step ways store serving lending me m).after) (counted_on steps (step ways store serving lending me m).end))
      by None later = later
      by (Some why) later = refl

module _ (ways : Ways) {M N : Type 0} (store : M → StoreState) (other_store : N → StoreState) (serving : ServingOf M) (other_serving : ServingOf N) (lending : Loan M) (other_lending : Loan N) where
  pub steps_are_seen : StepsAreSeen store other_store serving other_serving lending other_lending ways
  steps_are_seen see is me m =
      subst (λ (s : M → StoreState). step_seen see (step ways s serving lending me m) ≡ step ways other_store other_serving other_lending me (see m)) (sym is.stores)
      (one_step ways see other_store serving other_serving lending other_lending is.serves is.lends me m)

  pub turns_are_seen : TurnsAreSeen store other_store serving other_serving lending other_lending ways
  turns_are_seen see is quota me m =
      subst (λ (s : M → StoreState). turn_seen see (turn ways s serving lending quota me m) ≡ turn ways other_store other_serving other_lending quota me (see m)) (sym is.stores)
      (turn_seen_by see (passes_turn me) _ _ _ _ refl (more_steps ways see other_store serving other_serving lending other_lending is.serves is.lends quota (passes_none me) m 0))
