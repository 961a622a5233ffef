-- A step and a turn over two tables that list the same for their partition.
use Rattle.std.specs.Prelude.{◌≡◌, ℕ, zero, suc, ◌==◌, Bool, List, Option, Some, None, refl, if◌then◌else◌}
use Rattle.std.proofs.Common.{ap, sym, subst, ◌∙◌}
use Rattle.b2_atom.specs.declared.rows.TheConstants as row
use Rattle.b2_flow.specs.declared.frame.Place.{Place}
use Rattle.b2_vars.specs.Globals.{Globals}
use Rattle.b2_access.specs.Lending.{SeenLent}
use Rattle.b2_access.specs.Loans.{Loan}
use Rattle.b2_access.specs.Placed.{Statement, statement_placed}
use Rattle.b2_access.specs.Planning.{Finishing, Planning}
use Rattle.b2_access.specs.Sharing.{ServingOf}
use Rattle.b2_access.specs.Store.{StoreState}
use Rattle.b2_access.specs.declared.accesses.Access.{Access}
use Rattle.b2_access.specs.declared.accesses.Answer.{Answer}
use Rattle.b2_access.specs.declared.devices.Device.{Device}
use Rattle.b2_access.specs.declared.lending.At.{At}
use Rattle.b2_access.specs.declared.private.Private.{Private}
use Rattle.b2_language.specs.Languages.{AreLawful, GoByListed, ListAlike, Ways}
use Rattle.b2_machine.specs.Listed.{named_range}
use Rattle.b2_machine.specs.Readiness.{without_halt}
use Rattle.b2_machine.specs.Statements.{Begun, begins, begins_where, begun, builder_of, ends_with, finish_by, left_where, leaves, plan_by}
use Rattle.b2_machine.specs.Step.{StepEnd, by_itself, carries_out, goes_through, lent_to_begin, seen_by, step, steps_by, whose_by}
use Rattle.b2_machine.specs.Tables.{StepsGoByListed, TurnsGoByListed}
use Rattle.b2_machine.specs.Turn.{TurnEnd, counted_on, ended_turn, passed_one, passes_none, passes_turn, turn_from, unless_ended}
use Rattle.b2_machine.specs.declared.ends.Why.TheVariants as reason
use Rattle.b2_machine.specs.declared.statements.Builder.{Builder}
use Rattle.b2_machine.specs.declared.statements.Builder.TheVariants as builder
use Rattle.b2_machine.specs.declared.statements.Progress.{Progress}
use Rattle.b2_machine.specs.declared.statements.Progress.TheVariants as progress
use Rattle.b2_machine.proofs.StepPart.{steps_keep_part}
use Rattle.b2_machine.specs.Due.{due}
use Rattle.b2_machine.specs.declared.rules.Rule.{Rule}
use Rattle.b2_machine.specs.declared.rules.Rule.TheVariants as rule

-- two languages that plan the same for a partition, and else are the same
pub record PlanAlike (who : ℕ) (v w : Ways) : Type 0 where
  pub rows : v.built ≡ w.built
  pub plans : (r : ℕ) (me : Private) (s : SeenLent) → me.part ≡ who → v.plan r me s ≡ w.plan r me s
  pub finishes : v.finish ≡ w.finish

module _ (who : ℕ) (v w : Ways) (alike : PlanAlike who v w) where
  same_builder : (u : Statement) → builder_of v u ≡ builder_of w u
  same_builder u =
      ap (λ (built : ℕ → Bool). if u.row == row.LIST then builder.Listing (named_range u.tree).0 (named_range u.tree).1 else (if built u.row then builder.Language u.row else builder.Nobody)) alike.rows

  same_plan : (b : Builder) (p : Place) (me : Private) (s : SeenLent) → me.part ≡ who → plan_by v b p me s ≡ plan_by w b p me s
  same_plan (builder.Listing from to) p me s is = refl
  same_plan (builder.Language r) p me s is = alike.plans r me s is
  same_plan builder.Nobody p me s is = refl

  same_finish : (b : Builder) (x : Access) (a : Answer) (me : Private) (s : SeenLent) → finish_by v b x a me s ≡ finish_by w b x a me s
  same_finish (builder.Listing from to) x a me s = refl
  same_finish (builder.Language r) x a me s = ap (λ (f : ℕ → Access → Answer → Private → SeenLent → Finishing). f r x a me s) alike.finishes
  same_finish builder.Nobody x a me s = refl

  planned_alike : (u : Statement) (p : Place) (me : Private) (s : SeenLent) → me.part ≡ who → plan_by v (builder_of v u) p me s ≡ plan_by w (builder_of w u) p me s
  planned_alike u p me s is = ap (λ (b : Builder). plan_by v b p me s) (same_builder u) ∙ same_plan (builder_of w u) p me s is

  begins_alike : (u : Option Statement) (p : Place) (me : Private) (s : SeenLent) → me.part ≡ who → begins_where v u p me s ≡ begins_where w u p me s
  begins_alike None p me s is = refl
  begins_alike (Some u) p me s is =
      ap (λ (b : Builder). begun (plan_by v (builder_of v u) p me s) b p s.home.lines) (same_builder u) ∙ ap (λ (x : Planning). begun x (builder_of w u) p s.home.lines) (planned_alike u p me s is)

  leaves_alike : (u : Option Statement) (p : Place) (me : Private) (s : SeenLent) → me.part ≡ who → left_where v u p me s ≡ left_where w u p me s
  leaves_alike None p me s is = refl
  leaves_alike (Some u) p me s is = ap (λ (x : Planning). x.globals) (planned_alike u p me s is)

  module _ {M : Type 0} (store : M → StoreState) (serving : ServingOf M) (lending : Loan M) where
    carried_alike : (part : ℕ) (c : Progress) (p : Place) (whose : At) (me : Private) (m : M) → carries_out v store serving lending part c p whose me m ≡ carries_out w store serving lending part c p whose me m
    carried_alike part (progress.Ended e) p whose me m = refl
    carried_alike part (progress.Asks a b on) p whose me m =
        let g = serving m part a in
        let s = seen_by part p.home whose (store g.after) in
        ap (λ (f : Finishing). by_itself store serving lending (ends_with f g.answer on p s.home.lines) (lending part p.home whose g.after f.globals)) (same_finish b a g.answer me s)

    by_rule : (r : Rule) (me : Private) (m : M) → me.part ≡ who → steps_by v store serving lending r me m ≡ steps_by w store serving lending r me m
    by_rule (rule.Execute p) me m is =
        let whose = whose_by p me (store m) in
        let s = seen_by me.part p.home whose (store m) in
        let u = statement_placed p me.immediate s.home.lines in
        let b = begins w p me s in
        ap (λ (x : Begun). goes_through v store serving lending me.part x p whose (lent_to_begin store serving lending me.part p.home whose m (leaves v p me s))) (begins_alike u p me s is)
        ∙ (ap (λ (left : Globals). goes_through v store serving lending me.part b p whose (lent_to_begin store serving lending me.part p.home whose m left)) (leaves_alike u p me s is)
        ∙ carried_alike me.part b.progress p whose b.me (lent_to_begin store serving lending me.part p.home whose m (leaves w p me s)))
    by_rule r me m is = refl

    step_alike : (me : Private) (m : M) → me.part ≡ who → step v store serving lending me m ≡ step w store serving lending me m
    step_alike me m is = by_rule (due me) (without_halt me) m is

module _ (ways : List Device → Ways) (by_listed : GoByListed ways) (lawful : (devices : List Device) → AreLawful (ways devices)) where
  plan_alike : (ds es : List Device) (who : ℕ) → ListAlike who ds es → PlanAlike who (ways ds) (ways es)
  plan_alike ds es who alike = record {
    rows = by_listed.same_rows ds es;
    plans = λ r me s is. by_listed.plans_alike r ds es me s (subst (λ (p : ℕ). ListAlike p ds es) (sym is) alike);
    finishes = by_listed.finishes_alike ds es;
  }

  module _ {M : Type 0} (store : M → StoreState) (serving : ServingOf M) (lending : Loan M) where
    pub steps_go_by_listed : StepsGoByListed ways store serving lending
    steps_go_by_listed ds es me m alike = step_alike me.part (ways ds) (ways es) (plan_alike ds es me.part alike) store serving lending me m refl

    turns_alike : (ds es : List Device) (n : ℕ) (me : Private) (m : M) (steps : ℕ) → ListAlike me.part ds es
        → turn_from (ways ds) store serving lending n me m steps ≡ turn_from (ways es) store serving lending n me m steps
    unfolding turn_from
    turns_alike ds es zero me m steps alike = refl
    turns_alike ds es (suc n) me m steps alike =
        let x = step (ways ds) store serving lending me m in
        let still = subst (λ (who : ℕ). ListAlike who ds es) (sym (steps_keep_part (ways ds) (lawful ds) store serving lending me m)) alike in
        ap (λ (rest : TurnEnd M). unless_ended x.end.why (λ w. ended_turn (counted_on steps x.end) w x.me x.after) rest) (turns_alike ds es n x.me x.after (counted_on steps x.end) still)
        ∙ ap (λ (y : StepEnd M). unless_ended y.end.why (λ w. ended_turn (counted_on steps y.end) w y.me y.after) (turn_from (ways es) store serving lending n y.me y.after (counted_on steps y.end)))
        (steps_go_by_listed ds es me m alike)

    pub turns_go_by_listed : TurnsGoByListed ways store serving lending
    turns_go_by_listed ds es quota me m alike =
        ap (λ (t : TurnEnd M). if passes_turn me then ended_turn 0 reason.Break (passed_one me) m else t) (turns_alike ds es quota (passes_none me) m 0 alike)
