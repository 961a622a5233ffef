-- After a step a name leads to whom it led before, or to the partition of the step.
use Rattle.std.specs.Prelude.{◌≡◌, ◌⊎◌, ℕ, List, None}
use Rattle.std.proofs.Common.{sym, ap, ◌∙◌, inl, inr}
use Rattle.b2_flow.specs.declared.frame.Place.{Place}
use Rattle.b2_vars.specs.Globals.{Globals, unreached}
use Rattle.b2_access.specs.Leading.{LeadsTo, NamesLead}
use Rattle.b2_access.specs.Loans.{Loan, LoansGlobals}
use Rattle.b2_access.specs.Sharing.{ServingOf}
use Rattle.b2_access.specs.Store.{StoreState, content}
use Rattle.b2_access.specs.declared.accesses.Access.TheVariants as access
use Rattle.b2_access.specs.declared.accesses.Answer.{Answer}
use Rattle.b2_access.specs.declared.accesses.Answer.TheVariants as answer
use Rattle.b2_access.specs.declared.lending.At.{At}
use Rattle.b2_access.specs.declared.lending.At.TheVariants as at
use Rattle.b2_access.specs.declared.objects.Object.TheVariants as object
use Rattle.b2_access.specs.declared.private.Private.{Private}
use Rattle.b2_language.specs.Languages.{Ways}
use Rattle.b2_machine.specs.Readiness.{gives_back, without_halt}
use Rattle.b2_machine.specs.Statements.{begins, finish_by, leaves}
use Rattle.b2_machine.specs.Step.{carries_out, lent_to_begin, line_read, seen_by, steps_by, whose_by}
use Rattle.b2_machine.specs.Touched.{StepsLeadNames}
use Rattle.b2_machine.specs.Typing.{inserts_literal, puts_numbered, shows_output}
use Rattle.b2_machine.specs.declared.statements.Progress.{Progress}
use Rattle.b2_machine.specs.declared.statements.Progress.TheVariants as progress
use Rattle.b2_machine.proofs.Lent.{begun_store, names_left}
use Rattle.b2_machine.specs.Due.{due}
use Rattle.b2_machine.specs.declared.rules.Rule.{Rule}
use Rattle.b2_machine.specs.declared.rules.Rule.TheVariants as rule

module _ (ways : Ways) {M : Type 0} (store : M → StoreState) (serving : ServingOf M) (lending : Loan M) (loans : LoansGlobals store lending) (names : NamesLead store serving) where
  -- from a meaning to another: a name leads to whom it led, or to a partition
  abbrev Leads : ℕ → M → M → Type 0
  Leads who m after = (n : List ℕ) (p : ℕ) → LeadsTo (store after) n p → LeadsTo (store m) n p ⊎ (p ≡ who)

  as_it_led : (who : ℕ) (m after : M) → ((n : List ℕ) → content (store after) (object.Name n) ≡ content (store m) (object.Name n)) → Leads who m after
  as_it_led who m after same n p is = inl (sym (same n) ∙ is)

  both_lead : (who : ℕ) (m u v : M) → Leads who m u → Leads who u v → Leads who m v
  both_lead who m u v first last n p is = by (last n p is)
    where
      by : LeadsTo (store u) n p ⊎ (p ≡ who) → LeadsTo (store m) n p ⊎ (p ≡ who)
      by (inl before) = first n p before
      by (inr own) = inr own

  lent : (who home : ℕ) (whose : At) (left : Globals) (m : M) → Leads who m (lending who home whose m left)
  lent who home whose left m =
      as_it_led who m (lending who home whose m left) (λ n. ap (λ (s : StoreState). content s (object.Name n)) (loans who home whose m left) ∙ names_left home whose left.vars (store m) n)

  lent_first : (who home : ℕ) (whose : At) (left : Globals) (m : M) → Leads who m (lent_to_begin store serving lending who home whose m left)
  lent_first who home whose left m =
      as_it_led who m (lent_to_begin store serving lending who home whose m left)
      (λ n. ap (λ (s : StoreState). content s (object.Name n)) (begun_store store serving lending loans who home whose m left) ∙ names_left home whose left.vars (store m) n)

  read : (x : Answer) (me : Private) (m : M) → Leads me.part m (line_read store serving lending x me m).after
  read (answer.Line bytes) me m n p is = inl is
  read (answer.Special k) me m n p is = lent me.part me.part at.None (unreached None) m n p is
  read x me m n p is = inl is

  carried : (who : ℕ) (c : Progress) (place : Place) (whose : At) (me : Private) (m : M) → Leads who m (carries_out ways store serving lending who c place whose me m).after
  carried who (progress.Ended e) place whose me m = λ n p is. inl is
  carried who (progress.Asks a b w) place whose me m =
      let g = serving m who a in
      let left = (finish_by ways b a g.answer me (seen_by who place.home whose (store g.after))).globals in
      both_lead who m g.after (lending who place.home whose g.after left) (names who a m) (lent who place.home whose left g.after)

  by_rule : (r : Rule) (me : Private) (m : M) → Leads me.part m (steps_by ways store serving lending r me m).after
  by_rule rule.Reset me m = names me.part (gives_back me) m
  by_rule rule.Halt me m = λ n p is. inl is
  by_rule rule.Show me m = names me.part (shows_output me) m
  by_rule rule.Insert me m = names me.part (inserts_literal me) m
  by_rule rule.Read me m =
      let g = serving m me.part (access.ReadLine me.term) in
      both_lead me.part m g.after (line_read store serving lending g.answer me g.after).after (names me.part (access.ReadLine me.term) m) (read g.answer me g.after)
  by_rule rule.Put me m = names me.part (puts_numbered me) m
  by_rule (rule.Execute place) me m =
      let whose = whose_by place me (store m) in
      let s = seen_by me.part place.home whose (store m) in
      let left = leaves ways place me s in
      let b = begins ways place me s in
      let u = lent_to_begin store serving lending me.part place.home whose m left in
      both_lead me.part m u (carries_out ways store serving lending me.part b.progress place whose b.me u).after (lent_first me.part place.home whose left m) (carried me.part b.progress place whose b.me u)

  pub steps_lead_names : StepsLeadNames ways store serving lending
  steps_lead_names me m = by_rule (due me) (without_halt me) m
