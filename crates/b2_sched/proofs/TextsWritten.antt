-- A step writes no text but its own.
use Rattle.std.specs.Prelude.{◌≡◌, ℕ, Bool, true, false, List, ◌++◌, Option, Some, None, if◌then◌else◌}
use Rattle.std.proofs.Common.{inl, inr}
use Rattle.b2_flow.specs.declared.frame.Place.{Place}
use Rattle.b2_access.specs.Loans.{globals_objects, lender_at, lends, reached_objects}
use Rattle.b2_access.specs.Serving.{itself}
use Rattle.b2_access.specs.Sharing.{writes}
use Rattle.b2_access.specs.Store.{StoreState, IsIn}
use Rattle.b2_access.specs.declared.accesses.Access.{Access}
use Rattle.b2_access.specs.declared.lending.At.{At}
use Rattle.b2_access.specs.declared.objects.Object.{Object}
use Rattle.b2_access.specs.declared.objects.Object.TheVariants as object
use Rattle.b2_access.specs.declared.private.Private.{Private}
use Rattle.b2_audit.proofs.Accesses.{accesses_write_own_texts}
use Rattle.b2_language.specs.Languages.{Ways}
use Rattle.b2_machine.specs.Readiness.{without_halt}
use Rattle.b2_machine.specs.Statements.{begins, finish_by, leaves}
use Rattle.b2_machine.specs.Step.{lent_to_begin, seen_by, whose_by}
use Rattle.b2_machine.specs.Touched.{asks_by, step_written, tells_carrying, told_by, written_where}
use Rattle.b2_machine.specs.declared.statements.Progress.{Progress}
use Rattle.b2_machine.specs.declared.statements.Progress.TheVariants as progress
use Rattle.b2_machine.proofs.LocalSteps.{split}
use Rattle.b2_store.specs.DiskWork.{serves}
use Rattle.b2_machine.specs.Due.{due}
use Rattle.b2_machine.specs.declared.rules.Rule.{Rule}
use Rattle.b2_machine.specs.declared.rules.Rule.TheVariants as rule

abbrev OwnAlone : ℕ → List Object → Type 0
OwnAlone who os = (q : ℕ) → IsIn (object.Text q) os → q ≡ who

both_own : (who : ℕ) (xs ys : List Object) → OwnAlone who xs → OwnAlone who ys → OwnAlone who (xs ++ ys)
both_own who xs ys h k q i = elim (split (object.Text q) xs ys i) [ inl j ↦ h q j | inr j ↦ k q j ]

no_text_in : (who : ℕ) (x : Option ℕ) → OwnAlone who (globals_objects x)
no_text_in who None q i = absurd i
no_text_in who (Some p) q i = elim i [ inl e ↦ absurd (cc) | inr j ↦ absurd j ]

reached_own : (who : ℕ) (b : Bool) (home : ℕ) (whose : At) (s : StoreState) → OwnAlone who (reached_objects b home whose s)
reached_own who false home whose s q i = absurd i
reached_own who true home whose s q i = no_text_in who (lender_at home whose s) q i

asked_own : (who : ℕ) (x : Option Access) (s : StoreState) → OwnAlone who (written_where itself serves lends x who s)
asked_own who None s q i = absurd i
asked_own who (Some a) s q i = accesses_write_own_texts who q a (serves s who a).answer i

module _ (ways : Ways) where
  carried_own : (who : ℕ) (c : Progress) (p : Place) (whose : At) (me : Private) (s : StoreState) → OwnAlone who (tells_carrying ways itself serves lends who c p whose me s).written
  carried_own who (progress.Ended e) p whose me s q i = absurd i
  carried_own who (progress.Asks a b w) p whose me s q i =
      let g = serves s who a in
      both_own who (writes itself serves s who a) _ (λ q i. accesses_write_own_texts who q a g.answer i)
      (reached_own who (finish_by ways b a g.answer me (seen_by who p.home whose g.after)).globals.reached p.home whose g.after) q i

  by_rule : (r : Rule) (me : Private) (s : StoreState) → OwnAlone me.part (told_by ways itself serves lends r me s).written
  by_rule (rule.Execute p) me s =
      let whose = whose_by p me s in
      let seen = seen_by me.part p.home whose s in
      let b = begins ways p me seen in
      let left = leaves ways p me seen in
      both_own me.part (reached_objects left.reached p.home whose s) _ (reached_own me.part left.reached p.home whose s)
      (carried_own me.part b.progress p whose b.me (lent_to_begin itself serves lends me.part p.home whose s left))
  by_rule r me s = asked_own me.part (asks_by ways r me s) s

  pub writes_own_text : (me : Private) (s : StoreState) (q : ℕ) → IsIn (object.Text q) (step_written ways itself serves lends me s) → q ≡ me.part
  writes_own_text me s = by_rule (due me) (without_halt me) s
