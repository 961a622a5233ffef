-- What statements ask for may be asked for.
use Rattle.std.proofs.Common.{◌≡◌, ℕ, Bool, true, false, Option, Some, None, is_some, subst, sym}
use Rattle.b2_text.specs.Program.{Lines}
use Rattle.b2_flow.specs.declared.frame.Place.{Place}
use Rattle.b2_access.specs.LegalPlans.{IsLegalPlan}
use Rattle.b2_access.specs.Lending.{SeenLent}
use Rattle.b2_access.specs.Placed.{Statement, statement_placed}
use Rattle.b2_access.specs.declared.planned.Planned.{Planned}
use Rattle.b2_access.specs.declared.planned.Planned.TheVariants as planned
use Rattle.b2_access.specs.declared.private.Private.{Private}
use Rattle.b2_language.specs.Languages.{AreLawful, Ways}
use Rattle.b2_machine.specs.Listed.{lists}
use Rattle.b2_machine.specs.Stays.{IsLegalProgress}
use Rattle.b2_machine.specs.Statements.{Begun, begins, begins_where, begun_by, builder_of, plan_by}
use Rattle.b2_machine.specs.declared.statements.Builder.{Builder}
use Rattle.b2_machine.specs.declared.statements.Builder.TheVariants as builder
use Rattle.b2_machine.specs.declared.statements.Progress.{Progress}

listed : (b : Bool) (range : ℕ × ℕ) (me : Private) (s : SeenLent) → IsLegalPlan (lists b range me s).planned
listed true range me s = tt
listed false range me s = tt

dispatches : (x : Planned) (b : Builder) (p : Place) (me : Private) (home : Lines) → IsLegalPlan x → IsLegalProgress (begun_by x b p me home).progress
dispatches (planned.Done o) b p me home h = tt
dispatches (planned.Ask a) b p me home h = h

module _ (ways : Ways) (lawful : AreLawful ways) where
  pub planned_by : (b : Builder) (p : Place) (me : Private) (s : SeenLent) → IsLegalPlan (plan_by ways b p me s).planned
  planned_by (builder.Listing from to) p me s = listed (is_some p.line) (from, to) me s
  planned_by (builder.Language r) p me s = lawful.plans_legally r me s
  planned_by builder.Nobody p me s = tt

  begun_at : (o : Option Statement) (p : Place) (me : Private) (s : SeenLent) → IsLegalProgress (begins_where ways o p me s).progress
  begun_at None p me s = tt
  begun_at (Some u) p me s = let x = plan_by ways (builder_of ways u) p me s in dispatches x.planned (builder_of ways u) p x.me s.home.lines (planned_by (builder_of ways u) p me s)

  pub legal_begun : (p : Place) (me after : Private) (s : SeenLent) (c : Progress) → ◌≡◌ {A = Begun} (record { me = after; progress = c }) (begins ways p me s) → IsLegalProgress c
  legal_begun p me after s c is = subst (λ (b : Begun). IsLegalProgress b.progress) (sym is) (begun_at (statement_placed p me.immediate s.home.lines) p me s)
