-- What a statement may leave of the `@` variables, whoever executes it.
use Rattle.std.proofs.Common.{ℕ, Bool, true, false, Option, Some, None, is_some, refl, sym, subst}
use Rattle.b2_flow.specs.declared.frame.Place.{Place}
use Rattle.b2_vars.specs.Globals.{Globals, MayBecome}
use Rattle.b2_access.specs.Lending.{SeenLent}
use Rattle.b2_access.specs.Placed.{Statement, statement_placed}
use Rattle.b2_access.specs.Reaching.{ReachedUnlessAsks}
use Rattle.b2_access.specs.declared.accesses.Access.{Access}
use Rattle.b2_access.specs.declared.accesses.Answer.{Answer}
use Rattle.b2_access.specs.declared.planned.Planned.{Planned}
use Rattle.b2_access.specs.declared.planned.Planned.TheVariants as planned
use Rattle.b2_access.specs.declared.private.Private.{Private}
use Rattle.b2_language.specs.Languages.{AreLawful, Ways}
use Rattle.b2_machine.specs.Listed.{lists}
use Rattle.b2_machine.specs.Statements.{builder_of, finish_by, leaves, left_where, plan_by}
use Rattle.b2_machine.specs.declared.statements.Builder.{Builder}
use Rattle.b2_machine.specs.declared.statements.Builder.TheVariants as builder

stay : (g : Globals) → MayBecome g g
stay g = record { unreached = λ h. refl; absent = λ h. refl; there = refl }

-- where an access is planned they are as they were
whatever_planned : (x : Planned) (before after : Globals) → ReachedUnlessAsks before after x → MayBecome before after
whatever_planned (planned.Done o) before after h = h
whatever_planned (planned.Ask a) before after same = subst (λ (g : Globals). MayBecome before g) (sym same) (stay before)

listed : (b : Bool) (range : ℕ × ℕ) (me : Private) (s : SeenLent) → MayBecome s.globals (lists b range me s).globals
listed true range me s = stay s.globals
listed false range me s = stay s.globals

module _ (ways : Ways) (lawful : AreLawful ways) where
  pub plan_becomes : (b : Builder) (p : Place) (me : Private) (s : SeenLent) → MayBecome s.globals (plan_by ways b p me s).globals
  plan_becomes (builder.Listing from to) p me s = listed (is_some p.line) (from, to) me s
  plan_becomes (builder.Language r) p me s = let x = ways.plan r me s in whatever_planned x.planned s.globals x.globals ((lawful.leave_the_rest r).plans_reach me s)
  plan_becomes builder.Nobody p me s = stay s.globals

  left_becomes : (u : Option Statement) (p : Place) (me : Private) (s : SeenLent) → MayBecome s.globals (left_where ways u p me s)
  left_becomes None p me s = stay s.globals
  left_becomes (Some u) p me s = plan_becomes (builder_of ways u) p me s

  pub leaves_become : (p : Place) (me : Private) (s : SeenLent) → MayBecome s.globals (leaves ways p me s)
  leaves_become p me s = left_becomes (statement_placed p me.immediate s.home.lines) p me s

  pub finishes_become : (b : Builder) (x : Access) (a : Answer) (me : Private) (s : SeenLent) → MayBecome s.globals (finish_by ways b x a me s).globals
  finishes_become (builder.Listing from to) x a me s = stay s.globals
  finishes_become (builder.Language r) x a me s = ((lawful.leave_the_rest r).finishes_reach x a me s).0
  finishes_become builder.Nobody x a me s = stay s.globals
