-- A statement changes the `@` variables only where it reaches a receiver among them, and nothing of them before it has its answer.
use Rattle.std.specs.Prelude.{◌≡◌, true}
use Rattle.b2_vars.specs.Globals.{Globals, MayBecome}
use Rattle.b2_access.specs.AnswerKinds.{delays}
use Rattle.b2_access.specs.Lending.{SeenLent}
use Rattle.b2_access.specs.Planning.{Finishing, Planning}
use Rattle.b2_access.specs.declared.accesses.Access.{Access}
use Rattle.b2_access.specs.declared.accesses.Answer.{Answer}
use Rattle.b2_access.specs.declared.planned.Planned.{Planned}
use Rattle.b2_access.specs.declared.planned.Planned.TheVariants as planned
use Rattle.b2_access.specs.declared.private.Private.{Private}

-- where an access is planned, they are as they were
abbrev pub ReachedUnlessAsks : Globals → Globals → Planned → Type 0
ReachedUnlessAsks before after (planned.Done o) = MayBecome before after
ReachedUnlessAsks before after (planned.Ask x) = after ≡ before

abbrev pub PlansReach : (Private → SeenLent → Planning) → Type 0
PlansReach plan = (me : Private) (s : SeenLent) → ReachedUnlessAsks s.globals (plan me s).globals (plan me s).planned

-- and so they are after an answer that delays it
abbrev pub FinishesReach : (Access → Answer → Private → SeenLent → Finishing) → Type 0
FinishesReach finish =
    (x : Access) (a : Answer) (me : Private) (s : SeenLent) → MayBecome s.globals (finish x a me s).globals × (delays a ≡ true → (finish x a me s).globals ≡ s.globals)
