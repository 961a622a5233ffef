-- A statement that has to wait leaves the partition as it was.
use Rattle.std.specs.Prelude.{◌≡◌, true}
use Rattle.b2_access.specs.AnswerKinds.{delays}
use Rattle.b2_access.specs.Lending.{SeenLent}
use Rattle.b2_access.specs.Planning.{Finishing, Planning}
use Rattle.b2_access.specs.declared.accesses.Access.{Access}
use Rattle.b2_access.specs.declared.accesses.Answer.{Answer}
use Rattle.b2_access.specs.declared.planned.Planned.{Planned}
use Rattle.b2_access.specs.declared.planned.Planned.TheVariants as planned
use Rattle.b2_access.specs.declared.private.Private.{Private}

-- where an access is planned, nothing has changed yet
abbrev pub UnchangedIfAsks : Private → Private → Planned → Type 0
UnchangedIfAsks me after (planned.Done o) = Unit {0}
UnchangedIfAsks me after (planned.Ask x) = after ≡ me

abbrev pub PlansBeforeChanges : (Private → SeenLent → Planning) → Type 0
PlansBeforeChanges plan = (me : Private) (s : SeenLent) → UnchangedIfAsks me (plan me s).me (plan me s).planned

-- and nothing changes by an answer that delays it
abbrev pub FinishesUnchanged : (Access → Answer → Private → SeenLent → Finishing) → Type 0
FinishesUnchanged finish = (x : Access) (a : Answer) (me : Private) (s : SeenLent) → delays a ≡ true → (finish x a me s).me ≡ me
