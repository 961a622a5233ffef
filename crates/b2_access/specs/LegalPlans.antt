-- What is planned may be asked for.
use Rattle.b2_access.specs.Lending.{SeenLent}
use Rattle.b2_access.specs.Planning.{Planning}
use Rattle.b2_access.specs.Touching.{IsLegal}
use Rattle.b2_access.specs.declared.planned.Planned.{Planned}
use Rattle.b2_access.specs.declared.planned.Planned.TheVariants as planned
use Rattle.b2_access.specs.declared.private.Private.{Private}

abbrev pub IsLegalPlan : Planned → Type 0
IsLegalPlan (planned.Done o) = Unit {0}
IsLegalPlan (planned.Ask a) = IsLegal a

abbrev pub PlansLegally : (Private → SeenLent → Planning) → Type 0
PlansLegally plan = (me : Private) (s : SeenLent) → IsLegalPlan (plan me s).planned
