-- A statement leaves the place at which it stands, and keeps a place for CONTINUE only where it ends the program; and few statements
-- change which files are open or which devices are held.
use Rattle.std.specs.Prelude.{◌≡◌, None, ◌⊎◌}
use Rattle.b2_access.specs.Lending.{SeenLent}
use Rattle.b2_access.specs.Planning.{Finishing, Planning}
use Rattle.b2_access.specs.declared.accesses.Access.{Access}
use Rattle.b2_access.specs.declared.accesses.Answer.{Answer}
use Rattle.b2_access.specs.declared.planned.Outcome.TheVariants as outcome
use Rattle.b2_access.specs.declared.planned.Planned.TheVariants as planned
use Rattle.b2_access.specs.declared.private.Private.{Private}

-- a way of planning, and one of finishing, leave the place of the partition: it moves by their outcome
abbrev pub PlansInPlace : (Private → SeenLent → Planning) → Type 0
PlansInPlace plan = (me : Private) (s : SeenLent) → (plan me s).me.place ≡ me.place

abbrev pub FinishesInPlace : (Access → Answer → Private → SeenLent → Finishing) → Type 0
FinishesInPlace finish = (x : Access) (a : Answer) (me : Private) (s : SeenLent) → (finish x a me s).me.place ≡ me.place

-- and where no place is kept, they keep none, or the partition is then ready
abbrev pub PlansKeepNone : (Private → SeenLent → Planning) → Type 0
PlansKeepNone plan = (me : Private) (s : SeenLent) → me.kept ≡ None → ((plan me s).me.kept ≡ None) ⊎ ((plan me s).planned ≡ planned.Done outcome.Ready)

abbrev pub FinishesKeepNone : (Access → Answer → Private → SeenLent → Finishing) → Type 0
FinishesKeepNone finish =
    (x : Access) (a : Answer) (me : Private) (s : SeenLent) → me.kept ≡ None → ((finish x a me s).me.kept ≡ None) ⊎ ((finish x a me s).outcome ≡ outcome.Ready)

-- the files that it has open stay open at their places, with the partition that it is
abbrev pub PlansKeepFiles : (Private → SeenLent → Planning) → Type 0
PlansKeepFiles plan = (me : Private) (s : SeenLent) → ((plan me s).me.part ≡ me.part) × ((plan me s).me.slots ≡ me.slots)

abbrev pub FinishesKeepFiles : (Access → Answer → Private → SeenLent → Finishing) → Type 0
FinishesKeepFiles finish = (x : Access) (a : Answer) (me : Private) (s : SeenLent) → ((finish x a me s).me.part ≡ me.part) × ((finish x a me s).me.slots ≡ me.slots)

-- the devices that it has taken stay held by it
abbrev pub PlansKeepHeld : (Private → SeenLent → Planning) → Type 0
PlansKeepHeld plan = (me : Private) (s : SeenLent) → ((plan me s).me.part ≡ me.part) × ((plan me s).me.held ≡ me.held)

abbrev pub FinishesKeepHeld : (Access → Answer → Private → SeenLent → Finishing) → Type 0
FinishesKeepHeld finish = (x : Access) (a : Answer) (me : Private) (s : SeenLent) → ((finish x a me s).me.part ≡ me.part) × ((finish x a me s).me.held ≡ me.held)
