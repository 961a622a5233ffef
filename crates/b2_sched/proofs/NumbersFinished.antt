-- What a statement puts back as it finishes holds numbers, by its form.
use Rattle.b2_access.specs.Lending.{SeenLent}
use Rattle.b2_access.specs.Working.{Worked, finishes_by}
use Rattle.b2_access.specs.declared.accesses.Access.{Access}
use Rattle.b2_access.specs.declared.accesses.Answer.{Answer}
use Rattle.b2_access.specs.declared.private.Private.{Private}
use Rattle.b2_sched.proofs.NumbersPut.{PutHolds, after_holds}
use Rattle.b2_sched.specs.Numbers.{FinishingHolds, GlobalsHold}

-- of a statement that has ended
abbrev pub WorkedHolds : Worked → Type 0
WorkedHolds w = PutHolds w.work

pub finished_holds : (way : Access → Answer → Private → SeenLent → Worked) (x : Access) (a : Answer) (me : Private) (s : SeenLent) → GlobalsHold s.globals → WorkedHolds (way x a me s) → FinishingHolds (finishes_by way x a me s)
finished_holds way x a me s g k = ((k.0, k.2), after_holds (way x a me s).work.globals s.globals k.1 g)
