use Rattle.std.proofs.Common.{ℕ, Result, Ok, Err, IfOk, sym, subst}
use Rattle.b2_boot.specs.Boots.{IsGood}
use Rattle.b2_boot.proofs.DrillLaws.{drills_are_good}
use Rattle.b2_mvp.specs.Inputs.{AreOfDrill}
use Rattle.b2_mvp.specs.declared.inputs.Inputs.{Inputs}
use Rattle.b2_status.specs.declared.status.Status.{Status}
use Rattle.b2_mvp.proofs.inputs.read_inputs.Goals as goal

-- the boot of a drill is good
drill_good : (n : ℕ) (r : Result Inputs Status) → IfOk r (λ inputs. AreOfDrill n inputs.boot inputs.events.items) → IfOk r (λ inputs. IsGood inputs.boot)
drill_good n (Ok inputs) h = subst IsGood (sym h.boot_is) (drills_are_good n h.few)
drill_good n (Err status) h = tt

pub returns-in-Drill-clause-good : goal.returns-in-Drill-clause-good
returns-in-Drill-clause-good g c = drill_good c.in-Drill.n c.drill_inputs.result c.drill_inputs.ensures.ok
