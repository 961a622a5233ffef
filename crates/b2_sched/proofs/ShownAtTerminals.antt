-- What waits to be shown at a partition of a world that a boot leads to is for its terminal.
use Rattle.std.specs.Prelude.{◌≡◌, ℕ, ◌==◌, Bool, true, false, cond, List, [], ◌∷◌, map, Option, Some, None, is_some, refl}
use Rattle.std.proofs.Common.{ap, inl, subst}
use Rattle.b2_access.specs.Loans.{lends}
use Rattle.b2_access.specs.Partition.{greeting}
use Rattle.b2_access.specs.Pending.{IsForListed, IsForTerminal, PendingOutput}
use Rattle.b2_access.specs.Rows.{row_of}
use Rattle.b2_access.specs.Serving.{itself}
use Rattle.b2_access.specs.declared.devices.Device.{Device}
use Rattle.b2_access.specs.declared.private.Private.{Private}
use Rattle.b2_boot.specs.declared.boot.BootPartition.{BootPartition}
use Rattle.b2_machine.proofs.StepOutput.{turn_shows}
use Rattle.b2_store.specs.DiskWork.{serves}
use Rattle.b2_sched.proofs.EachRow.{EachIs, IsKept}
use Rattle.b2_sched.proofs.GroupRows.{is_it}
use Rattle.b2_sched.specs.Choice.{basic}
use Rattle.b2_sched.specs.Lawful.{basic_is_lawful}
use Rattle.b2_sched.specs.Start.{private_row, starting_line}

abbrev pub ShowsAtTerminal : ℕ → Private → Type 0
ShowsAtTerminal p me = IsForTerminal me.pending

-- what is for the terminal is for a device that is listed, or for none
pub for_listed : (devices : List Device) (who : ℕ) (x : PendingOutput) → IsForTerminal x → IsForListed devices who x
for_listed devices who None h = tt
for_listed devices who (Some waiting) h = inl h

-- at the start of a boot
greets : (line : Option (List ℕ)) → IsForTerminal (greeting line)
greets None = refl
greets (Some line) = tt

first_by : (x : BootPartition) (xs : List BootPartition) (p : ℕ) (me : Private) → (row_of p (map private_row xs) ≡ Some me → ShowsAtTerminal p me) → (b : Bool)
    → cond b (Some (private_row x).1) (row_of p (map private_row xs)) ≡ Some me → ShowsAtTerminal p me
first_by x xs p me later true is = subst (ShowsAtTerminal p) (is_it (private_row x).1 me is) (greets (starting_line x.program))
first_by x xs p me later false is = later is

pub booted_shows : (ps : List BootPartition) → EachIs ShowsAtTerminal (map private_row ps)
booted_shows [] p me is = let clash : false ≡ true = ap (λ (o : Option Private). is_some o) is in cc
booted_shows (x ∷ xs) p me is = first_by x xs p me (booted_shows xs p me) (x.number == p) is

-- and whatever happens
pub always_shows : IsKept ShowsAtTerminal
always_shows = record {
  halt = λ p me h. h;
  reset = λ p me h. h;
  turn = λ devices p n me s h. turn_shows (basic devices) (basic_is_lawful devices) itself serves lends n me s h;
}
