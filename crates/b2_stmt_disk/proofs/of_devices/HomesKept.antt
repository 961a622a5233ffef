-- Where a statement that takes or frees devices leads is at home, and what it asks for marks no home.
use Rattle.std.proofs.Common.{ℕ, ◌==◌, Bool, List, Option, Some, None, subst}
use Rattle.b2_flow.specs.declared.frame.Place.{Place}
use Rattle.b2_text.specs.Program.{Lines, line_at}
use Rattle.b2_atom.specs.declared.rows.TheConstants as row
use Rattle.b2_access.specs.Homes.{Naming, OutcomeNamed, PlaceNamed, PlannedNamed}
use Rattle.b2_access.specs.Lending.{SeenLent}
use Rattle.b2_access.specs.Places.{line_start}
use Rattle.b2_access.specs.Views.{TakingCame, DevicesTaken, DeviceBusy, TakingLater, devices_freed, taking_came}
use Rattle.b2_access.specs.Working.{LeadsWithin, PlansEachWithin}
use Rattle.b2_access.specs.declared.accesses.Access.{Access}
use Rattle.b2_access.specs.declared.accesses.Answer.{Answer}
use Rattle.b2_access.specs.declared.devices.Device.{Device}
use Rattle.b2_access.specs.declared.planned.Outcome.{Outcome}
use Rattle.b2_access.specs.declared.private.Private.{Private}
use Rattle.b2_access.proofs.Choice.{either}
use Rattle.b2_access.proofs.Dispatch.{each_dispatch}
use Rattle.b2_access.proofs.Homes.{lined}
use Rattle.b2_drive.proofs.Asked.{marks_no_home}
use Rattle.b2_stmt_disk.specs.devices.Freeing.{goes_freed}
use Rattle.b2_stmt_disk.specs.devices.Plan.{ends, goes, is_refused, repeats, works}
use Rattle.b2_stmt_disk.specs.devices.Taking.{goes_taken, goes_where_busy, line_if_busy}
use Rattle.b2_stmt_disk.proofs.of_devices.Planned.{each_planned}

module _ (among : Naming) where
  busy_in : (line : Option ℕ) (lines : Lines) (p : Place) → PlaceNamed among (Some p) → OutcomeNamed among (goes_where_busy line lines p)
  busy_in None lines p k = tt
  busy_in (Some n) lines p k = lined among (line_at n lines) (line_start p n) (among.lines p n k)

  taking_in : (c : TakingCame) (line : Option ℕ) (lines : Lines) (p : Place) → PlaceNamed among (Some p) → OutcomeNamed among (goes_taken c line lines p)
  taking_in (DevicesTaken addrs) line lines p k = tt
  taking_in DeviceBusy line lines p k = busy_in line lines p k
  taking_in TakingLater line lines p k = tt

  freeing_in : (o : Option (List (List ℕ))) → OutcomeNamed among (goes_freed o)
  freeing_in None = tt
  freeing_in (Some addrs) = tt

  place_in : (x : Access) (a : Answer) (me : Private) (s : SeenLent) → PlaceNamed among me.place → OutcomeNamed among (ends x a me s).outcome
  place_in x a me s k =
      let F : Outcome → Type 0 = OutcomeNamed among in
      each_dispatch is_refused repeats (goes x a s) me s F tt tt
      (λ p is u. either F (u.row == row.OPEN) _ _ (taking_in (taking_came x a) (line_if_busy u.tree) s.home.lines p (subst (λ (o : Option Place). PlaceNamed among o) is k))
      (either F (u.row == row.CLOSE) _ _ (freeing_in (devices_freed x a)) tt))

pub plans_within : (devices : List Device) → PlansEachWithin (works devices)
plans_within devices among me s k =
    each_planned devices me s (PlannedNamed among) tt tt (λ code. tt) (λ a fits. marks_no_home devices me.part among.part a fits)

pub leads_within : LeadsWithin ends
leads_within among x a me s k = place_in among x a me s k
