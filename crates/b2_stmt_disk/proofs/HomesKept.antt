-- Where a statement on disks leads is at no other place, and what it asks for marks no home.
use Rattle.std.proofs.Common.{ℕ, Bool, List, Option, Some, None}
use Rattle.b2_atom.specs.Tree.{Trees}
use Rattle.b2_access.specs.Disks.{FourNumbers}
use Rattle.b2_access.specs.Homes.{Naming, OutcomeNamed, PlannedNamed}
use Rattle.b2_access.specs.Lending.{SeenLent}
use Rattle.b2_access.specs.Views.{ChangeCame, DiskChanged, ChangeRefused, ChangeLater, change_came, limits_told, listing_told}
use Rattle.b2_access.specs.Working.{LeadsWithin, PlansEachWithin, Worked}
use Rattle.b2_access.specs.declared.accesses.Access.{Access}
use Rattle.b2_access.specs.declared.accesses.Answer.{Answer}
use Rattle.b2_access.specs.declared.devices.Device.{Device}
use Rattle.b2_access.specs.declared.private.Private.{Private}
use Rattle.b2_access.proofs.Dispatch.{each_dispatch}
use Rattle.b2_access.proofs.Homes.{next_or_fails}
use Rattle.b2_drive.specs.Asking.{change_ends}
use Rattle.b2_drive.proofs.Asked.{marks_no_home}
use Rattle.b2_stmt_disk.specs.Limits.{limits_end}
use Rattle.b2_stmt_disk.specs.Listing.{listing_ends}
use Rattle.b2_stmt_disk.specs.Plan.{ends, finishes, is_refused, repeats, works}
use Rattle.b2_stmt_disk.proofs.Planned.{each_ended, each_planned}

module _ (among : Naming) where
  Leads : Worked → Type 0
  Leads w = OutcomeNamed among w.outcome

  limits_in : (o : Option FourNumbers) (t : Trees) (me : Private) (s : SeenLent) → Leads (limits_end o t me s)
  unfolding Leads
  limits_in None t me s = tt
  limits_in (Some n) t me s = next_or_fails among _

  change_in : (c : ChangeCame) → OutcomeNamed among (change_ends c)
  change_in DiskChanged = tt
  change_in (ChangeRefused code) = tt
  change_in ChangeLater = tt

  listing_in : (o : Option (List ℕ)) (me : Private) → Leads (listing_ends o me)
  unfolding Leads
  listing_in None me = tt
  listing_in (Some bytes) me = tt

  place_in : (x : Access) (a : Answer) (me : Private) (s : SeenLent) → Leads (ends x a me s)
  unfolding Leads
  place_in x a me s =
      each_dispatch is_refused (repeats me) (finishes x a me s) me s Leads tt tt
      (λ p is u. each_ended Leads x a me s (λ t. limits_in (limits_told x a) t me s) (change_in (change_came x a)) (listing_in (listing_told x a) me) tt u)

pub plans_within : (devices : List Device) → PlansEachWithin (works devices)
plans_within devices among me s k =
    each_planned devices me s (PlannedNamed among) tt tt (λ code. tt) (λ a fits stays. marks_no_home devices me.part among.part a fits)

pub leads_within : LeadsWithin ends
unfolding Leads
leads_within among x a me s k = place_in among x a me s
