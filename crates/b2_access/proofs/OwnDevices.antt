-- Accesses that reach a disk and nothing else: they name no terminal and mark no home; and the disk is listed where the table lists it.
use Rattle.std.specs.Prelude.{◌≡◌, ℕ, Bool, true, List, [], refl}
use Rattle.std.proofs.Common.{ap, subst, sym}
use Rattle.b2_access.specs.AccessRows.{reach}
use Rattle.b2_access.specs.Devices.{is_platter_for}
use Rattle.b2_access.specs.Homes.{HomesIn, homes_of}
use Rattle.b2_access.specs.OwnDevices.{AreListed, IsAtDisk, ReachesListed}
use Rattle.b2_access.specs.OwnTerminal.{NamesAlone}
use Rattle.b2_access.specs.Reach.{DeviceReach, Reach, at_disk}
use Rattle.b2_access.specs.declared.accesses.Access.{Access}
use Rattle.b2_access.specs.declared.accesses.Access.TheVariants as access
use Rattle.b2_access.specs.declared.devices.Device.{Device}
use Rattle.b2_access.proofs.Homes.{marks_none}
use Rattle.b2_access.proofs.OwnTerminal.{names_none}

pub at_disk_names_none : (t : ℕ) (addr : List ℕ) (a : Access) → IsAtDisk addr a → NamesAlone t a
at_disk_names_none t addr a is = names_none t a (ap (λ (r : Reach). r.terminal) is)

devices_are : (addr : List ℕ) (a : Access) → IsAtDisk addr a → (reach a).devices ≡ (at_disk addr).devices
devices_are addr a is = ap (λ (r : Reach). r.devices) is

homes_none : (addr : List ℕ) (a : Access) → IsAtDisk addr a → homes_of a ≡ []
homes_none addr a is = ap (λ (r : Reach). r.borrowers) is

pub at_disk_marks_none : (among : ℕ → Bool) (addr : List ℕ) (a : Access) → IsAtDisk addr a → HomesIn among a
at_disk_marks_none among addr a is = marks_none among a (homes_none addr a is)

pub at_disk_is_listed : (devices : List Device) (who : ℕ) (addr : List ℕ) (a : Access) → is_platter_for who addr devices ≡ true → IsAtDisk addr a → ReachesListed devices who a
at_disk_is_listed devices who addr a listed is = subst (λ (ds : List DeviceReach). AreListed devices who ds) (sym (devices_are addr a is)) (listed, tt)
