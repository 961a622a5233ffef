-- The drive of a statement: the platter that it names or else the one that is selected, which the partition must be free to use.
use Rattle.std.specs.Prelude.{ℕ, Bool, ◌==◌, List, [], drop, Option, Some, None, Result, Ok, Err, if◌then◌else◌}
use Rattle.b2_base.specs.Byte as byte
use Rattle.b2_base.specs.Lexical.{first}
use Rattle.b2_base.specs.declared.codes.TheConstants.{P48_DEVICE}
use Rattle.b2_atom.specs.Tokens.Token.{Plain}
use Rattle.b2_atom.specs.Tree.{Trees}
use Rattle.b2_atom.specs.Tree.Trees.{Put, In}
use Rattle.b2_atom.specs.Words.{Text}
use Rattle.b2_atom.specs.declared.forms.Leaf.TheVariants as leaf
use Rattle.b2_rows.specs.Leaves.{leaf_bytes}
use Rattle.b2_access.specs.Devices.{is_platter_for}
use Rattle.b2_access.specs.declared.devices.Device.{Device}
use Rattle.b2_access.specs.declared.private.Private.{Private}
use Rattle.b2_drive.specs.declared.drives.Drives.{Drives}

-- the platters that a table lists for a partition
abbrev pub platters_for : ℕ → List Device → List ℕ → Bool
platters_for who devices a = is_platter_for who a devices

-- what a drive goes by: which platters are listed for the partition that asks, and the one that it has selected
pub record DrivesSeen : Type 0 where
  pub listed : List ℕ → Bool
  pub selected : Option (List ℕ)

abbrev pub drives_seen : Drives → DrivesSeen
drives_seen d = record { listed = platters_for d.who d.devices.now; selected = d.selected }

abbrev pub drives_by : (List ℕ → Bool) → Private → DrivesSeen
drives_by listed me = record { listed = listed; selected = me.disk }

abbrev pub drives_of : List Device → Private → DrivesSeen
drives_of devices me = drives_by (platters_for me.part devices) me

-- a platter that the partition may use; P48 where none is meant, and where the table doesn't list it as such
abbrev pub platter_used : DrivesSeen → Option (List ℕ) → Result (List ℕ) ℕ
platter_used d None = Err P48_DEVICE
platter_used d (Some a) = if d.listed a then Ok a else Err P48_DEVICE

-- the address that a device is written with, and the one that a drive names after its `T/`; `T` alone names none
abbrev pub address_in : Trees → List ℕ
address_in (Put slash (Put (Plain k address) end)) = address
address_in (In n device comma) = address_in device
address_in t = []

abbrev pub device_named : Trees → Option (List ℕ)
device_named (In n (Put letter (In m device end)) more) = if m == 1 then Some (address_in device) else None
device_named t = None

-- a drive that names none means the platter that is selected
abbrev pub platter_meant : Option (List ℕ) → Option (List ℕ) → Option (List ℕ)
platter_meant (Some a) selected = Some a
platter_meant None selected = selected

abbrev pub drive_used : DrivesSeen → Trees → Result (List ℕ) ℕ
drive_used d t = platter_used d (platter_meant (device_named t) d.selected)

-- the device that a drive names, by its bytes
abbrev pub device_at : Text → Option (List ℕ)
device_at t = if first (drop 1 t) == byte.slash then Some (leaf_bytes leaf.Address (drop 1 (drop 1 t))) else None

-- SELECT DISK: the platter that is written is selected from then on, if the partition may use it
abbrev pub address_selected : Trees → Option (List ℕ)
address_selected (Put select (Put disk (Put (Plain k address) end))) = Some address
address_selected t = None

abbrev pub selects : DrivesSeen → Trees → Result (List ℕ) ℕ
selects d t = platter_used d (address_selected t)
