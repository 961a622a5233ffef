-- SELECT PRINT: PRINT shows at that device from then on, and there at the column 0; or it fails with a code.
use Rattle.std.specs.Prelude.{ℕ, ◌||◌, Bool, List, Option, Some, None, Result, Ok, Err, if◌then◌else◌}
use Rattle.std.specs.Str.{bytes_eq}
use Rattle.b2_base.specs.declared.codes.TheConstants.{P48_DEVICE}
use Rattle.b2_atom.specs.Tree.{Trees}
use Rattle.b2_access.specs.Devices.{is_printer_for}
use Rattle.b2_access.specs.Partition.{terminal_address}
use Rattle.b2_access.specs.Working.{Worked, leaves, work_of}
use Rattle.b2_access.specs.declared.devices.Device.{Device}
use Rattle.b2_access.specs.declared.planned.Outcome.TheVariants as outcome
use Rattle.b2_access.specs.declared.private.Private.{Private}
use Rattle.b2_drive.specs.Drives.{address_selected}

-- PRINT may show at the terminal, and at a printer that the partition may use
abbrev pub shows_at : List Device → ℕ → List ℕ → Bool
shows_at devices who a = bytes_eq a terminal_address || is_printer_for who a devices

abbrev pub device_if_shown : List Device → ℕ → Option (List ℕ) → Result (List ℕ) ℕ
device_if_shown devices who None = Err P48_DEVICE
device_if_shown devices who (Some a) = if shows_at devices who a then Ok a else Err P48_DEVICE

-- the device that is written
abbrev pub device_selected : List Device → ℕ → Trees → Result (List ℕ) ℕ
device_selected devices who t = device_if_shown devices who (address_selected t)

abbrev pub selected : Result (List ℕ) ℕ → Private → Worked
selected (Ok a) me = record { work = record (work_of me) { print = a; print_column = 0 }; outcome = outcome.Next }
selected (Err code) me = leaves me (outcome.Failed code)
