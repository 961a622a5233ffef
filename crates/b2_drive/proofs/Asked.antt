-- What statements on disks ask for: accesses that name no terminal and mark no home, at platters that the partition may use.
use Rattle.std.proofs.Common.{◌≡◌, ℕ, Bool, true, false, if◌then◌else◌, List, [], Option, Some, None, Result, Ok, Err, refl}
use Rattle.b2_base.specs.Names.{is_name8, padded8}
use Rattle.b2_base.specs.declared.codes.TheConstants.{D87_FILE_NAME, P48_DEVICE}
use Rattle.b2_atom.specs.Tree.{Trees}
use Rattle.b2_expr.specs.Answers.{◌>>=◌, TextAnswer, or_code}
use Rattle.b2_expr.specs.Scope.{Context}
use Rattle.b2_expr.specs.Value.{text}
use Rattle.b2_access.specs.Causes.{terminal_of}
use Rattle.b2_access.specs.Homes.{HomesIn, homes_of}
use Rattle.b2_access.specs.OwnDevices.{ReachesListed}
use Rattle.b2_access.specs.OwnTerminal.{NamesAlone}
use Rattle.b2_access.specs.Touching.{IsLegal, IsName}
use Rattle.b2_access.specs.declared.accesses.Access.{Access}
use Rattle.b2_access.specs.declared.accesses.Access.TheVariants as access
use Rattle.b2_access.specs.declared.devices.Device.{Device}
use Rattle.b2_access.specs.declared.planned.Outcome.TheVariants as outcome
use Rattle.b2_access.specs.declared.planned.Planned.{Planned}
use Rattle.b2_access.specs.declared.planned.Planned.TheVariants as planned
use Rattle.b2_access.proofs.Homes.{marks_none}
use Rattle.b2_access.proofs.Named.{padded-is_name}
use Rattle.b2_access.proofs.OwnTerminal.{names_none}
use Rattle.b2_drive.specs.Asking.{asks_or_fails}
use Rattle.b2_drive.specs.Drives.{DrivesSeen, device_named, drive_used, platter_meant, platter_used}
use Rattle.b2_drive.specs.FileNames.{file_name, name_given}

-- WHICH KINDS OF ACCESSES statements on disks, on programs and on devices ask for
abbrev pub is_of_drives : Access → Bool
is_of_drives (access.OpenDevices addrs) = true
is_of_drives (access.CloseDevices addrs) = true
is_of_drives (access.Limits addr name) = true
is_of_drives (access.ListDisk addr) = true
is_of_drives (access.Scratch addr name) = true
is_of_drives (access.Format addr index end) = true
is_of_drives (access.SaveProgram addr old name from to) = true
is_of_drives (access.LoadProgram addr name replace declared homes) = true
is_of_drives (access.MovePlatter from to) = true
is_of_drives (access.MoveFile from name to) = true
is_of_drives a = false

-- an access of these kinds that reaches devices that are listed for a partition, names no terminal, marks no home, and may be asked for
pub record Fits (devices : List Device) (who : ℕ) (a : Access) : Type 0 where
  pub listed : ReachesListed devices who a
  pub terminal : terminal_of a ≡ None
  pub homes : homes_of a ≡ []
  pub legal : IsLegal a
  pub kind : is_of_drives a ≡ true

pub names_no_terminal : (devices : List Device) (who t : ℕ) (a : Access) → Fits devices who a → NamesAlone t a
names_no_terminal devices who t a fits = names_none t a (Fits.terminal fits)

pub marks_no_home : (devices : List Device) (who : ℕ) (among : ℕ → Bool) (a : Access) → Fits devices who a → HomesIn among a
marks_no_home devices who among a fits = marks_none among a (Fits.homes fits)

-- What holds of each refusal, and of each access that fits, holds of what is asked for after a drive.
module _ (F : Planned → Type 0) (d : DrivesSeen) (failed : (code : ℕ) → F (planned.Done (outcome.Failed code))) where
  abbrev pub Asked : Result Access ℕ → Type 0
  Asked r = F (asks_or_fails r)

  at_platter : (b : Bool) (a : List ℕ) (next : List ℕ → Result Access ℕ) → d.listed a ≡ b → ((x : List ℕ) → d.listed x ≡ true → Asked (next x))
      → Asked ((if b then Ok a else Err P48_DEVICE) >>= next)
  at_platter true a next is h = h a is
  at_platter false a next is h = failed P48_DEVICE

  pub after_platter : (o : Option (List ℕ)) (next : List ℕ → Result Access ℕ) → ((x : List ℕ) → d.listed x ≡ true → Asked (next x)) → Asked (platter_used d o >>= next)
  after_platter None next h = failed P48_DEVICE
  after_platter (Some a) next h = at_platter (d.listed a) a next refl h

  pub after_drive : (t : Trees) (next : List ℕ → Result Access ℕ) → ((x : List ℕ) → d.listed x ≡ true → Asked (next x)) → Asked (drive_used d t >>= next)
  after_drive t next h = after_platter (platter_meant (device_named t) d.selected) next h

  pub after_value : {A : Type 0} (r : Result A ℕ) (next : A → Result Access ℕ) → ((x : A) → Asked (next x)) → Asked (r >>= next)
  after_value (Ok x) next h = h x
  after_value (Err code) next h = failed code

  -- a name
  name_by : (b : Bool) (bytes : List ℕ) (next : List ℕ → Result Access ℕ) → is_name8 bytes ≡ b → ((x : List ℕ) → IsName x → Asked (next x)) → Asked (or_code D87_FILE_NAME (if b then Some (padded8 bytes) else None) >>= next)
  name_by true bytes next is h = h (padded8 bytes) (padded-is_name bytes is)
  name_by false bytes next is h = failed D87_FILE_NAME

  after_text : (r : TextAnswer) (next : List ℕ → Result Access ℕ) → ((x : List ℕ) → IsName x → Asked (next x)) → Asked ((r >>= file_name) >>= next)
  after_text (Ok bytes) next h = name_by (is_name8 bytes) bytes next refl h
  after_text (Err code) next h = failed code

  pub after_name : (e : Context) (t : Trees) (next : List ℕ → Result Access ℕ) → ((x : List ℕ) → IsName x → Asked (next x)) → Asked (name_given e t >>= next)
  after_name e t next h = after_text (text e t) next h
