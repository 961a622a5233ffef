-- What an access reaches, and the objects that these are for a partition that asks.
use Rattle.std.specs.Prelude.{ℕ, Bool, true, false, List, [], ◌∷◌, ◌++◌, map, Option, Some, None}
use Rattle.b2_access.specs.Borrowers.{homes_marked}
use Rattle.b2_access.specs.declared.objects.Object.{Object}
use Rattle.b2_access.specs.declared.objects.Object.TheVariants as object
use Rattle.b2_access.specs.declared.reached.Devices.{Devices}
use Rattle.b2_access.specs.declared.reached.Devices.TheVariants as devices
use Rattle.b2_access.specs.declared.reached.Reached.{Reached}
use Rattle.b2_access.specs.declared.reached.DevicesWritten.{DevicesWritten}
use Rattle.b2_access.specs.declared.reached.DevicesWritten.TheVariants as written
use Rattle.b2_access.specs.declared.reached.Written.{Written}
use Rattle.b2_access.specs.declared.reached.TextUse.{TextUse}
use Rattle.b2_access.specs.declared.reached.TextUse.TheVariants as text

-- what is reached of a device: who holds it, and that alone, to take it or to free it, or with its platter or its printer
pub data DevicePart : Type 0 where
  HoldTaken : DevicePart
  HoldFreed : DevicePart
  WithPlatter : DevicePart
  WithPrinter : DevicePart

pub record DeviceReach : Type 0 where
  pub address : List ℕ
  pub part : DevicePart

-- A terminal, the own text, the own `@` variables, those who stand inside some texts, devices in the order written, a name by which a
-- text is entered, with the text of who holds it and those who stand inside that, and names.
pub record Reach : Type 0 where
  pub terminal : Option ℕ
  pub text : TextUse
  pub variables : Bool
  pub borrowers : List ℕ
  pub devices : List DeviceReach
  pub entered : Option (List ℕ)
  pub names : List (List ℕ)

abbrev pub nothing : Reach
nothing = record { terminal = None; text = text.Unused; variables = false; borrowers = []; devices = []; entered = None; names = [] }

abbrev pub at_terminal : ℕ → Reach
at_terminal term = record nothing { terminal = Some term }

-- a platter, and who holds it
abbrev pub disk : List ℕ → DeviceReach
disk address = record { address = address; part = WithPlatter }

abbrev pub at_disk : List ℕ → Reach
at_disk address = record nothing { devices = disk address ∷ [] }

-- two platters
abbrev pub at_disks : List ℕ → List ℕ → Reach
at_disks from to = record nothing { devices = disk from ∷ disk to ∷ [] }

-- a printer, and who holds it
abbrev pub printer : List ℕ → DeviceReach
printer address = record { address = address; part = WithPrinter }

abbrev pub at_printer : List ℕ → Reach
at_printer address = record nothing { devices = printer address ∷ [] }

-- those who hold some devices, which are taken, or freed
abbrev pub hold_taken : List ℕ → DeviceReach
hold_taken address = record { address = address; part = HoldTaken }

abbrev pub hold_freed : List ℕ → DeviceReach
hold_freed address = record { address = address; part = HoldFreed }

abbrev pub to_take : List (List ℕ) → Reach
to_take addresses = record nothing { devices = map hold_taken addresses }

abbrev pub to_free : List (List ℕ) → Reach
to_free addresses = record nothing { devices = map hold_freed addresses }

-- names: one, and another where there is one
abbrev pub if_any : Option (List ℕ) → List (List ℕ)
if_any None = []
if_any (Some name) = name ∷ []

abbrev pub objects_named : Option (List ℕ) → List Object
objects_named name = map object.Name (if_any name)

abbrev pub at_names : List (List ℕ) → Reach
at_names names = record nothing { names = names }

-- the devices, as a value of the program says them
abbrev pub devices_of : Devices → List DeviceReach
devices_of devices.NoDevice = []
devices_of (devices.Disk address) = disk address ∷ []
devices_of (devices.TwoDisks from to) = disk from ∷ disk to ∷ []
devices_of (devices.Printer address) = printer address ∷ []
devices_of (devices.Taken addresses) = map hold_taken addresses.now
devices_of (devices.Freed addresses) = map hold_freed addresses.now

-- the own text, which is edited, and those who stand inside the texts that are given back for that
abbrev pub own_text : ℕ → Reach
own_text homes = record nothing { text = text.Edited; borrowers = homes_marked homes }

-- those who stand inside the texts that are given back, and inside one that is left
abbrev pub left_texts : List ℕ → Reach
left_texts homes = record nothing { borrowers = homes }

-- a name by which a text is entered
abbrev pub by_name : List ℕ → Reach
by_name name = record nothing { entered = Some name }

-- a text that is left, where there is one
abbrev pub if_left : Option ℕ → List ℕ
if_left None = []
if_left (Some home) = home ∷ []

-- what is reached beside devices, as a value of the program says it
abbrev pub reach_of : Reached → Reach
reach_of r = record nothing {
  terminal = r.terminal;
  text = r.text;
  variables = r.variables;
  borrowers = if_left r.left ++ homes_marked r.homes;
  entered = r.entered;
  names = if_any r.name ++ if_any r.old_name;
}

-- the objects that are reached: an edit looks at who stands inside the text
abbrev pub terminal_objects : Option ℕ → List Object
terminal_objects None = []
terminal_objects (Some term) = object.Terminal term ∷ []

abbrev pub text_objects : ℕ → TextUse → List Object
text_objects who text.Unused = []
text_objects who text.Read = object.Text who ∷ []
text_objects who text.Edited = object.Borrow who ∷ object.Text who ∷ []

abbrev pub variable_objects : ℕ → Bool → List Object
variable_objects who false = []
variable_objects who true = object.Globals who ∷ []

abbrev pub part_objects : List ℕ → DevicePart → List Object
part_objects a HoldTaken = object.Hog a ∷ []
part_objects a HoldFreed = object.Hog a ∷ []
part_objects a WithPlatter = object.Hog a ∷ object.Platter a ∷ []
part_objects a WithPrinter = object.Hog a ∷ object.Printer a ∷ []

abbrev pub device_objects : List DeviceReach → List Object
device_objects [] = []
device_objects (d ∷ ds) = part_objects d.address d.part ++ device_objects ds

-- those who stand inside some texts
abbrev pub borrows : List ℕ → List Object
borrows homes = map object.Borrow homes

-- a name by which a text is entered, and by who holds it that text and those who stand inside
abbrev pub entered_text : Option ℕ → List Object
entered_text None = []
entered_text (Some g) = object.Text g ∷ object.Borrow g ∷ []

abbrev pub entered_objects : Option (List ℕ) → Option ℕ → List Object
entered_objects None holder = []
entered_objects (Some name) holder = object.Name name ∷ entered_text holder

-- all of them, where this partition holds the name by which a text is entered
abbrev pub objects_reached : ℕ → Option ℕ → Reach → List Object
objects_reached who holder r =
    terminal_objects r.terminal
    ++ (text_objects who r.text ++ (variable_objects who r.variables ++ (borrows r.borrowers ++ (device_objects r.devices ++ (entered_objects r.entered holder ++ map object.Name r.names)))))

-- the objects of what is written, as a value of the program says it
abbrev pub where_written : Bool → Object → List Object
where_written false o = []
where_written true o = o ∷ []

-- who holds each of some devices
abbrev pub objects_held : List (List ℕ) → List Object
objects_held addresses = map object.Hog addresses

-- the devices whose contents or holders are written
abbrev pub device_objects_written : DevicesWritten → List Object
device_objects_written written.NoDevice = []
device_objects_written (written.Platter address) = object.Platter address ∷ []
device_objects_written (written.Printer address) = object.Printer address ∷ []
device_objects_written (written.Holders addresses) = objects_held addresses.now

abbrev pub is_device_written : DevicesWritten → Bool
is_device_written written.NoDevice = false
is_device_written devices = true

-- and beside devices
-- those who stand inside the text that is entered
abbrev pub borrow_entered : Option ℕ → List Object
borrow_entered None = []
borrow_entered (Some g) = object.Borrow g ∷ []

abbrev pub borrow_where : Bool → Option ℕ → List Object
borrow_where false holder = []
borrow_where true holder = borrow_entered holder

abbrev pub objects_written : Written → ℕ → List Object
objects_written w who =
    terminal_objects w.terminal
    ++ (where_written w.text (object.Text who) ++ (where_written w.variables (object.Globals who) ++ (borrows (if_left w.left ++ homes_marked w.homes) ++ map object.Name (if_any w.name ++ if_any w.old_name))))
