-- A device that a partition holds is out of the reach of all others; and which images an access changes.
use Rattle.std.specs.Prelude.{◌≡◌, ◌≢◌, ◌⊎◌, ◌||◌, ℕ, Bool, true, false, is_some, List, [], ◌∷◌, Option, Some, None}
use Rattle.b2_access.specs.declared.objects.Object.{Object}
use Rattle.b2_access.specs.declared.objects.Object.TheVariants as object
use Rattle.b2_access.specs.declared.accesses.Access.{Access}
use Rattle.b2_access.specs.declared.accesses.Access.TheVariants as access
use Rattle.b2_access.specs.Disks.{DiskWork}
use Rattle.b2_access.specs.AccessRows.{reach}
use Rattle.b2_access.specs.AnswerKinds.{is_wait}
use Rattle.b2_access.specs.Answering.{may_stop_by}
use Rattle.b2_access.specs.Reach.{DeviceReach, objects_held}
use Rattle.b2_access.specs.Serving.{serves}
use Rattle.b2_access.specs.Store.{StoreState, content}

-- the device that an object belongs to: who holds it, its platter and its printer
abbrev pub device_of : Object → Option (List ℕ)
device_of (object.Hog a) = Some a
device_of (object.Platter a) = Some a
device_of (object.Printer a) = Some a
device_of o = None

-- what belongs to a device stays as it is through every access of a partition, while another one holds it
abbrev pub HeldStaysAsItIs : Type 0
HeldStaysAsItIs = (disks : DiskWork) (who p : ℕ) (d : List ℕ) (o : Object) (a : Access) (s : StoreState) → content s (object.Hog d) ≡ Some (Some p) → p ≢ who → device_of o ≡ Some d
    → content (serves disks s who a).after o ≡ content s o

-- An access reaches a device with its platter, its printer, or to take it.
abbrev pub Asks : List ℕ → List DeviceReach → Type 0
Asks d [] = ⊥
Asks d (x ∷ xs) = ((d ≡ x.address) × (may_stop_by x.part ≡ true)) ⊎ Asks d xs

-- While another holds a device, an access that reaches it, and doesn't free it, is answered Wait.
abbrev pub WhoAsksWaits : Type 0
WhoAsksWaits = (disks : DiskWork) (who p : ℕ) (d : List ℕ) (a : Access) (s : StoreState) → content s (object.Hog d) ≡ Some (Some p) → p ≢ who → Asks d (reach a).devices
    → is_wait (serves disks s who a).answer ≡ true

-- what a device has: its image, or what it printed
abbrev pub IsContentOf : List ℕ → Object → Type 0
IsContentOf d o = (o ≡ object.Platter d) ⊎ (o ≡ object.Printer d)

-- two stores that have the same in each object but for what a device has
abbrev pub AgreeBut : List ℕ → StoreState → StoreState → Type 0
AgreeBut d s t = (o : Object) → (IsContentOf d o → ⊥) → content s o ≡ content t o

-- And whatever the device has, each access of a partition is answered alike and leaves all else alike, while another one holds it.
abbrev pub HeldIsOutOfReach : Type 0
HeldIsOutOfReach = (disks : DiskWork) (who p : ℕ) (d : List ℕ) (a : Access) (s t : StoreState) → content s (object.Hog d) ≡ Some (Some p) → p ≢ who → AgreeBut d s t
    → ((serves disks s who a).answer ≡ (serves disks t who a).answer) × AgreeBut d (serves disks s who a).after (serves disks t who a).after

-- The image that an access may change: that of the disk on which it scratches a file, which it formats, on which it makes a data file,
-- saves a record or a program or writes an end mark or a sector, or to which it moves files. It leaves every other one, and other accesses leave every image as it is.
abbrev pub image_changed : Access → Option (List ℕ)
image_changed (access.Scratch addr name) = Some addr
image_changed (access.Format addr index end) = Some addr
image_changed (access.DataNew addr old sectors name) = Some addr
image_changed (access.DataSave slot values) = Some slot.addr
image_changed (access.DataEnd slot) = Some slot.addr
image_changed (access.SaveProgram addr old name from to) = Some addr
image_changed (access.RawSave addr at values) = Some addr
image_changed (access.RawEnd addr at) = Some addr
image_changed (access.BlockSave addr at bytes) = Some addr
image_changed (access.MovePlatter from to) = Some to
image_changed (access.MoveFile from name to) = Some to
image_changed a = None

-- The devices whose holders an access may change: those that it takes or frees. All other holders stay, and so they do through every
-- other access.
abbrev pub holders_changed : Access → List (List ℕ)
holders_changed (access.OpenDevices addrs) = addrs
holders_changed (access.CloseDevices addrs) = addrs
holders_changed a = []

abbrev pub IsAddressIn : List ℕ → List (List ℕ) → Type 0
IsAddressIn d [] = ⊥
IsAddressIn d (a ∷ addrs) = (d ≡ a) ⊎ IsAddressIn d addrs

abbrev pub OtherHoldersStay : Type 0
OtherHoldersStay = (disks : DiskWork) (who : ℕ) (d : List ℕ) (a : Access) (s : StoreState) → (IsAddressIn d (holders_changed a) → ⊥) → content (serves disks s who a).after (object.Hog d) ≡ content s (object.Hog d)

-- the objects of devices that an access may change: an image, what a printer printed, or who holds some; and whether there are any
abbrev pub platter_objects : Option (List ℕ) → List Object
platter_objects None = []
platter_objects (Some address) = object.Platter address ∷ []

abbrev pub devices_changed : Access → List Object
devices_changed (access.PrintTo addr bytes column) = object.Printer addr ∷ []
devices_changed (access.OpenDevices addrs) = objects_held addrs
devices_changed (access.CloseDevices addrs) = objects_held addrs
devices_changed a = platter_objects (image_changed a)

abbrev pub changes_device : Access → Bool
changes_device (access.PrintTo addr bytes column) = true
changes_device (access.OpenDevices addrs) = true
changes_device (access.CloseDevices addrs) = true
changes_device a = is_some (image_changed a)

-- whether it may change who holds a name
abbrev pub changes_name : Access → Bool
changes_name (access.Declare name old) = true
changes_name (access.ClearAll name homes) = is_some name
changes_name (access.LoadProgram addr name replace declared homes) = is_some declared
changes_name a = false

-- an access may change a device, or who holds a name
abbrev pub ChangesDeviceOrName : Access → Type 0
ChangesDeviceOrName a = (changes_device a || changes_name a) ≡ true

abbrev pub OtherImagesStay : Type 0
OtherImagesStay = (disks : DiskWork) (who : ℕ) (d : List ℕ) (a : Access) (s : StoreState) → image_changed a ≢ Some d → content (serves disks s who a).after (object.Platter d) ≡ content s (object.Platter d)
