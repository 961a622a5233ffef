-- What the inputs of a run say, and how each can end the call.
use Rattle.std.specs.Prelude.{◌≡◌, ℕ, ◌≤◌, List, [], ◌∷◌, ◌++◌, Option, Some, None, Ok, Err}
use Rattle.std.specs.List.{AllZip}
use Rattle.b2_base.specs.Files.{Files, IsFetched}
use Rattle.b2_base.specs.Seen.{ShelfSeen}
use Rattle.b2_boot.specs.Boots.{BootState, boot_of}
use Rattle.b2_boot.specs.Drills.{drill_boot, drill_log}
use Rattle.b2_boot.specs.Logs.{log_of}
use Rattle.b2_boot.specs.declared.boot.BootPlatter.{BootPlatter}
use Rattle.b2_boot.specs.Logs.LogRead.{Events, Refused}
use Rattle.b2_boot.specs.declared.boot_file.BootErr.{BootErr}
use Rattle.b2_boot.specs.declared.boot_file.BootErr.TheVariants as boot_err
use Rattle.b2_boot.specs.declared.log.Event.{Event}
use Rattle.b2_boot.specs.declared.log.LogErr.{LogErr}
use Rattle.b2_boot.specs.declared.log.LogErr.TheVariants as log_err
use Rattle.b2_boot.specs.Rows.{blank_version}
use Rattle.b2_platter.specs.Checks.{own_check}
use Rattle.b2_platter.specs.Edits.{blank_image}
use Rattle.b2_platter.specs.Layout.{by_version}
use Rattle.b2_store.specs.Files.{IsSound}
use Rattle.b2_sched.specs.Start.{Images}
use Rattle.b2_mvp.specs.declared.inputs.BootAndLog.{BootAndLog}
use Rattle.b2_mvp.specs.declared.inputs.Source.{Source}
use Rattle.b2_mvp.specs.declared.inputs.Source.TheVariants as source
use Rattle.b2_status.specs.Fetches.{FetchFails}
use Rattle.b2_status.specs.declared.status.Status.{Status}
use Rattle.b2_status.specs.declared.status.Status.TheVariants as status

-- how many bytes a boot file, a log and an image may have
abbrev pub boot_limit : ℕ
boot_limit = 65536

abbrev pub log_limit : ℕ
log_limit = 4194304

abbrev pub image_limit : ℕ
image_limit = 67108864

-- a boot file is read, and passes its checks
pub record HasBoot (name : List ℕ) (files : Option Files) (boot : BootState) : Type 0 where
  pub bytes : List ℕ
  pub fetched : IsFetched files name boot_limit bytes
  pub passes : boot_of bytes ≡ Ok boot

-- a log is read, and passes its checks against the boot
pub record HasLog (name : List ℕ) (files : Option Files) (boot : BootState) (events : List Event) : Type 0 where
  pub bytes : List ℕ
  pub fetched : IsFetched files name log_limit bytes
  pub passes : log_of boot bytes ≡ Events events

-- a boot file is read, and this is the first check that it fails
pub record FailsBoot (name : List ℕ) (files : Option Files) (check : ℕ) : Type 0 where
  pub bytes : List ℕ
  pub fetched : IsFetched files name boot_limit bytes
  pub fails : boot_of bytes ≡ Err check

-- a log is read; this is its first line that fails a check against the boot, and the first check of that line
pub record FailsLog (name : List ℕ) (files : Option Files) (boot : BootState) (line check : ℕ) : Type 0 where
  pub bytes : List ℕ
  pub fetched : IsFetched files name log_limit bytes
  pub fails : log_of boot bytes ≡ Refused line check

-- an image is read, and is sound: good, with an index that a byte counts
pub record IsRead (name : List ℕ) (files : Option Files) (image : List ℕ) : Type 0 where
  pub fetched : IsFetched files name image_limit image
  pub sound : IsSound image

-- what is on a platter as the machine starts: the image of a file, or blank sectors of a version
abbrev pub HasSource : Option (List ℕ) → Option ℕ → Option ℕ → Option Files → List ℕ → Type 0
HasSource (Some name) blank version files image = IsRead name files image
HasSource None (Some sectors) version files image = image ≡ blank_image (by_version (blank_version version)) sectors
HasSource None None version files image = ⊥

abbrev pub HasImage : Option Files → BootPlatter → List ℕ → Type 0
HasImage files p image = HasSource p.image p.blank p.version files image

abbrev pub HaveImages : Option Files → List BootPlatter → Images → Type 0
HaveImages files platters images = AllZip (HasImage files) platters images

-- a platter with the image of a file, where those before it have their images
pub record IsNext (files : Option Files) (platters : List BootPlatter) (platter : BootPlatter) (name : List ℕ) : Type 0 where
  pub before : List BootPlatter
  pub images : Images
  pub after : List BootPlatter
  pub in_order : platters ≡ before ++ platter ∷ after
  pub have_images : HaveImages files before images
  pub named : platter.image ≡ Some name

-- an image is read, and this is the first check that it fails
pub record FailsChecks (name : List ℕ) (files : Option Files) (check : ℕ) : Type 0 where
  pub bytes : List ℕ
  pub fetched : IsFetched files name image_limit bytes
  pub fails : own_check bytes ≡ Some check

-- so the first platter whose image isn't good has this address, and its image fails this check first
pub record FailsImage (platters : List BootPlatter) (files : Option Files) (address : List ℕ) (check : ℕ) : Type 0 where
  pub platter : BootPlatter
  pub name : List ℕ
  pub next : IsNext files platters platter name
  pub is_at : platter.address ≡ address
  pub fails : FailsChecks name files check

-- what a refused boot file and a refused log end the call with
abbrev pub boot_status : BootErr → Status
boot_status (boot_err.Check n) = status.BadBoot n
boot_status boot_err.NoMemory = status.NoMemory

abbrev pub log_status : LogErr → Status
log_status (log_err.Line line check) = status.BadLog line check
log_status log_err.NoMemory = status.NoMemory

-- when a boot, and a log for it, end the call
abbrev pub CannotBoot : List ℕ → ShelfSeen → ShelfSeen → Status → Type 0
CannotBoot name old new (status.BadBoot check) = FailsBoot name old.files check
CannotBoot name old new s = FetchFails name boot_limit old new s

abbrev pub CannotLog : List ℕ → BootState → ShelfSeen → ShelfSeen → Status → Type 0
CannotLog name boot old new (status.BadLog line check) = FailsLog name old.files boot line check
CannotLog name boot old new s = FetchFails name log_limit old new s

-- when the image of a file ends the call, for a platter of an address
abbrev pub CannotOpen : List ℕ → List ℕ → ShelfSeen → ShelfSeen → Status → Type 0
CannotOpen address name old new (status.BadImage at check) = (at ≡ address) × FailsChecks name old.files check
CannotOpen address name old new s = FetchFails name image_limit old new s

-- a blank platter does so for want of memory alone
abbrev pub CannotReadFrom : Option (List ℕ) → List ℕ → ShelfSeen → ShelfSeen → Status → Type 0
CannotReadFrom None address old new s = s ≡ status.NoMemory
CannotReadFrom (Some name) address old new s = CannotOpen address name old new s

abbrev pub CannotRead : BootPlatter → ShelfSeen → ShelfSeen → Status → Type 0
CannotRead p old new s = CannotReadFrom p.image p.address old new s

-- one of some platters does so, where those before it have their images
pub record FailsAmong (platters : List BootPlatter) (old new : ShelfSeen) (s : Status) : Type 0 where
  pub before : List BootPlatter
  pub images : Images
  pub platter : BootPlatter
  pub after : List BootPlatter
  pub in_order : platters ≡ before ++ platter ∷ after
  pub have_images : HaveImages old.files before images
  pub fails : CannotRead platter old new s

abbrev pub CannotReadAll : List BootPlatter → ShelfSeen → ShelfSeen → Status → Type 0
CannotReadAll platters old new status.NoMemory = Unit {0}
CannotReadAll platters old new s = FailsAmong platters old new s

-- a boot file and a log pass their checks; the log is checked against the whole boot, whoever runs
pub record HaveTexts (texts : BootAndLog) (files : Option Files) (boot : BootState) (events : List Event) : Type 0 where
  pub has_boot : HasBoot texts.boot files boot
  pub has_log : HasLog texts.log files boot events

-- a boot and a log are those of a drill
pub record AreOfDrill (n : ℕ) (boot : BootState) (events : List Event) : Type 0 where
  pub few : n ≤ 5000
  pub boot_is : boot ≡ drill_boot n
  pub log_is : events ≡ drill_log n

-- a boot and a log come from where a run takes them
abbrev pub Gives : Source → Option Files → BootState → List Event → Type 0
Gives (source.Files texts) files boot events = HaveTexts texts files boot events
Gives (source.Drill n) files boot events = AreOfDrill n boot events

abbrev pub HasNumber : Source → Type 0
HasNumber (source.Files texts) = Unit {0}
HasNumber (source.Drill n) = n ≤ 5000

-- the boot and the log of a run
pub record HasInputs (s : Source) (files : Option Files) : Type 0 where
  pub boot : BootState
  pub events : List Event
  pub given : Gives s files boot events

-- the inputs of a run, in the order in which they are fetched
pub data Input : Type 0 where
  TheBoot : Input
  TheLog : Input
  TheImage : (platter : BootPlatter) (name : List ℕ) → Input

-- the names of the boot file and of the log, which a drill has not
abbrev pub boot_name : Source → List ℕ
boot_name (source.Files texts) = texts.boot
boot_name (source.Drill n) = []

abbrev pub log_name : Source → List ℕ
log_name (source.Files texts) = texts.log
log_name (source.Drill n) = []

abbrev pub name_of : Source → Input → List ℕ
name_of s TheBoot = boot_name s
name_of s TheLog = log_name s
name_of s (TheImage platter name) = name

abbrev pub limit_of : Input → ℕ
limit_of TheBoot = boot_limit
limit_of TheLog = log_limit
limit_of (TheImage platter name) = image_limit

-- a drill fetches neither boot nor log; the log of files is fetched after the boot has passed its checks, and an image after both are there
-- and the images before it
abbrev pub ReachesBoot : Source → Type 0
ReachesBoot (source.Files texts) = Unit {0}
ReachesBoot (source.Drill n) = ⊥

abbrev pub ReachesLog : Source → Option Files → Type 0
ReachesLog (source.Files texts) files = (boot : BootState) × HasBoot texts.boot files boot
ReachesLog (source.Drill n) files = ⊥

abbrev pub IsReached : Source → Option Files → Input → Type 0
IsReached s files TheBoot = ReachesBoot s
IsReached s files TheLog = ReachesLog s files
IsReached s files (TheImage platter name) = (inputs : HasInputs s files) × IsNext files inputs.boot.platters platter name

-- the fetch of an input that is reached ends the call
pub record FailsFetch (s : Source) (old new : ShelfSeen) (end : Status) : Type 0 where
  pub input : Input
  pub reached : IsReached s old.files input
  pub fails : FetchFails (name_of s input) (limit_of input) old new end

-- a boot file, and a log, that fail a check
abbrev pub RefusesBoot : Source → Option Files → ℕ → Type 0
RefusesBoot (source.Files texts) files check = FailsBoot texts.boot files check
RefusesBoot (source.Drill n) files check = ⊥

abbrev pub RefusesLog : Source → Option Files → ℕ → ℕ → Type 0
RefusesLog (source.Files texts) files line check = (boot : BootState) × HasBoot texts.boot files boot × FailsLog texts.log files boot line check
RefusesLog (source.Drill n) files line check = ⊥

-- when a run ends before its first event: by a check, for want of memory, or by the fetch of an input
abbrev pub Refuses : Source → ShelfSeen → ShelfSeen → Status → Type 0
Refuses s old new (status.BadBoot check) = RefusesBoot s old.files check
Refuses s old new (status.BadLog line check) = RefusesLog s old.files line check
Refuses s old new (status.BadImage address check) = (inputs : HasInputs s old.files) × FailsImage inputs.boot.platters old.files address check
Refuses s old new status.NoMemory = Unit {0}
Refuses s old new end = FailsFetch s old new end
