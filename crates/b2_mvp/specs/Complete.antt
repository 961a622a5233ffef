-- What is to be answered where the shelf tells its files and nothing fails.
use Rattle.std.specs.Prelude.{◌≡◌, ◌⊎◌, ℕ, nat_le, List, [], ◌∷◌, length, Option, Some, None, IfSome, Result, Ok, Err, if◌then◌else◌}
use Rattle.std.specs.FinMap.{get}
use Rattle.b2_base.specs.Counts.{Rose}
use Rattle.b2_base.specs.Files.{Files}
use Rattle.b2_base.specs.Seen.{ShelfSeen, SinkSeen}
use Rattle.b2_boot.specs.Boots.{BootState, boot_of}
use Rattle.b2_boot.specs.Drills.{drill_boot, drill_log}
use Rattle.b2_boot.specs.Logs.{LogRead, log_of}
use Rattle.b2_boot.specs.Logs.LogRead.{Events, Refused}
use Rattle.b2_boot.specs.declared.boot.BootPlatter.{BootPlatter}
use Rattle.b2_boot.specs.declared.log.Event.{Event}
use Rattle.b2_boot.specs.Rows.{blank_version}
use Rattle.b2_platter.specs.Checks.{own_check}
use Rattle.b2_platter.specs.Edits.{blank_image}
use Rattle.b2_platter.specs.Layout.{by_version}
use Rattle.b2_sched.specs.Start.{Images}
use Rattle.b2_sched.specs.World.{WorldState}
use Rattle.b2_look.specs.Shows.{file_limit, shown}
use Rattle.b2_look.specs.declared.shows.View.{View}
use Rattle.b2_status.specs.declared.status.Status.{Status}
use Rattle.b2_status.specs.declared.status.Status.TheVariants as status
use Rattle.b2_mvp.specs.declared.top.Command.{Command}
use Rattle.b2_mvp.specs.declared.top.Command.TheVariants as command
use Rattle.b2_mvp.specs.declared.inputs.BootAndLog.{BootAndLog}
use Rattle.b2_mvp.specs.declared.inputs.Source.{Source}
use Rattle.b2_mvp.specs.declared.inputs.Source.TheVariants as source
use Rattle.b2_mvp.specs.declared.top.Job.{Job}
use Rattle.b2_mvp.specs.Inputs.{boot_limit, log_limit, image_limit}
use Rattle.b2_mvp.specs.Top.{command_of, boot_for, world_after}

-- what is to be answered where the shelf tells its files
pub data Expected : Type 0 where
  NoCommand : Expected
  IsMissing : List ℕ → Expected
  IsLong : List ℕ → ℕ → Expected
  FailsBootCheck : ℕ → Expected
  FailsLogCheck : ℕ → ℕ → Expected
  FailsImageCheck : List ℕ → ℕ → Expected
  Ends : Job → WorldState → Expected
  Puts : List ℕ → Expected

-- an image that is there, or what is to be answered
abbrev pub by_check : List ℕ → List ℕ → Option ℕ → Result (List ℕ) Expected
by_check address bytes None = Ok bytes
by_check address bytes (Some check) = Err (FailsImageCheck address check)

abbrev pub by_image_file : List ℕ → List ℕ → Option (List ℕ) → Result (List ℕ) Expected
by_image_file address name None = Err (IsMissing name)
by_image_file address name (Some bytes) = if nat_le (length bytes) image_limit then by_check address bytes (own_check bytes) else Err (IsLong name image_limit)

-- every platter of a boot has one of the two
abbrev pub by_source : Files → List ℕ → Option (List ℕ) → Option ℕ → Option ℕ → Result (List ℕ) Expected
by_source files address (Some name) blank version = by_image_file address name (get files name)
by_source files address None (Some sectors) version = Ok (blank_image (by_version (blank_version version)) sectors)
by_source files address None None version = Ok []

abbrev pub by_platter : Files → BootPlatter → Result (List ℕ) Expected
by_platter files p = by_source files p.address p.image p.blank p.version

-- the images of some platters, or what is to be answered at the first that has none
abbrev pub one_more : Result (List ℕ) Expected → Result Images Expected → Result Images Expected
one_more (Ok image) (Ok images) = Ok (image ∷ images)
one_more (Ok image) (Err e) = Err e
one_more (Err e) images = Err e

abbrev pub by_platters : Files → List BootPlatter → Result Images Expected
by_platters files [] = Ok []
by_platters files (p ∷ ps) = one_more (by_platter files p) (by_platters files ps)

abbrev pub by_images : Job → BootState → List Event → Result Images Expected → Expected
by_images c boot events (Ok images) = Ends c (world_after (boot_for c.group boot) images events)
by_images c boot events (Err e) = e

abbrev pub by_inputs : Files → Job → BootState → List Event → Expected
by_inputs files c boot events = by_images c boot events (by_platters files boot.platters)

abbrev pub by_log : Files → Job → BootState → LogRead → Expected
by_log files c boot (Events events) = by_inputs files c boot events
by_log files c boot (Refused line check) = FailsLogCheck line check

abbrev pub by_log_file : Files → Job → BootAndLog → BootState → Option (List ℕ) → Expected
by_log_file files c texts boot None = IsMissing texts.log
by_log_file files c texts boot (Some bytes) = if nat_le (length bytes) log_limit then by_log files c boot (log_of boot bytes) else IsLong texts.log log_limit

abbrev pub by_boot : Files → Job → BootAndLog → Result BootState ℕ → Expected
by_boot files c texts (Err check) = FailsBootCheck check
by_boot files c texts (Ok boot) = by_log_file files c texts boot (get files texts.log)

abbrev pub by_boot_file : Files → Job → BootAndLog → Option (List ℕ) → Expected
by_boot_file files c texts None = IsMissing texts.boot
by_boot_file files c texts (Some bytes) = if nat_le (length bytes) boot_limit then by_boot files c texts (boot_of bytes) else IsLong texts.boot boot_limit

-- a drill asks nothing of the files
abbrev pub by_run : Files → Job → Source → Expected
by_run files c (source.Files texts) = by_boot_file files c texts (get files texts.boot)
by_run files c (source.Drill n) = by_inputs files c (drill_boot n) (drill_log n)

-- a view of a file asks nothing of what the file holds
abbrev pub by_view : View → List ℕ → Option (List ℕ) → Expected
by_view v name None = IsMissing name
by_view v name (Some bytes) = if nat_le (length bytes) file_limit then Puts (shown v bytes) else IsLong name file_limit

abbrev pub by_command : Files → Option Command → Expected
by_command files None = NoCommand
by_command files (Some (command.Run job)) = by_run files job job.source
by_command files (Some (command.Show v name)) = by_view v name (get files name)

abbrev pub expected : List (List ℕ) → Files → Expected
expected words files = by_command files (command_of words)

-- a status that answers it, unless memory fails
abbrev pub Answers : Expected → Status → Type 0
Answers NoCommand s = s ≡ status.Usage
Answers (IsMissing name) s = (s ≡ status.Missing name) ⊎ (s ≡ status.NoMemory)
Answers (IsLong name limit) s = (s ≡ status.TooLong name limit) ⊎ (s ≡ status.NoMemory)
Answers (FailsBootCheck check) s = (s ≡ status.BadBoot check) ⊎ (s ≡ status.NoMemory)
Answers (FailsLogCheck line check) s = (s ≡ status.BadLog line check) ⊎ (s ≡ status.NoMemory)
Answers (FailsImageCheck address check) s = (s ≡ status.BadImage address check) ⊎ (s ≡ status.NoMemory)
Answers (Ends c world) s = (s ≡ status.Ok) ⊎ (s ≡ status.NoMemory) ⊎ ((name : List ℕ) × (s ≡ status.KeepNoMemory name))
Answers (Puts bytes) s = (s ≡ status.Ok) ⊎ (s ≡ status.NoMemory) ⊎ ((name : List ℕ) × (s ≡ status.KeepNoMemory name))

-- where the files are told and nothing failed, the answer is the expected one
abbrev pub IsComplete : List (List ℕ) → ShelfSeen → ShelfSeen → SinkSeen → SinkSeen → Status → Type 0
IsComplete words old new before after s =
    IfSome old.files (λ m. (Rose old.faults new.faults → ⊥) → (Rose before.faults after.faults → ⊥) → Answers (expected words m) s)
