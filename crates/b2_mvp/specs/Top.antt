-- The words of the command line, and when each status comes.
use Rattle.std.specs.Prelude.{◌≡◌, ◌⊎◌, ℕ, ◌≤◌, ◌&&◌, nat_eq, length, List, [], ◌∷◌, ◌++◌, map, codes, Option, Some, None, option_map, option_and_then, if◌then◌else◌}
use Rattle.std.specs.Global.{Vec}
use Rattle.std.specs.Cmp.Lexicographic.{pointwise}
use Rattle.b2_base.specs.Counts.{Rose}
use Rattle.b2_base.specs.Files.{Files}
use Rattle.b2_base.specs.Names.{is_file_name}
use Rattle.b2_base.specs.Outside.{IsPartWritten}
use Rattle.b2_base.specs.Seen.{ShelfSeen, SinkSeen}
use Rattle.b2_boot.specs.Alone.{alone, is_in_group}
use Rattle.b2_boot.specs.Boots.{BootState}
use Rattle.b2_boot.specs.Drills.{drill_number}
use Rattle.b2_boot.specs.declared.log.Event.{Event}
use Rattle.b2_sched.specs.Start.{Images, booted}
use Rattle.b2_sched.specs.World.{WorldState, ran}
use Rattle.b2_look.specs.Shows.{Shows}
use Rattle.b2_look.specs.declared.shows.View.{View}
use Rattle.b2_look.specs.declared.shows.View.TheVariants as view
use Rattle.b2_status.specs.declared.status.Status.{Status}
use Rattle.b2_status.specs.declared.status.Status.TheVariants as status
use Rattle.b2_mvp.specs.declared.top.Command.{Command}
use Rattle.b2_mvp.specs.declared.top.Command.TheVariants as command
use Rattle.b2_mvp.specs.declared.top.Job.{Job}
use Rattle.b2_mvp.specs.Groups.{GroupsShowAsAlone, ListsTheClean, OwnPartShows, PartsShow}
use Rattle.b2_mvp.specs.declared.inputs.Source.TheVariants as source
use Rattle.b2_mvp.specs.Inputs.{HasInputs, HasNumber, HaveImages, Refuses}
use Rattle.b2_mvp.specs.Outputs.{Output, outputs, with_files, summary, FailsKeep}
use Rattle.b2_mvp.specs.Parts.{listed_parts}

-- the bytes of each word
abbrev pub texts : List (Vec ℕ) → List (List ℕ)
texts words = map (λ w. w.items) words

-- the job of three names and a group, where the names are those of files
abbrev pub job_by : List ℕ → List ℕ → List ℕ → Option (List ℕ) → Option Job
job_by boot log out group =
    if is_file_name boot && is_file_name log && is_file_name out then Some (record { source = source.Files (record { boot = boot; log = log }); out = out; group = group }) else None

abbrev pub run_by : List ℕ → List ℕ → List ℕ → Option (List ℕ) → Option Command
run_by boot log out group = option_map command.Run (job_by boot log out group)

-- the drill of a number, where it is one, and the name that of a file
abbrev pub drill_from : Option ℕ → List ℕ → Option Command
drill_from None out = None
drill_from (Some n) out = if is_file_name out then Some (command.Run (record { source = source.Drill n; out = out; group = None })) else None

abbrev pub drill_by : List ℕ → List ℕ → Option Command
drill_by number out = drill_from (drill_number number) out

-- a view of a file, where the name is one
abbrev pub show_by : View → List ℕ → Option Command
show_by v name = if is_file_name name then Some (command.Show v name) else None

-- `screen FILE`, `check IMAGE`, `drill N OUT`, `run BOOT LOG OUT` and `alone BOOT LOG OUT PARTS`
abbrev pub command_of : List (List ℕ) → Option Command
command_of (word ∷ name ∷ []) =
    if pointwise nat_eq word (codes "screen") then show_by view.Screen name
    else (if pointwise nat_eq word (codes "check") then show_by view.Check name else None)
command_of (word ∷ number ∷ out ∷ []) = if pointwise nat_eq word (codes "drill") then drill_by number out else None
command_of (word ∷ boot ∷ log ∷ out ∷ []) = if pointwise nat_eq word (codes "run") then run_by boot log out None else None
command_of (word ∷ boot ∷ log ∷ out ∷ parts ∷ []) =
    if pointwise nat_eq word (codes "alone") then option_and_then (λ group. run_by boot log out (Some group)) (listed_parts parts) else None
command_of words = None

-- the front of the outputs' names leaves room for their endings, and a drill has a number of one
abbrev pub IsReady : Job → Type 0
IsReady job = (length job.out ≤ 190) × HasNumber job.source

abbrev pub CanRun : Command → Type 0
CanRun (command.Run job) = IsReady job
CanRun (command.Show v name) = Unit {0}

-- the boot that a job runs: the whole one, or that with its group alone
abbrev pub boot_for : Option (List ℕ) → BootState → BootState
boot_for None boot = boot
boot_for (Some parts) boot = alone (is_in_group parts) boot

-- the world after the events, from the one that a boot starts with the images of its platters
abbrev pub world_after : BootState → Images → List Event → WorldState
world_after boot images events = ran events (booted boot images)

-- the words run these, and each platter of the boot has its image
pub record Runs (words : List (List ℕ)) (files : Option Files) : Type 0 where
  pub job : Job
  pub is_command : command_of words ≡ Some (command.Run job)
  pub inputs : HasInputs job.source files
  pub images : Images
  pub have_images : HaveImages files inputs.boot.platters images

-- the boot that is run, the world at the end, what is kept of it, and the line that is put
abbrev pub boot_run : {words : List (List ℕ)} {files : Option Files} → Runs words files → BootState
boot_run r = boot_for r.job.group r.inputs.boot

abbrev pub last_world : {words : List (List ℕ)} {files : Option Files} → Runs words files → WorldState
last_world r = world_after (boot_run r) r.images r.inputs.events

abbrev pub kept_of : {words : List (List ℕ)} {files : Option Files} → Runs words files → List Output
kept_of r = outputs r.job.out r.inputs.boot (last_world r).store

abbrev pub line_put : {words : List (List ℕ)} {files : Option Files} → Runs words files → List ℕ
line_put r = summary (boot_run r) (last_world r)

-- nothing was kept or put
pub record IsUntouched (old new : ShelfSeen) (before after : SinkSeen) : Type 0 where
  pub files : new.files ≡ old.files
  pub sink : after ≡ before

-- THE HEADLINE: what was written is what the machine writes, from this boot and its images and under this log; each group of partitions that is
-- clean there shows what it shows alone, and what its own part of boot and log shows; and the line lists exactly the partitions that are
-- clean by themselves.
pub record IsRun (words : List (List ℕ)) (old new : ShelfSeen) (before after : SinkSeen) : Type 0 where
  pub run : Runs words old.files
  pub files : new.files ≡ with_files (kept_of run) old.files
  pub written : after.written ≡ option_map (λ w. w ++ line_put run) before.written
  pub groups : GroupsShowAsAlone run.job.out (boot_run run) run.images run.inputs.events
  pub listed : ListsTheClean (boot_run run) run.images run.inputs.events
  pub parts : PartsShow run.job.out (boot_run run) run.images run.inputs.events
  pub own_part : OwnPartShows run.job.group run.job.out run.inputs.boot run.images run.inputs.events

-- a job ended before its run, so nothing was kept or put
pub record Stops (words : List (List ℕ)) (old new : ShelfSeen) (before after : SinkSeen) (s : Status) : Type 0 where
  pub job : Job
  pub is_command : command_of words ≡ Some (command.Run job)
  pub refuses : Refuses job.source old new s
  pub untouched : IsUntouched old new before after

-- a keep failed, and nothing was put; or the line did, which has the empty name, and all was kept
abbrev pub FailsOutput : List Output → List ℕ → ShelfSeen → ShelfSeen → SinkSeen → SinkSeen → List ℕ → Type 0 → Type 0 → Type 0
FailsOutput all line old new before after at shelf_cause sink_cause =
    (FailsKeep all at old.files new.files × shelf_cause × (after ≡ before))
    ⊎ ((at ≡ []) × sink_cause × (new.files ≡ with_files all old.files) × IsPartWritten before.written after.written line)

-- a keep or the put of a run failed
pub record IsCutOff (words : List (List ℕ)) (at : List ℕ) (old new : ShelfSeen) (before after : SinkSeen) (shelf_cause sink_cause : Type 0) : Type 0 where
  pub run : Runs words old.files
  pub left : FailsOutput (kept_of run) (line_put run) old new before after at shelf_cause sink_cause

-- when each status of a run comes
abbrev pub RunComes : List (List ℕ) → ShelfSeen → ShelfSeen → SinkSeen → SinkSeen → Status → Type 0
RunComes words old new before after status.Ok = IsRun words old new before after
RunComes words old new before after status.Usage = ⊥
RunComes words old new before after (status.Missing name) = Stops words old new before after (status.Missing name)
RunComes words old new before after (status.ReadFault name) = Stops words old new before after (status.ReadFault name)
RunComes words old new before after (status.TooLong name limit) = Stops words old new before after (status.TooLong name limit)
RunComes words old new before after (status.BadBoot check) = Stops words old new before after (status.BadBoot check)
RunComes words old new before after (status.BadLog line check) = Stops words old new before after (status.BadLog line check)
RunComes words old new before after (status.BadImage address check) = Stops words old new before after (status.BadImage address check)
RunComes words old new before after (status.WriteFault name) = IsCutOff words name old new before after (Rose old.faults new.faults) (Rose before.faults after.faults)
RunComes words old new before after status.NoMemory = Stops words old new before after status.NoMemory
RunComes words old new before after (status.KeepNoMemory name) = IsCutOff words name old new before after (Unit {0}) (Unit {0})

-- so of a job, by whichever words
abbrev pub JobEnds : Job → ShelfSeen → ShelfSeen → SinkSeen → SinkSeen → Status → Type 0
JobEnds job old new before after s = (words : List (List ℕ)) → command_of words ≡ Some (command.Run job) → RunComes words old new before after s

-- when each status comes, by the command that the words are
abbrev pub ComesBy : Option Command → List (List ℕ) → ShelfSeen → ShelfSeen → SinkSeen → SinkSeen → Status → Type 0
ComesBy None words old new before after s = (s ≡ status.Usage) × (new ≡ old) × (after ≡ before)
ComesBy (Some (command.Run job)) words old new before after s = RunComes words old new before after s
ComesBy (Some (command.Show v name)) words old new before after s = Shows v name old new before after s

-- when each status comes, over the words, the shelf and the sink before and after
abbrev pub Comes : List (List ℕ) → ShelfSeen → ShelfSeen → SinkSeen → SinkSeen → Status → Type 0
Comes words old new before after s = ComesBy (command_of words) words old new before after s

-- how the outputs went
abbrev pub Delivers : List Output → List ℕ → ShelfSeen → ShelfSeen → SinkSeen → SinkSeen → Status → Type 0
Delivers all line old new before after status.Ok = (new.files ≡ with_files all old.files) × (after.written ≡ option_map (λ w. w ++ line) before.written)
Delivers all line old new before after status.Usage = ⊥
Delivers all line old new before after (status.Missing at) = ⊥
Delivers all line old new before after (status.ReadFault at) = ⊥
Delivers all line old new before after (status.TooLong at limit) = ⊥
Delivers all line old new before after (status.BadBoot check) = ⊥
Delivers all line old new before after (status.BadLog at check) = ⊥
Delivers all line old new before after (status.BadImage at check) = ⊥
Delivers all line old new before after (status.WriteFault at) = FailsOutput all line old new before after at (Rose old.faults new.faults) (Rose before.faults after.faults)
Delivers all line old new before after status.NoMemory = ⊥
Delivers all line old new before after (status.KeepNoMemory at) = FailsOutput all line old new before after at (Unit {0}) (Unit {0})
