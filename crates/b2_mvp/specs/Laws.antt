-- What holds of every run that the main promise speaks of, in words of its own.
use Rattle.std.specs.Prelude.{◌≡◌, ℕ, ◌≤◌, List, ◌++◌, Option, Some}
use Rattle.b2_base.specs.Files.{Files}
use Rattle.b2_access.specs.OpenFiles.{HasOpenFiles}
use Rattle.b2_access.specs.declared.private.Private.{Private}
use Rattle.b2_boot.specs.declared.log.Event.{Event}
use Rattle.b2_store.specs.Files.{AreSound}
use Rattle.b2_sched.specs.Files.{FilesOutlast}
use Rattle.b2_sched.specs.Start.{devices_of}
use Rattle.b2_sched.specs.World.{WorldState, private_of}
use Rattle.b2_mvp.specs.Top.{Runs, boot_run, world_after}

-- a world of a run: that after its events up to one, or after all of them
pub record IsWorldOf {words : List (List ℕ)} {files : Option Files} (r : Runs words files) (w : WorldState) : Type 0 where
  pub before : List Event
  pub after : List Event
  pub in_order : r.inputs.events ≡ before ++ after
  pub is : w ≡ world_after (boot_run r) r.images before

-- Each platter of a run is sound.
abbrev pub RunsAreSound : Type 0
RunsAreSound = (words : List (List ℕ)) (files : Option Files) (r : Runs words files) (w : WorldState) → IsWorldOf r w → AreSound w.store

-- Each file that a partition has open is on a platter that the boot lists for it, for all partitions or for this one alone, with its place at
-- its first sector or after it.
abbrev pub OpenFilesOfRunsAreListed : Type 0
OpenFilesOfRunsAreListed =
    (words : List (List ℕ)) (files : Option Files) (r : Runs words files) (w : WorldState) → IsWorldOf r w
    → (p : ℕ) (me : Private) → private_of p w ≡ Some me → HasOpenFiles (devices_of (boot_run r).printers (boot_run r).platters) me

-- A data file keeps its records after whatever happens, where no step asks for an access that is about the file.
abbrev pub FilesOutlastRuns : Type 0
FilesOutlastRuns = (words : List (List ℕ)) (files : Option Files) (r : Runs words files) (w : WorldState) → IsWorldOf r w → FilesOutlast w

-- At most five million steps are counted.
abbrev pub RunsCountFewSteps : Type 0
RunsCountFewSteps = (words : List (List ℕ)) (files : Option Files) (r : Runs words files) (w : WorldState) → IsWorldOf r w → w.steps ≤ 5000000
