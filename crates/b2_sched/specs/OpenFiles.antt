-- The files that partitions have open, after whatever was run.
use Rattle.std.specs.Prelude.{◌≡◌, ℕ, List, Some}
use Rattle.b2_access.specs.OpenFiles.{HasOpenFiles}
use Rattle.b2_access.specs.declared.private.Private.{Private}
use Rattle.b2_boot.specs.Boots.{BootState}
use Rattle.b2_boot.specs.declared.log.Event.{Event}
use Rattle.b2_store.specs.Files.{AreSound}
use Rattle.b2_sched.specs.Start.{Images, booted, devices_of}
use Rattle.b2_sched.specs.World.{private_of, ran}

-- Whatever was run from a boot with sound platters: each file that a partition has open is on a platter that the boot lists for it, for all
-- partitions or for this one alone, with its place at its first sector or after it.
abbrev pub OpenFilesAreListed : Type 0
OpenFilesAreListed =
    (b : BootState) (images : Images) (log : List Event) → AreSound (booted b images).store
    → (p : ℕ) (me : Private) → private_of p (ran log (booted b images)) ≡ Some me → HasOpenFiles (devices_of b.printers b.platters) me
