-- Platters stay sound, whatever is run.
use Rattle.std.specs.Prelude.{List, All}
use Rattle.b2_boot.specs.Boots.{BootState}
use Rattle.b2_boot.specs.declared.log.Event.{Event}
use Rattle.b2_store.specs.Files.{AreSound, IsSound}
use Rattle.b2_sched.specs.Start.{Images, booted}
use Rattle.b2_sched.specs.World.{ran}

-- Whatever was run from a boot with sound images, each platter is sound.
abbrev pub RunsStaySound : Type 0
RunsStaySound = (b : BootState) (images : Images) (log : List Event) → All IsSound images → AreSound (ran log (booted b images)).store
