-- What the marks of a world say.
use Rattle.std.specs.Prelude.{◌≡◌, ◌↔◌, ℕ, true, List}
use Rattle.b2_audit.specs.Marks.{is_clean}
use Rattle.b2_audit.specs.Steps.{IsClean, IsPartition, just, marks_after}
use Rattle.b2_boot.specs.Alone.{alone}
use Rattle.b2_boot.specs.Boots.{BootState}
use Rattle.b2_boot.specs.declared.log.Event.{Event}
use Rattle.b2_sched.specs.Groups.{steps_of}
use Rattle.b2_sched.specs.Start.{AreNumbered, Images, booted}
use Rattle.b2_sched.specs.World.{WorldState, private_of, ran}

-- the marks after a run are those before it with those of its steps
abbrev pub RunsMarkTheirSteps : Type 0
RunsMarkTheirSteps = (log : List Event) (w : WorldState) → (ran log w).marks ≡ marks_after (steps_of log w) w.marks

-- WHO IS CLEAN: after any log the marks say so exactly of each partition none of whose steps touched what a step of another wrote
-- before.
abbrev pub MarksSayWhoIsClean : Type 0
MarksSayWhoIsClean = (b : BootState) (images : Images) (log : List Event) (p : ℕ) → AreNumbered b.partitions → IsPartition p
    → (is_clean p (ran log (booted b images)).marks ≡ true) ↔ IsClean (just p) (steps_of log (booted b images))

-- After any log a partition that the marks say is clean has the own state that it has alone.
abbrev pub CleanOnesAreAsAlone : Type 0
CleanOnesAreAsAlone = (b : BootState) (images : Images) (log : List Event) (p : ℕ) → AreNumbered b.partitions → IsPartition p → is_clean p (ran log (booted b images)).marks ≡ true
    → private_of p (ran log (booted b images)) ≡ private_of p (ran log (booted (alone (just p) b) images))
