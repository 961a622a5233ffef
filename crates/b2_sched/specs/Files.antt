-- A file is what its records are, whichever partitions take turns.
use Rattle.std.specs.Prelude.{◌≤◌, ◌+◌, ℕ, List, Option, Some, None}
use Rattle.b2_dec.specs.declared.values.Value.{Value}
use Rattle.b2_catalog.specs.declared.entry.Entry.{Entry}
use Rattle.b2_access.specs.Store.{StoreState}
use Rattle.b2_access.specs.declared.accesses.Access.{Access}
use Rattle.b2_access.specs.declared.devices.Device.{Device}
use Rattle.b2_access.specs.declared.private.Private.{Private}
use Rattle.b2_machine.specs.Touched.{asking}
use Rattle.b2_store.specs.Files.{AreSound, HasFront, HasWhole, IsAbout}
use Rattle.b2_sched.specs.Choice.{basic}
use Rattle.b2_sched.specs.EachStep.{AtEachStep}
use Rattle.b2_sched.specs.Holding.{AreOfOthers, IsHeld, IsReached}
use Rattle.b2_sched.specs.World.{WorldState, Action, does_all}

-- nothing is asked for, or what isn't about a file
abbrev pub AsksElsewhere : List ℕ → List ℕ → Option Access → Type 0
AsksElsewhere addr name None = Unit {0}
AsksElsewhere addr name (Some x) = IsAbout addr name x → ⊥

-- a step asks so
abbrev pub LeavesFile : List ℕ → List ℕ → List Device → Private → StoreState → Type 0
LeavesFile addr name devices me s = AsksElsewhere addr name (asking (basic devices) me s)

-- The records of a file, up to a place and up to its end mark, are what they were after whatever happened, where no step asked for an
-- access that is about the file.
abbrev pub FilesOutlast : WorldState → Type 0
FilesOutlast w =
    (between : List Action) (addr : List ℕ) (e : Entry) (records : List (List Value)) → AtEachStep (LeavesFile addr e.name) between w
    → ((pos : ℕ) → pos ≤ e.end + 1 → HasFront w.store addr e pos records → HasFront (does_all between w).store addr e pos records)
    × (HasWhole w.store addr e records → HasWhole (does_all between w).store addr e records)

-- So it is from sound platters.
abbrev pub FilesOutlastTurns : Type 0
FilesOutlastTurns = (w : WorldState) → AreSound w.store → FilesOutlast w

-- And they are what they were where a partition holds the disk, whatever others asked for.
abbrev pub HeldFilesStay : Type 0
HeldFilesStay =
    (w : WorldState) (p : ℕ) (others : List Action) (addr : List ℕ) (e : Entry) (records : List (List Value)) → IsReached w → IsHeld addr p w.store → AreOfOthers p others
    → ((pos : ℕ) → HasFront w.store addr e pos records → HasFront (does_all others w).store addr e pos records)
    × (HasWhole w.store addr e records → HasWhole (does_all others w).store addr e records)
