-- When the fetch of an input ends the call.
use Rattle.std.specs.Prelude.{◌≡◌, ℕ, ◌<◌, List, length, Option, IfSome, IsSomeAnd}
use Rattle.std.specs.FinMap.{get}
use Rattle.b2_base.specs.Counts.{Rose}
use Rattle.b2_base.specs.Files.{Files, IsAbsent}
use Rattle.b2_base.specs.Seen.{ShelfSeen}
use Rattle.b2_status.specs.declared.status.Status.{Status}
use Rattle.b2_status.specs.declared.status.Status.TheVariants as status

-- a told file has more bytes than its limit
abbrev pub IsLonger : Option Files → List ℕ → ℕ → Type 0
IsLonger files name limit = IfSome files (λ m. IsSomeAnd (get m name) (λ file. limit < length file))

-- when the fetch of an input ends the call
abbrev pub FetchFails : List ℕ → ℕ → ShelfSeen → ShelfSeen → Status → Type 0
FetchFails input limit old new status.Ok = ⊥
FetchFails input limit old new status.Usage = ⊥
FetchFails input limit old new (status.Missing name) = (name ≡ input) × Rose old.misses new.misses × IsAbsent old.files name
FetchFails input limit old new (status.ReadFault name) = (name ≡ input) × Rose old.faults new.faults
FetchFails input limit old new (status.TooLong name most) = (name ≡ input) × (most ≡ limit) × Rose old.longs new.longs × IsLonger old.files name most
FetchFails input limit old new (status.BadBoot check) = ⊥
FetchFails input limit old new (status.BadLog line check) = ⊥
FetchFails input limit old new (status.BadImage address check) = ⊥
FetchFails input limit old new (status.WriteFault name) = ⊥
FetchFails input limit old new status.NoMemory = Unit {0}
FetchFails input limit old new (status.KeepNoMemory name) = ⊥
