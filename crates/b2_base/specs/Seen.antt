-- A shelf and a sink as they are at one moment.
use Rattle.std.specs.Prelude.{ℕ, ◌≤◌, List, Option}
use Rattle.b2_base.specs.Files.{Files}

-- the told files and the counts of a shelf
pub record ShelfSeen : Type 0 where
  pub files : Option Files
  pub faults : ℕ
  pub misses : ℕ
  pub longs : ℕ

-- a shelf by its ghost members
abbrev pub shelf_seen : {F : Type 0} → (F → Option Files) → (F → ℕ) → (F → ℕ) → (F → ℕ) → F → ShelfSeen
shelf_seen files faults misses longs shelf = record { files = files shelf; faults = faults shelf; misses = misses shelf; longs = longs shelf }

-- what was written, where it is told, and the count of a sink
pub record SinkSeen : Type 0 where
  pub written : Option (List ℕ)
  pub faults : ℕ

-- a sink by its ghost members
abbrev pub sink_seen : {O : Type 0} → (O → Option (List ℕ)) → (O → ℕ) → O → SinkSeen
sink_seen written faults sink = record { written = written sink; faults = faults sink }

-- the counts of a shelf never fall
pub record Later (old new : ShelfSeen) : Type 0 where
  pub faults : old.faults ≤ new.faults
  pub misses : old.misses ≤ new.misses
  pub longs : old.longs ≤ new.longs
