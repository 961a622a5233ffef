-- How the put of the last words of a call ends it.
use Rattle.std.specs.Prelude.{◌≡◌, ℕ, List, [], ◌++◌, option_map}
use Rattle.b2_base.specs.Counts.{Rose}
use Rattle.b2_base.specs.Outside.{IsPartWritten}
use Rattle.b2_base.specs.Seen.{SinkSeen}
use Rattle.b2_status.specs.declared.status.Status.{Status}
use Rattle.b2_status.specs.declared.status.Status.TheVariants as status

-- a put that failed has the empty name, and a front of the bytes may be written
abbrev pub IsPartPut : List ℕ → List ℕ → SinkSeen → SinkSeen → Type 0 → Type 0
IsPartPut bytes at before after cause = (at ≡ []) × cause × IsPartWritten before.written after.written bytes

-- how a put ends the call
abbrev pub PutEnds : List ℕ → SinkSeen → SinkSeen → Status → Type 0
PutEnds bytes before after status.Ok = after.written ≡ option_map (λ w. w ++ bytes) before.written
PutEnds bytes before after status.Usage = ⊥
PutEnds bytes before after (status.Missing at) = ⊥
PutEnds bytes before after (status.ReadFault at) = ⊥
PutEnds bytes before after (status.TooLong at limit) = ⊥
PutEnds bytes before after (status.BadBoot check) = ⊥
PutEnds bytes before after (status.BadLog line check) = ⊥
PutEnds bytes before after (status.BadImage address check) = ⊥
PutEnds bytes before after (status.WriteFault at) = IsPartPut bytes at before after (Rose before.faults after.faults)
PutEnds bytes before after status.NoMemory = ⊥
PutEnds bytes before after (status.KeepNoMemory at) = IsPartPut bytes at before after (Unit {0})
