-- A turn over a watched store.
use Rattle.std.specs.Prelude.{◌≡◌, ℕ, false, List, length}
use Rattle.b2_access.specs.declared.objects.Object.TheVariants as object
use Rattle.b2_access.specs.declared.devices.Device.{Device}
use Rattle.b2_access.specs.declared.private.Private.{Private}
use Rattle.b2_access.specs.Loans.{lends}
use Rattle.b2_access.specs.Serving.{itself}
use Rattle.b2_store.specs.DiskWork.{serves}
use Rattle.b2_access.specs.Store.{StoreState}
use Rattle.b2_audit.specs.Marks.{Marks, writers_of}
use Rattle.b2_audit.specs.PartSets.{has_other}
use Rattle.b2_audit.specs.Steps.{AreSteps, IsPartition, marks_after}
use Rattle.b2_audit.specs.Watching.{watched_loan, watching}
use Rattle.b2_machine.specs.Turn.{TurnEnd, turn}
use Rattle.b2_sched.specs.Choice.{basic}
use Rattle.b2_sched.specs.Turns.{steps_in_turn, turn_of}

-- a store, and the marks around it
abbrev pub Watched : Type 0
Watched = StoreState × Marks

abbrev pub store_in : Watched → StoreState
store_in m = m.0

abbrev pub watched_turn : List Device → ℕ → Private → Watched → TurnEnd Watched
watched_turn devices n me m = turn (basic devices) store_in (watching itself serves) (watched_loan itself lends) n me m

-- nobody else wrote the text of a partition
abbrev pub IsOwnText : ℕ → Marks → Type 0
IsOwnText p m = has_other (writers_of (object.Text p) m) p ≡ false

-- marks have sixty places
abbrev pub AreWhole : Marks → Type 0
AreWhole m = length m.writers.indexed ≡ 60

-- a turn, with marks beside the store
abbrev pub with_marks : TurnEnd StoreState → Marks → TurnEnd Watched
with_marks t m = record { me = t.me; after = (t.after, m); turned = t.turned }

-- A turn of a partition whose text nobody else wrote is over the watched store what it is over the store itself, and it leaves the
-- marks of its steps.
abbrev pub TurnsMarkTheirSteps : Type 0
TurnsMarkTheirSteps = (devices : List Device) (p n : ℕ) (me : Private) (s : StoreState) (m : Marks) → IsPartition p → me.part ≡ p → AreSteps (steps_in_turn devices p n me s) → AreWhole m → IsOwnText p m
    → watched_turn devices n me (s, m) ≡ with_marks (turn_of devices n me s) (marks_after (steps_in_turn devices p n me s) m)
