-- A world: the own states of the partitions that are present, the store that they share, the marks of their steps, and three
-- counts; and what events do.
use Rattle.std.specs.Prelude.{ℕ, zero, suc, ◌+◌, ◌^◌, ◌-◌, min, Bool, true, false, List, [], ◌∷◌, ◌++◌, Option, Some, None}
use Rattle.b2_term.specs.declared.KeyItem.{KeyItem}
use Rattle.b2_access.specs.declared.objects.Object.TheVariants as object
use Rattle.b2_access.specs.declared.devices.Device.{Device}
use Rattle.b2_access.specs.declared.private.Private.{Private}
use Rattle.b2_access.specs.Rows.{row_of, with_row}
use Rattle.b2_access.specs.Store.{StoreState, content}
use Rattle.b2_audit.specs.Marks.{Marks}
use Rattle.b2_audit.specs.Steps.{marks_after}
use Rattle.b2_store.specs.Changes.{keyed_at, front_at, room_at}
use Rattle.b2_boot.specs.Quotas.{quota_at}
use Rattle.b2_boot.specs.declared.log.Event.{Event}
use Rattle.b2_boot.specs.declared.log.Event.TheVariants as event
use Rattle.b2_machine.specs.Turn.{TurnEnd}
use Rattle.b2_sched.specs.Turns.{steps_in_turn, turn_of}

-- the partitions that are present, each with its quota in a round, the devices that there are, the own state of each partition by its number, the store, the marks of all steps, and how many
-- turns and counting steps there were and how many keys were dropped
pub record WorldState : Type 0 where
  pub quotas : List (ℕ × ℕ)
  pub devices : List Device
  pub privates : List (ℕ × Private)
  pub store : StoreState
  pub marks : Marks
  pub turns : ℕ
  pub steps : ℕ
  pub dropped : ℕ

-- the own state of a partition, None where it is absent
abbrev pub private_of : ℕ → WorldState → Option Private
private_of p w = row_of p w.privates

-- a count stays at 2^64 - 1 once it is there
abbrev pub tallied : ℕ → ℕ → ℕ
tallied n more = min (n + more) (2 ^ 64 - 1)

-- what happens at once
pub data Action : Type 0 where
  Key : ℕ → KeyItem → Action
  Front : ℕ → ℕ → Action
  Halt : ℕ → Action
  Reset : ℕ → Action
  Turn : ℕ → ℕ → Action

-- a key is dropped where its terminal is listed and has no room
abbrev pub dropped_by : Option Bool → ℕ
dropped_by None = 0
dropped_by (Some true) = 0
dropped_by (Some false) = 1

-- a key is queued at a terminal, or dropped and counted
abbrev pub with_key : ℕ → KeyItem → WorldState → WorldState
with_key t k w = record w { store = keyed_at t k w.store; dropped = tallied w.dropped (dropped_by (room_at (content w.store (object.Terminal t)))) }

-- a partition is put in front of a terminal, be it present or not
abbrev pub with_front : ℕ → ℕ → WorldState → WorldState
with_front t p w = record w { store = front_at t p w.store }

-- the own state of a partition changes, where it is present
abbrev pub row_changed : ℕ → Option Private → (Private → Private) → List (ℕ × Private) → List (ℕ × Private)
row_changed p None f rows = rows
row_changed p (Some me) f rows = with_row p rows (f me)

abbrev pub changed : ℕ → (Private → Private) → List (ℕ × Private) → List (ℕ × Private)
changed p f rows = row_changed p (row_of p rows) f rows

abbrev pub asked_to_halt : Private → Private
asked_to_halt me = record me { halt = true }

abbrev pub asked_to_reset : Private → Private
asked_to_reset me = record me { reset = true }

-- after a turn of a partition that is present, which left these marks
abbrev pub after_turn : ℕ → TurnEnd StoreState → Marks → WorldState → WorldState
after_turn p t marks w = record w {
  privates = with_row p w.privates t.me;
  store = t.after;
  marks = marks;
  turns = tallied w.turns 1;
  steps = tallied w.steps t.turned.steps;
}

-- its steps add their marks; one that is absent does nothing
abbrev pub with_turn : ℕ → Option Private → ℕ → WorldState → WorldState
with_turn p None quota w = w
with_turn p (Some me) quota w = after_turn p (turn_of w.devices quota me w.store) (marks_after (steps_in_turn w.devices p quota me w.store) w.marks) w

abbrev pub does : Action → WorldState → WorldState
does (Key t k) w = with_key t k w
does (Front t p) w = with_front t p w
does (Halt p) w = record w { privates = changed p asked_to_halt w.privates }
does (Reset p) w = record w { privates = changed p asked_to_reset w.privates }
does (Turn p quota) w = with_turn p (private_of p w) quota w

abbrev pub does_all : List Action → WorldState → WorldState
does_all [] w = w
does_all (a ∷ rest) w = does_all rest (does a w)

-- a turn of each of some partitions, from a number on, with its quota
abbrev pub turns_from : List (ℕ × ℕ) → ℕ → ℕ → List Action
turns_from quotas p zero = []
turns_from quotas p (suc n) = Turn p (quota_at p quotas) ∷ turns_from quotas (p + 1) n

-- in each round a turn of all sixteen numbers in order
abbrev pub rounds : List (ℕ × ℕ) → ℕ → List Action
rounds quotas zero = []
rounds quotas (suc n) = turns_from quotas 1 16 ++ rounds quotas n

-- what an event is, with the quotas of a round
abbrev pub actions : List (ℕ × ℕ) → Event → List Action
actions quotas (event.Key t k) = Key t k ∷ []
actions quotas (event.Front t p) = Front t p ∷ []
actions quotas (event.Halt p) = Halt p ∷ []
actions quotas (event.Reset p) = Reset p ∷ []
actions quotas (event.Turn p n) = Turn p n ∷ []
actions quotas (event.Rounds n) = rounds quotas n

-- an event that gives turns: in these alone memory may fail
abbrev pub GivesTurns : Event → Type 0
GivesTurns (event.Turn p n) = Unit {0}
GivesTurns (event.Rounds n) = Unit {0}
GivesTurns e = ⊥

-- AN EVENT
abbrev pub happens : Event → WorldState → WorldState
happens e w = does_all (actions w.quotas e) w

-- A RUN: the events in order
abbrev pub ran : List Event → WorldState → WorldState
ran [] w = w
ran (e ∷ es) w = ran es (happens e w)
