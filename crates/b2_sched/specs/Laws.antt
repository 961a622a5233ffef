-- What holds of every world, in words of its own.
use Rattle.std.specs.Prelude.{◌≡◌, ◌≢◌, ℕ, zero, suc, ◌+◌, ◌*◌, ◌^◌, ◌<◌, ◌≤◌, List, [], ◌∷◌, ◌++◌, length, map, Some, is_some, if◌then◌else◌}
use Rattle.b2_boot.specs.Boots.{BootState}
use Rattle.b2_boot.specs.Logs.{granted_by}
use Rattle.b2_boot.specs.Quotas.{quota_at, quotas_of}
use Rattle.b2_boot.specs.declared.log.Event.{Event}
use Rattle.b2_boot.specs.declared.log.Event.TheVariants as event
use Rattle.b2_access.specs.Partition.{KeepsNone}
use Rattle.b2_access.specs.Store.{StoreState}
use Rattle.b2_access.specs.declared.devices.Device.{Device}
use Rattle.b2_access.specs.declared.private.Private.{Private}
use Rattle.b2_sched.specs.Start.{Images, booted}
use Rattle.b2_sched.specs.Turns.{steps_in_turn, turn_of}
use Rattle.b2_sched.specs.World.{WorldState, Action, Turn, private_of, tallied, actions, does, does_all, happens, ran}

-- the actions of all events, in order
abbrev pub all_actions : List (ℕ × ℕ) → List Event → List Action
all_actions quotas [] = []
all_actions quotas (e ∷ es) = actions quotas e ++ all_actions quotas es

-- a run is one list of actions
abbrev pub RunsByActions : Type 0
RunsByActions = (log : List Event) (w : WorldState) → ran log w ≡ does_all (all_actions w.quotas log) w

-- a turn of a partition leaves the own states of all others
abbrev pub LeavesOthers : Type 0
LeavesOthers = (p q n : ℕ) (w : WorldState) → q ≢ p → private_of q (does (Turn p n) w) ≡ private_of q w

-- whatever happens, the same partitions are present
abbrev pub KeepsPresent : Type 0
KeepsPresent = (e : Event) (w : WorldState) (p : ℕ) → is_some (private_of p (happens e w)) ≡ is_some (private_of p w)

-- how many partitions are present among some numbers from one on
abbrev pub present_from : ℕ → ℕ → WorldState → ℕ
present_from p zero w = 0
present_from p (suc n) w = (if is_some (private_of p w) then 1 else 0) + present_from (p + 1) n w

abbrev pub present : WorldState → ℕ
present w = present_from 1 16 w

-- in a round each of the sixteen numbers has exactly one turn, with its own quota, in ascending order
abbrev pub one_turn : List (ℕ × ℕ) → ℕ → Action
one_turn quotas p = Turn p (quota_at p quotas)

abbrev pub one_turn_each : List (ℕ × ℕ) → List Action
one_turn_each quotas = map (one_turn quotas) (1 ∷ 2 ∷ 3 ∷ 4 ∷ 5 ∷ 6 ∷ 7 ∷ 8 ∷ 9 ∷ 10 ∷ 11 ∷ 12 ∷ 13 ∷ 14 ∷ 15 ∷ 16 ∷ [])

abbrev pub RoundsAscend : Type 0
RoundsAscend = (quotas : List (ℕ × ℕ)) (n : ℕ) → actions quotas (event.Rounds (suc n)) ≡ one_turn_each quotas ++ actions quotas (event.Rounds n)

-- and the quotas are those of the boot, through every run: that of a partition which has one is its own, and that of any other the boot's
abbrev pub QuotasStay : Type 0
QuotasStay = (b : BootState) (images : Images) (log : List Event) → (ran log (booted b images)).quotas ≡ quotas_of b

-- in each round every partition that is present counts one turn, also where it passes it
abbrev pub CountsTurns : Type 0
CountsTurns = (n : ℕ) (w : WorldState) → w.turns < 2 ^ 64 → (happens (event.Rounds n) w).turns ≡ tallied w.turns (n * present w)

-- a run from a boot counts no more steps than its log grants
abbrev pub RunsKeepToTheirGrant : Type 0
RunsKeepToTheirGrant = (b : BootState) (images : Images) (log : List Event) → (ran log (booted b images)).steps ≤ granted_by b log

-- a turn counts all of its steps, or all but its last; one that is passed has none
abbrev pub TurnsCountAllButOne : Type 0
TurnsCountAllButOne = (devices : List Device) (who quota : ℕ) (me : Private) (s : StoreState) → length (steps_in_turn devices who quota me s) ≤ (turn_of devices quota me s).turned.steps + 1

-- Whatever was run, no partition keeps a place for CONTINUE while its program runs.
abbrev pub NoPlaceIsKept : Type 0
NoPlaceIsKept = (b : BootState) (images : Images) (log : List Event) (p : ℕ) (me : Private) → private_of p (ran log (booted b images)) ≡ Some me → KeepsNone me
