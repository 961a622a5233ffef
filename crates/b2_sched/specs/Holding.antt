-- What a partition can rely on that holds a device, whichever others take turns; and that its list of devices is what it holds.
use Rattle.std.specs.Prelude.{◌≡◌, ◌≢◌, ◌⊎◌, ◌≤◌, ℕ, Bool, true, false, List, [], ◌∷◌, length, Option, Some, None}
use Rattle.b2_access.specs.AccessRows.{reach}
use Rattle.b2_access.specs.AnswerKinds.{is_wait}
use Rattle.b2_access.specs.Devices.{are_distinct}
use Rattle.b2_access.specs.Holding.{AgreeBut, Asks, IsAddressIn, device_of}
use Rattle.b2_access.specs.Lending.{SeenLent}
use Rattle.b2_access.specs.OwnDevices.{is_device_for}
use Rattle.b2_access.specs.Planning.{Finishing}
use Rattle.b2_access.specs.Store.{StoreState, content}
use Rattle.b2_access.specs.declared.accesses.Access.{Access}
use Rattle.b2_access.specs.declared.accesses.Access.TheVariants as access
use Rattle.b2_access.specs.declared.accesses.Answer.{Answer}
use Rattle.b2_access.specs.declared.accesses.Answer.TheVariants as answer
use Rattle.b2_access.specs.declared.devices.Device.{Device}
use Rattle.b2_access.specs.declared.objects.Object.{Object}
use Rattle.b2_access.specs.declared.objects.Object.TheVariants as object
use Rattle.b2_access.specs.declared.planned.Planned.{Planned}
use Rattle.b2_access.specs.declared.planned.Planned.TheVariants as planned
use Rattle.b2_access.specs.declared.private.Private.{Private}
use Rattle.b2_boot.specs.Boots.{BootState}
use Rattle.b2_boot.specs.declared.log.Event.{Event}
use Rattle.b2_language.specs.Languages.{Ways}
use Rattle.b2_machine.specs.Touched.{asking}
use Rattle.b2_stmt_disk.specs.devices.Held.{held_after}
use Rattle.b2_store.specs.DiskWork.{serves}
use Rattle.b2_sched.specs.Choice.{basic}
use Rattle.b2_sched.specs.EachStep.{AtEachStep, AtSomeStep}
use Rattle.b2_sched.specs.Start.{CanStart, Images, booted, devices_of}
use Rattle.b2_sched.specs.Turns.{step_of}
use Rattle.b2_sched.specs.World.{WorldState, Action, Turn, does_all, private_of, ran}

-- a partition holds a device
abbrev pub IsHeld : List ℕ → ℕ → StoreState → Type 0
IsHeld a p s = content s (object.Hog a) ≡ Some (Some p)

-- a world to which a boot and a log lead
abbrev pub IsReached : WorldState → Type 0
IsReached w = (b : BootState) × (images : Images) × (log : List Event) × (w ≡ ran log (booted b images))

-- nothing that happens is a turn of a partition: keys come, others are in front, are halted or reset, or take turns
abbrev pub IsOfOthers : ℕ → Action → Type 0
IsOfOthers p (Turn q n) = q ≢ p
IsOfOthers p x = Unit {0}

abbrev pub AreOfOthers : ℕ → List Action → Type 0
AreOfOthers p [] = Unit {0}
AreOfOthers p (x ∷ xs) = IsOfOthers p x × AreOfOthers p xs

-- A device that a partition holds is held by it still, has the same image, and printed the same, after whatever others did.
abbrev pub OthersLeaveHeld : Type 0
OthersLeaveHeld =
    (w : WorldState) (p : ℕ) (a : List ℕ) (others : List Action) (o : Object) → IsReached w → IsHeld a p w.store → AreOfOthers p others → device_of o ≡ Some a
    → content (does_all others w).store o ≡ content w.store o

-- a world with another store
abbrev pub with_store : StoreState → WorldState → WorldState
with_store s w = record w { store = s }

-- two worlds that have all in common but what a device has: its image, or what it printed
abbrev pub WorldsAgreeBut : List ℕ → WorldState → WorldState → Type 0
WorldsAgreeBut a w v = (with_store v.store w ≡ v) × AgreeBut a w.store v.store

-- And whatever the device has, all else comes out the same after whatever others did: own states, texts, terminals, other devices, marks
-- and counts.
abbrev pub OthersReadNothing : Type 0
OthersReadNothing =
    (w v : WorldState) (p : ℕ) (a : List ℕ) (others : List Action) → IsReached w → IsHeld a p w.store → AreOfOthers p others → WorldsAgreeBut a w v
    → WorldsAgreeBut a (does_all others w) (does_all others v)

-- a store as it is lent to a step: it has the same in each object but for `@` variables
abbrev pub is_globals : Object → Bool
is_globals (object.Globals p) = true
is_globals o = false

abbrev pub IsLent : StoreState → StoreState → Type 0
IsLent s u = (o : Object) → is_globals o ≡ false → content u o ≡ content s o

-- an access of a step that reaches a device, and doesn't free it, is answered Wait, over whatever is lent
abbrev pub Waits : List ℕ → List Device → Private → StoreState → Type 0
Waits a devices me s =
    (y : Access) → asking (basic devices) me s ≡ Some y → Asks a (reach y).devices → (u : StoreState) → IsLent s u → is_wait (serves u me.part y).answer ≡ true

-- So is each such access of the others.
abbrev pub OthersWait : Type 0
OthersWait = (w : WorldState) (p : ℕ) (a : List ℕ) (others : List Action) → IsReached w → IsHeld a p w.store → AreOfOthers p others → AtEachStep (Waits a) others w

-- a step of a partition that holds a device asks for that to be freed, and it is done
pub record Frees (a : List ℕ) (p : ℕ) (devices : List Device) (me : Private) (s : StoreState) : Type 0 where
  pub own : me.part ≡ p
  pub held : IsHeld a p s
  pub addresses : List (List ℕ)
  pub asked : asking (basic devices) me s ≡ Some (access.CloseDevices addresses)
  pub named : IsAddressIn a addresses
  pub done : (serves s p (access.CloseDevices addresses)).answer ≡ answer.Done

-- Whatever happens, a device is held by the same partition until one of its own steps frees it.
abbrev pub HeldUntilFreed : Type 0
HeldUntilFreed =
    (w : WorldState) (p : ℕ) (a : List ℕ) (between : List Action) → IsReached w → IsHeld a p w.store → IsHeld a p (does_all between w).store ⊎ AtSomeStep (Frees a p) between w

-- ---- the list of a partition

-- what was planned is finished so that the list is as the access and its answer say
abbrev pub FinishesByAccess : (Access → Answer → Private → SeenLent → Finishing) → Planned → Type 0
FinishesByAccess finish (planned.Done o) = Unit {0}
FinishesByAccess finish (planned.Ask x) = (a : Answer) (me : Private) (s : SeenLent) → (finish x a me s).me.held ≡ held_after x a me.held

-- The statements of a language keep the list: as they plan they leave it, and they finish so what they planned.
pub record KeepTheList (ways : Ways) : Type 0 where
  pub plans : (r : ℕ) (me : Private) (s : SeenLent) → (ways.plan r me s).me.held ≡ me.held
  pub finishes : (r : ℕ) (me : Private) (s : SeenLent) → FinishesByAccess (ways.finish r) (ways.plan r me s).planned

-- the list after an access that is asked for, where one is
abbrev pub held_where : Option Access → ℕ → List (List ℕ) → StoreState → List (List ℕ)
held_where None who held s = held
held_where (Some x) who held s = held_after x (serves s who x).answer held

-- A step leaves the list as the access that it asks for and its answer say, and as it is where it asks for none.
abbrev pub StepsKeepTheList : Type 0
StepsKeepTheList =
    (devices : List Device) (me : Private) (s : StoreState) → (step_of devices me s).me.held ≡ held_where (asking (basic devices) me s) me.part me.held s

-- THE LIST OF A PARTITION IS WHAT IT HOLDS: a device that it holds stands there, and one that stands there it holds; each stands there once,
-- they are at most twelve, and each is listed for it.
pub record ListsWhatItHolds (devices : List Device) (p : ℕ) (me : Private) (s : StoreState) : Type 0 where
  pub stands : (a : List ℕ) → IsHeld a p s → IsAddressIn a me.held
  pub holds : (a : List ℕ) → IsAddressIn a me.held → IsHeld a p s
  pub once : are_distinct me.held ≡ true
  pub few : length me.held ≤ 12
  pub usable : (a : List ℕ) → IsAddressIn a me.held → is_device_for p a devices ≡ true

-- So it is with every partition that is present, whatever was run from a boot that can start.
abbrev pub ListsAreWhatIsHeld : Type 0
ListsAreWhatIsHeld =
    (b : BootState) (images : Images) (log : List Event) (p : ℕ) (me : Private) → CanStart b → private_of p (ran log (booted b images)) ≡ Some me
    → ListsWhatItHolds (devices_of b.printers b.platters) p me (ran log (booted b images)).store
