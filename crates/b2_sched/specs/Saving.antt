-- What variables hold, and what steps ask to be saved: numbers as the machine has them.
use Rattle.std.specs.Prelude.{◌≡◌, ℕ, List, ◌∷◌, [], ◌++◌, Option, Some}
use Rattle.b2_base.specs.declared.files.Slot.{Slot}
use Rattle.b2_dec.specs.declared.values.Value.{Value}
use Rattle.b2_vars.specs.Tables.{VarsState}
use Rattle.b2_catalog.specs.declared.entry.Entry.{Entry}
use Rattle.b2_record.specs.Items.{AllStorable}
use Rattle.b2_access.specs.Store.{StoreState, content}
use Rattle.b2_access.specs.declared.accesses.Access.{Access}
use Rattle.b2_access.specs.declared.accesses.Access.TheVariants as access
use Rattle.b2_access.specs.declared.accesses.Answer.TheVariants as answer
use Rattle.b2_access.specs.declared.devices.Device.{Device}
use Rattle.b2_access.specs.declared.objects.Object.TheVariants as object
use Rattle.b2_access.specs.declared.private.Private.{Private}
use Rattle.b2_boot.specs.Boots.{BootState}
use Rattle.b2_boot.specs.Quotas.{quotas_of}
use Rattle.b2_boot.specs.declared.log.Event.{Event}
use Rattle.b2_machine.specs.Touched.{asking}
use Rattle.b2_stmt_file.specs.SavedNumbers.{HoldsNumbers}
use Rattle.b2_store.specs.DiskWork.{serves}
use Rattle.b2_store.specs.Files.{HasFront, Opens}
use Rattle.b2_sched.specs.Choice.{basic}
use Rattle.b2_sched.specs.EachStep.{AtEachStep}
use Rattle.b2_sched.specs.Laws.{all_actions}
use Rattle.b2_sched.specs.Start.{Images, booted}
use Rattle.b2_sched.specs.World.{private_of, ran}

-- a partition's own variables hold numbers, and so do all `@` variables of a store
pub record HoldNumbers (me : Private) (s : StoreState) : Type 0 where
  pub own : HoldsNumbers me.vars
  pub globals : (p : ℕ) (vars : VarsState) → content s (object.Globals p) ≡ Some vars → HoldsNumbers vars

-- the values that are asked to be saved are such as a record may hold
abbrev pub SavesStorable : Option Access → Type 0
SavesStorable (Some (access.DataSave slot values)) = AllStorable values
SavesStorable x = Unit {0}

-- Where variables hold numbers, each value that a step asks to be saved is such a one.
abbrev pub StepsSaveStorable : Type 0
StepsSaveStorable = (devices : List Device) (me : Private) (s : StoreState) → HoldNumbers me s → SavesStorable (asking (basic devices) me s)

-- A record that a partition saves, in whichever store, follows the records up to its place: with it they go up to the place that is told.
abbrev pub FollowsRecords : ℕ → Slot → List Value → Type 0
FollowsRecords who slot values =
    (t : StoreState) (e : Entry) (records : List (List Value)) (to : ℕ) → Opens slot e → HasFront t slot.addr e slot.pos records → (serves t who (access.DataSave slot values)).answer ≡ answer.Moved to
    → HasFront (serves t who (access.DataSave slot values)).after slot.addr e to (records ++ values ∷ [])

-- So does one that a step asks to be saved, where variables hold numbers.
abbrev pub StepsSaveRecords : Type 0
StepsSaveRecords =
    (devices : List Device) (me : Private) (s : StoreState) (slot : Slot) (values : List Value) → HoldNumbers me s → asking (basic devices) me s ≡ Some (access.DataSave slot values) → FollowsRecords me.part slot values

-- ---- whatever was run

-- After whatever was run from a boot the variables of each partition that is present hold numbers, and so do all `@` variables.
abbrev pub WorldsHoldNumbers : Type 0
WorldsHoldNumbers =
    (b : BootState) (images : Images) (log : List Event) (p : ℕ) (me : Private) → private_of p (ran log (booted b images)) ≡ Some me → HoldNumbers me (ran log (booted b images)).store

-- So each value that any step of a run asks to be saved is such as a record may hold,
abbrev pub RunsSaveStorable : Type 0
RunsSaveStorable = (b : BootState) (images : Images) (log : List Event) → AtEachStep (λ devices me s. SavesStorable (asking (basic devices) me s)) (all_actions (quotas_of b) log) (booted b images)

-- and each record follows the records up to its place.
abbrev pub SavesRecord : List Device → Private → StoreState → Type 0
SavesRecord devices me s = (slot : Slot) (values : List Value) → asking (basic devices) me s ≡ Some (access.DataSave slot values) → FollowsRecords me.part slot values

abbrev pub RunsSaveRecords : Type 0
RunsSaveRecords = (b : BootState) (images : Images) (log : List Event) → AtEachStep SavesRecord (all_actions (quotas_of b) log) (booted b images)
