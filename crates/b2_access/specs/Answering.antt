-- What an access can be answered.
use Rattle.std.specs.Prelude.{◌≡◌, ℕ, ◌||◌, ◌&&◌, Bool, true, false, List, Option, Some, None}
use Rattle.std.specs.List.{list_any}
use Rattle.b2_access.specs.declared.accesses.Access.{Access}
use Rattle.b2_access.specs.declared.accesses.Answer.{Answer}
use Rattle.b2_access.specs.declared.accesses.Answer.TheVariants as answer
use Rattle.b2_access.specs.declared.objects.Object.{Object}
use Rattle.b2_access.specs.declared.reached.TextUse.{TextUse}
use Rattle.b2_access.specs.declared.reached.TextUse.TheVariants as text
use Rattle.b2_access.specs.AccessRows.{reach, row}
use Rattle.b2_access.specs.AnswerKinds.{is_lock, is_wait, stops}
use Rattle.b2_access.specs.Disks.{DiskWork}
use Rattle.b2_access.specs.Reach.{DevicePart, DeviceReach, HoldFreed, Reach}
use Rattle.b2_access.specs.Sharing.{ServingOf}
use Rattle.b2_access.specs.Store.{ContentOf}
use Rattle.b2_access.specs.Task.{Task, Look, Tell, Refuse, Missing}

-- another can come first at a terminal and at a device that isn't freed, and stand inside a text that is edited
abbrev pub may_stop_by : DevicePart → Bool
may_stop_by HoldFreed = false
may_stop_by part = true

abbrev pub may_wait : Option ℕ → List DeviceReach → Bool
may_wait (Some term) devices = true
may_wait None devices = list_any (λ d. may_stop_by d.part) devices

abbrev pub is_edited : TextUse → Bool
is_edited text.Edited = true
is_edited other = false

abbrev pub may_stop : Reach → Answer → Bool
may_stop r x = (is_wait x && may_wait r.terminal r.devices) || (is_lock x && is_edited r.text)

-- the answers that may stop an access, and those that its row tells
abbrev pub can_answer : Access → Answer → Bool
can_answer a x = may_stop (reach a) x || (row a).tells x

-- A task tells no answers but some, and none with which an access is stopped but a code, and that nobody is there, by which it changes
-- nothing.
abbrev pub TellsOnly : {reached written : List Object} → (Answer → Bool) → Task reached written → Type 0
TellsOnly some (Look o there next) = (c : Option (ContentOf o)) → TellsOnly some (next c)
TellsOnly some (Tell puts x) = (some x ≡ true) × (stops x ≡ false)
TellsOnly some (Refuse c) = some (answer.Refused c) ≡ true
TellsOnly some Missing = some answer.NoPart ≡ true

-- each row tells the answers that it says
abbrev pub RowsTellTheirAnswers : Type 0
RowsTellTheirAnswers = (disks : DiskWork) (a : Access) (who : ℕ) (holder : Option ℕ) → TellsOnly (row a).tells ((row a).does disks who holder)

-- each answer of a way of serving is one that its access can have
abbrev pub AnswersByRow : {M : Type 0} → ServingOf M → Type 0
AnswersByRow {M} serving = (m : M) (who : ℕ) (x : Access) → can_answer x (serving m who x).answer ≡ true
