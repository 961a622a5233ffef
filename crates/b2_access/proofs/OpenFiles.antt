-- A partition that keeps the files that it has open, or closes all, has open files as before: on platters that are listed for it, at their
-- first sectors or after them.
use Rattle.std.proofs.Common.{◌≡◌, ℕ, zero, suc, Bool, true, false, List, Option, None, replicate, subst, sym}
use Rattle.b2_base.specs.declared.files.Slot.{Slot}
use Rattle.b2_access.specs.Keeping.{FinishesKeepFiles, PlansKeepFiles}
use Rattle.b2_access.specs.Lending.{SeenLent}
use Rattle.b2_access.specs.OpenFiles.{AreOpenFor, FinishesKeepOpenFiles, HasOpenFiles, PlansKeepOpenFiles}
use Rattle.b2_access.specs.Planning.{Planning}
use Rattle.b2_access.specs.Steering.{Steered, files_left, steered}
use Rattle.b2_access.specs.declared.accesses.Access.{Access}
use Rattle.b2_access.specs.declared.accesses.Answer.{Answer}
use Rattle.b2_access.specs.Planning.{Finishing}
use Rattle.b2_access.specs.declared.devices.Device.{Device}
use Rattle.b2_access.specs.declared.private.Private.{Private}

-- the same partition with the same files
pub same_files : (devices : List Device) (me after : Private) → after.part ≡ me.part → after.slots ≡ me.slots → HasOpenFiles devices me → HasOpenFiles devices after
same_files devices me after part slots h =
    subst (λ (p : ℕ). AreOpenFor devices p after.slots) (sym part) (subst (λ (files : List (Option Slot)). AreOpenFor devices me.part files) (sym slots) h)

-- no file is open
pub none_open : (devices : List Device) (who n : ℕ) → AreOpenFor devices who (replicate n None)
none_open devices who zero = tt
none_open devices who (suc n) = none_open devices who n

-- by its form, a statement that leaves the files
pub plans_keep_open : (plan : List Device → Private → SeenLent → Planning) → ((devices : List Device) → PlansKeepFiles (plan devices)) → PlansKeepOpenFiles plan
plans_keep_open plan keeps devices me s h = same_files devices me (plan devices me s).me (keeps devices me s).0 (keeps devices me s).1 h

pub finishes_keep_open : (finish : Access → Answer → Private → SeenLent → Finishing) → FinishesKeepFiles finish → FinishesKeepOpenFiles finish
finishes_keep_open finish keeps devices x a me s listed fits h = same_files devices me (finish x a me s).me (keeps x a me s).0 (keeps x a me s).1 h

-- and one of control
pub left_open : (devices : List Device) (who : ℕ) (closes : Bool) (slots : List (Option Slot)) → AreOpenFor devices who slots → AreOpenFor devices who (files_left closes slots)
left_open devices who false slots h = h
left_open devices who true slots h = none_open devices who 16

pub steered_open : (devices : List Device) (me : Private) (e : Steered) → HasOpenFiles devices me → HasOpenFiles devices (steered me e).me
steered_open devices me e h = left_open devices me.part e.work.closes me.slots h
