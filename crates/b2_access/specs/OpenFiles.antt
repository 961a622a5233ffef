-- The open files of a partition: each is on a platter that the table lists for it, at its first sector or after it.
use Rattle.std.specs.Prelude.{◌≡◌, ◌≤◌, ℕ, true, List, [], ◌∷◌, Option, Some, None}
use Rattle.b2_base.specs.declared.files.Slot.{Slot}
use Rattle.b2_access.specs.Devices.{is_platter_for}
use Rattle.b2_access.specs.Fitting.{AnswerFits}
use Rattle.b2_access.specs.Lending.{SeenLent}
use Rattle.b2_access.specs.OwnDevices.{ReachesListed}
use Rattle.b2_access.specs.Planning.{Finishing, Planning}
use Rattle.b2_access.specs.declared.accesses.Access.{Access}
use Rattle.b2_access.specs.declared.accesses.Answer.{Answer}
use Rattle.b2_access.specs.declared.devices.Device.{Device}
use Rattle.b2_access.specs.declared.private.Private.{Private}

abbrev pub IsOpenFor : List Device → ℕ → Slot → Type 0
IsOpenFor devices who slot = (is_platter_for who slot.addr devices ≡ true) × (slot.start ≤ slot.pos)

abbrev pub AreOpenFor : List Device → ℕ → List (Option Slot) → Type 0
AreOpenFor devices who [] = Unit {0}
AreOpenFor devices who (None ∷ slots) = AreOpenFor devices who slots
AreOpenFor devices who (Some slot ∷ slots) = IsOpenFor devices who slot × AreOpenFor devices who slots

-- those of a partition
abbrev pub HasOpenFiles : List Device → Private → Type 0
HasOpenFiles devices me = AreOpenFor devices me.part me.slots

-- A way of planning leaves them so, and one of finishing does where the access reaches what is listed and the answer fits it.
abbrev pub PlansKeepOpenFiles : (List Device → Private → SeenLent → Planning) → Type 0
PlansKeepOpenFiles plan = (devices : List Device) (me : Private) (s : SeenLent) → HasOpenFiles devices me → HasOpenFiles devices (plan devices me s).me

abbrev pub FinishesKeepOpenFiles : (Access → Answer → Private → SeenLent → Finishing) → Type 0
FinishesKeepOpenFiles finish =
    (devices : List Device) (x : Access) (a : Answer) (me : Private) (s : SeenLent) → ReachesListed devices me.part x → AnswerFits x a → HasOpenFiles devices me → HasOpenFiles devices (finish x a me s).me
