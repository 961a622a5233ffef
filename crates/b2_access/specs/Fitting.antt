-- What an answer says fits what was asked. A file that was opened is on the disk that was asked for, and its place, as every place
-- after an access at one, isn't before the file's first sector. Values that were loaded are as many as were asked, of the asked kinds.
-- The bytes of a sector are 256.
use Rattle.std.specs.Prelude.{◌≡◌, ◌≤◌, ℕ, List, [], ◌∷◌, length, Some}
use Rattle.b2_base.specs.declared.files.Slot.{Slot}
use Rattle.b2_dec.specs.declared.values.Kind.{Kind}
use Rattle.b2_dec.specs.declared.values.Kind.TheVariants as kind
use Rattle.b2_dec.specs.declared.values.Value.{Value}
use Rattle.b2_dec.specs.declared.values.Value.TheVariants as value
use Rattle.b2_access.specs.declared.accesses.Access.{Access}
use Rattle.b2_access.specs.declared.accesses.Access.TheVariants as access
use Rattle.b2_access.specs.declared.accesses.Answer.{Answer}
use Rattle.b2_access.specs.declared.accesses.Answer.TheVariants as answer
use Rattle.b2_access.specs.declared.objects.Object.TheVariants as object
use Rattle.b2_access.specs.Sharing.{ServingOf}
use Rattle.b2_access.specs.Store.{StoreState, content}
use Rattle.b2_access.specs.Touching.{IsLegal}

-- a file is open on a disk, at its first sector or after it
abbrev pub IsOpenOn : List ℕ → Slot → Type 0
IsOpenOn addr slot = (slot.addr ≡ addr) × (slot.start ≤ slot.pos)

-- a value is of a kind, and each of some is of the kind that is asked at its place
abbrev pub IsOfKind : Kind → Value → Type 0
IsOfKind kind.Number (value.Number x) = Unit {0}
IsOfKind kind.Alpha (value.Alpha bytes) = Unit {0}
IsOfKind k v = ⊥

abbrev pub AreOfKinds : List Kind → List Value → Type 0
AreOfKinds [] [] = Unit {0}
AreOfKinds (k ∷ kinds) (v ∷ values) = IsOfKind k v × AreOfKinds kinds values
AreOfKinds kinds values = ⊥

abbrev pub AnswerFits : Access → Answer → Type 0
AnswerFits (access.DataNew addr old sectors name) (answer.Opened slot) = IsOpenOn addr slot
AnswerFits (access.DataOpen addr name) (answer.Opened slot) = IsOpenOn addr slot
AnswerFits (access.DataSave slot values) (answer.Moved place) = slot.start ≤ place
AnswerFits (access.DataEnd slot) (answer.Moved place) = slot.start ≤ place
AnswerFits (access.DataLoad slot kinds) (answer.Values values place) = AreOfKinds kinds values × (slot.start ≤ place)
AnswerFits (access.Skip slot way) (answer.Moved place) = slot.start ≤ place
AnswerFits (access.RawLoad addr at kinds) (answer.Values values next) = AreOfKinds kinds values
AnswerFits (access.BlockLoad addr at) (answer.Block bytes) = length bytes ≡ 256
AnswerFits a x = Unit {0}

-- each platter that a store lists is one that its disks may have
abbrev pub HasImages : (List ℕ → Type 0) → StoreState → Type 0
HasImages IsImage s = (addr image : List ℕ) → content s (object.Platter addr) ≡ Some image → IsImage image

-- The answers of a way of serving fit, where what is asked may be asked for, and the platters are such.
abbrev pub AnswersFit : {M : Type 0} → (M → StoreState) → (List ℕ → Type 0) → ServingOf M → Type 0
AnswersFit {M} store IsImage serving = (m : M) (who : ℕ) (a : Access) → IsLegal a → HasImages IsImage (store m) → AnswerFits a (serving m who a).answer
