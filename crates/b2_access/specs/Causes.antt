-- When an access is stopped, and by whom.
use Rattle.std.specs.Prelude.{◌≡◌, ◌≢◌, ◌↔◌, ◌⊎◌, ◌<◌, ℕ, Bool, true, List, [], ◌∷◌, Option, Some, None, Result, Err}
use Rattle.b2_base.specs.declared.codes.TheConstants.{A01_TEXT_AREA, P38_NO_DEFFN, X78_NAME_HELD}
use Rattle.b2_text.specs.Program.{TextState, size_of, with_line}
use Rattle.b2_access.specs.declared.objects.Object.TheVariants as object
use Rattle.b2_access.specs.declared.accesses.Access.{Access}
use Rattle.b2_access.specs.declared.accesses.Access.TheVariants as access
use Rattle.b2_access.specs.declared.accesses.Answer.TheVariants as answer
use Rattle.b2_access.specs.Answering.{is_edited}
use Rattle.b2_access.specs.AccessRows.{is_held_by_other, mark_in, reach}
use Rattle.b2_access.specs.Disks.{DiskWork}
use Rattle.b2_access.specs.Serving.{serves}
use Rattle.b2_access.specs.Stopping.{first_inside, first_there}
use Rattle.b2_access.specs.Store.{StoreState, content, holder_of}

-- the terminal that an access names
abbrev pub terminal_of : Access → Option ℕ
terminal_of a = (reach a).terminal

-- whether an access edits the text of the partition that asks
abbrev pub is_edit : Access → Bool
is_edit a = is_edited (reach a).text

-- a partition is the first among some that is another
abbrev pub IsFirstOther : ℕ → ℕ → List ℕ → Type 0
IsFirstOther who q [] = ⊥
IsFirstOther who q (p ∷ ps) = ((p ≢ who) × (q ≡ p)) ⊎ ((p ≡ who) × IsFirstOther who q ps)

-- a partition comes before the one that asks: of those in front of the terminal, and then those who hold the devices, in the order
-- written, it is the first that is another
abbrev pub ComesFirst : StoreState → ℕ → ℕ → Access → Type 0
ComesFirst s who q a = IsFirstOther who q (first_there (reach a) s)

abbrev pub NobodyComesFirst : StoreState → ℕ → Access → Type 0
NobodyComesFirst s who a = (q : ℕ) → ComesFirst s who q a → ⊥

-- the first that stands inside the text of a partition
abbrev pub first_in : StoreState → ℕ → Option ℕ
first_in s who = first_inside (content s (object.Borrow who))

-- a text would pass its area with a line
abbrev pub IsFullFor : ℕ → List ℕ → Option TextState → Type 0
IsFullFor n atoms None = ⊥
IsFullFor n atoms (Some t) = t.area < size_of (with_line n atoms t.lines)

-- what is made or found of an image is a code
abbrev pub GivesCode : {A : Type 0} → ℕ → (List ℕ → Result A ℕ) → Option (List ℕ) → Type 0
GivesCode c made None = ⊥
GivesCode c made (Some image) = made image ≡ Err c

-- and the same of two things that are there
abbrev pub GivesCodeOf : {A B C : Type 0} → ℕ → (A → B → Result C ℕ) → Option A → Option B → Type 0
GivesCodeOf c made None y = ⊥
GivesCodeOf c made (Some x) None = ⊥
GivesCodeOf c made (Some x) (Some y) = made x y ≡ Err c

-- a name is held, and the text of who holds it has no DEFFN' of a number
abbrev pub LacksMark : ℕ → Option ℕ → StoreState → Type 0
LacksMark mark None s = ⊥
LacksMark mark (Some g) s = mark_in mark (content s (object.Text g)) ≡ None

-- A code that an access meets where nothing stops it: A01, where it puts a line for which its text has no room, and the one of what it
-- makes of an image, or looks for in it; of a text and an image, or of two images; X78, where it declares a name that another holds; and
-- P38, where it enters a text without the DEFFN' that it asks for.
abbrev pub MeetsCode : DiskWork → StoreState → ℕ → ℕ → Access → Type 0
MeetsCode disks s who c (access.PutLine n (Some atoms) homes) = (c ≡ A01_TEXT_AREA) × IsFullFor n atoms (content s (object.Text who))
MeetsCode disks s who c (access.Scratch addr name) = GivesCode c (disks.scratch name) (content s (object.Platter addr))
MeetsCode disks s who c (access.Format addr index end) = GivesCode c (disks.format index end) (content s (object.Platter addr))
MeetsCode disks s who c (access.DataNew addr old sectors name) = GivesCode c (disks.data_new addr old sectors name) (content s (object.Platter addr))
MeetsCode disks s who c (access.DataOpen addr name) = GivesCode c (disks.data_open addr name) (content s (object.Platter addr))
MeetsCode disks s who c (access.DataSave slot values) = GivesCode c (disks.data_save slot values) (content s (object.Platter slot.addr))
MeetsCode disks s who c (access.DataEnd slot) = GivesCode c (disks.data_end slot) (content s (object.Platter slot.addr))
MeetsCode disks s who c (access.DataLoad slot kinds) = GivesCode c (disks.data_load slot kinds) (content s (object.Platter slot.addr))
MeetsCode disks s who c (access.Skip slot way) = GivesCode c (disks.skip slot way) (content s (object.Platter slot.addr))
MeetsCode disks s who c (access.SaveProgram addr old name from to) = GivesCodeOf c (disks.save_program old name from to) (content s (object.Text who)) (content s (object.Platter addr))
MeetsCode disks s who c (access.LoadProgram addr name replace declared homes) = GivesCodeOf c (disks.load_program name replace) (content s (object.Platter addr)) (content s (object.Text who))
MeetsCode disks s who c (access.RawSave addr at values) = GivesCode c (disks.raw_save at values) (content s (object.Platter addr))
MeetsCode disks s who c (access.RawEnd addr at) = GivesCode c (disks.raw_end at) (content s (object.Platter addr))
MeetsCode disks s who c (access.RawLoad addr at kinds) = GivesCode c (disks.raw_load at kinds) (content s (object.Platter addr))
MeetsCode disks s who c (access.BlockSave addr at bytes) = GivesCode c (disks.block_save at bytes) (content s (object.Platter addr))
MeetsCode disks s who c (access.BlockLoad addr at) = GivesCode c (disks.block_load at) (content s (object.Platter addr))
MeetsCode disks s who c (access.MovePlatter from to) = GivesCodeOf c disks.move_platter (content s (object.Platter from)) (content s (object.Platter to))
MeetsCode disks s who c (access.MoveFile from name to) = GivesCodeOf c (disks.move_file name) (content s (object.Platter from)) (content s (object.Platter to))
MeetsCode disks s who c (access.Enter name mark) = (c ≡ P38_NO_DEFFN) × LacksMark mark (holder_of s name) s
MeetsCode disks s who c (access.Declare name old) = (c ≡ X78_NAME_HELD) × (is_held_by_other who (content s (object.Name name)) ≡ true)
MeetsCode disks s who c a = ⊥

-- nobody stands inside the text, where it is edited
abbrev pub NobodyInside : StoreState → ℕ → Access → Type 0
NobodyInside s who a = is_edit a ≡ true → first_in s who ≡ None

-- Wait comes exactly where another partition comes first, and names it
abbrev pub WaitsForTheFirst : Type 0
WaitsForTheFirst = (disks : DiskWork) (who q : ℕ) (a : Access) (s : StoreState) → ((serves disks s who a).answer ≡ answer.Wait q) ↔ ComesFirst s who q a

-- Locked comes exactly where nobody comes first, and an edit meets a partition inside the text; it names the first
abbrev pub LocksForTheFirst : Type 0
LocksForTheFirst = (disks : DiskWork) (who q : ℕ) (a : Access) (s : StoreState) → ((serves disks s who a).answer ≡ answer.Locked q) ↔ (NobodyComesFirst s who a × (is_edit a ≡ true) × (first_in s who ≡ Some q))

-- a code comes exactly where nobody comes first, nobody stands inside the text that is edited, and the access meets the code
abbrev pub RefusesWithTheCode : Type 0
RefusesWithTheCode =
    (disks : DiskWork) (who c : ℕ) (a : Access) (s : StoreState) → ((serves disks s who a).answer ≡ answer.Refused c) ↔ (NobodyComesFirst s who a × NobodyInside s who a × MeetsCode disks s who c a)

-- an access looks for who holds a name, or enters the text of who does, and nobody does
abbrev pub MeetsNobody : StoreState → Access → Type 0
MeetsNobody s (access.FindPart name) = holder_of s name ≡ None
MeetsNobody s (access.Enter name mark) = holder_of s name ≡ None
MeetsNobody s a = ⊥

-- that nobody is there is answered exactly where nobody comes first, nobody stands inside the text that is edited, and the access meets
-- nobody
abbrev pub MissesNobodyElse : Type 0
MissesNobodyElse = (disks : DiskWork) (who : ℕ) (a : Access) (s : StoreState) → ((serves disks s who a).answer ≡ answer.NoPart) ↔ (NobodyComesFirst s who a × NobodyInside s who a × MeetsNobody s a)
