-- What an access touches and writes, and what it takes.
use Rattle.std.specs.Prelude.{◌≡◌, ◌≢◌, ◌≤◌, ◌&&◌, nat_le, ℕ, Bool, true, List, [], length, Option, Some, None, if◌then◌else◌}
use Rattle.std.specs.List.{list_all}
use Rattle.b2_base.specs.Names.{is_name8}
use Rattle.b2_dec.specs.declared.values.Value.{Value}
use Rattle.b2_dec.specs.declared.values.Value.TheVariants as value
use Rattle.b2_access.specs.declared.objects.Object.{Object}
use Rattle.b2_access.specs.declared.accesses.Access.{Access}
use Rattle.b2_access.specs.declared.accesses.Access.TheVariants as access
use Rattle.b2_access.specs.declared.accesses.Answer.{Answer}
use Rattle.b2_access.specs.declared.accesses.Answer.TheVariants as answer
use Rattle.b2_access.specs.AccessRows.{holder_at, reach, row}
use Rattle.b2_access.specs.AnswerKinds.{stops}
use Rattle.b2_access.specs.Reach.{objects_reached}
use Rattle.b2_access.specs.Store.{StoreState}

-- The objects that an access of a partition touches, whatever its answer is: those that it reaches. By which text it enters is for who
-- holds the name to say.
abbrev pub touched : StoreState → ℕ → Access → List Object
touched s who a = objects_reached who (holder_at a s) (reach a)

-- the partition whose text was entered, as the answer says
abbrev pub entered_in : Answer → Option ℕ
entered_in (answer.Entered g spot) = Some g
entered_in x = None

-- those that it writes, by its answer: one that was stopped writes nothing
abbrev pub written_by : Answer → ℕ → Access → List Object
written_by x who a = if stops x then [] else (row a).writes who (entered_in x)

-- what a record may have: a number, or at least one byte and at most 124
abbrev pub is_short : Value → Bool
is_short (value.Number x) = true
is_short (value.Alpha bytes) = nat_le 1 (length bytes) && nat_le (length bytes) 124

-- a name of a file: one with the blanks at its end
abbrev pub IsName : List ℕ → Type 0
IsName name = (is_name8 name ≡ true) × (length name ≡ 8)

-- Lines have numbers up to 9999; a new file has at least two sectors, and one that is made has a name; a place in a file is none before
-- its first sector; what is saved a record may have; a sector gets at most 256 bytes; and files are moved to another disk.
abbrev pub IsLegal : Access → Type 0
IsLegal (access.PutLine line atoms homes) = line ≤ 9999
IsLegal (access.DataNew addr None sectors name) = (2 ≤ sectors) × IsName name
IsLegal (access.DataNew addr (Some old) sectors name) = IsName name
IsLegal (access.DataSave slot values) = (list_all is_short values ≡ true) × (slot.start ≤ slot.pos)
IsLegal (access.DataEnd slot) = slot.start ≤ slot.pos
IsLegal (access.DataLoad slot kinds) = slot.start ≤ slot.pos
IsLegal (access.Skip slot way) = slot.start ≤ slot.pos
IsLegal (access.SaveProgram addr old name from to) = IsName name
IsLegal (access.RawSave addr at values) = list_all is_short values ≡ true
IsLegal (access.BlockSave addr at bytes) = length bytes ≤ 256
IsLegal (access.MovePlatter from to) = from ≢ to
IsLegal (access.MoveFile from name to) = from ≢ to
IsLegal a = Unit {0}

-- Which accesses may want memory: those that put bytes, a line, a name, or one more who stands inside a text, where there may be no room
-- kept for them; one that lays out bytes; and those that read records, sectors or programs, or lay out programs. A key is taken, lines are taken out,
-- names are given up, texts are left and given back, devices are taken and freed, and disks are looked at and changed else without any.
abbrev pub MayWantMemory : Access → Type 0
MayWantMemory (access.Show term bytes column) = Unit {0}
MayWantMemory (access.PrintTo addr bytes column) = Unit {0}
MayWantMemory (access.ReadLine term) = Unit {0}
MayWantMemory (access.Insert term bytes) = Unit {0}
MayWantMemory (access.PutLine line (Some atoms) homes) = Unit {0}
MayWantMemory (access.Declare name old) = Unit {0}
MayWantMemory (access.Enter name mark) = Unit {0}
MayWantMemory (access.ListDisk addr) = Unit {0}
MayWantMemory (access.DataLoad slot kinds) = Unit {0}
MayWantMemory (access.Skip slot way) = Unit {0}
MayWantMemory (access.SaveProgram addr old name from to) = Unit {0}
MayWantMemory (access.LoadProgram addr name replace declared homes) = Unit {0}
MayWantMemory (access.RawLoad addr at kinds) = Unit {0}
MayWantMemory (access.BlockLoad addr at) = Unit {0}
MayWantMemory (access.MovePlatter from to) = Unit {0}
MayWantMemory a = ⊥
