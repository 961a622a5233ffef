-- The slots of a partition: the data files that it has open, by their numbers.
use Rattle.std.specs.Prelude.{ℕ, nat_le, List, get_or, slice_set, Option, Some, None, Result, Ok, Err, if◌then◌else◌}
use Rattle.b2_base.specs.Byte as byte
use Rattle.b2_base.specs.declared.codes.TheConstants.{D80_NOT_OPEN, P48_DEVICE}
use Rattle.b2_base.specs.declared.files.Slot.{Slot}
use Rattle.b2_atom.specs.Tokens.Token.{Plain}
use Rattle.b2_atom.specs.Tree.{Trees}
use Rattle.b2_atom.specs.Tree.Trees.{Done, Put}
use Rattle.b2_atom.specs.Words.{Text}
use Rattle.b2_atom.specs.Grammar.{starts}
use Rattle.b2_atom.specs.declared.words.Origin.TheVariants.{Atoms}
use Rattle.b2_atom.specs.declared.rows.TheConstants as row
use Rattle.b2_atom.specs.declared.forms.Start.{Start}
use Rattle.b2_atom.specs.declared.forms.Start.TheVariants as start
use Rattle.b2_rows.specs.Rows.{tree_at}
use Rattle.b2_rows.specs.Values.{slot_number}
use Rattle.b2_expr.specs.Answers.{◌>>=◌}
use Rattle.b2_drive.specs.Drives.{DrivesSeen}

-- the number of the slot that is written, 0 where none is
abbrev pub slot_in : Trees → ℕ
slot_in (Put (Plain k bytes) comma) = slot_number bytes
slot_in t = 0

-- a slot is written where a number sign stands
abbrev pub number_sign : Start
number_sign = start.Code byte.number_sign

abbrev pub slot_tree : Text → Trees
slot_tree t = if starts Atoms number_sign t then tree_at row.SLOT t else Done

-- The file that a slot holds, D80 where it holds none. A file counts as open where its place isn't before its first sector.
abbrev pub file_held : Option Slot → Result Slot ℕ
file_held None = Err D80_NOT_OPEN
file_held (Some s) = if nat_le s.start s.pos then Ok s else Err D80_NOT_OPEN

-- its own platter must be one that the partition may use, else P48: the one that is selected isn't looked at
abbrev pub file_listed : DrivesSeen → Slot → Result Slot ℕ
file_listed d s = if d.listed s.addr then Ok s else Err P48_DEVICE

abbrev pub file_used : DrivesSeen → List (Option Slot) → ℕ → Result Slot ℕ
file_used d slots n = file_held (get_or slots n None) >>= file_listed d

-- a slot holds a file from then on
abbrev pub with_file : ℕ → Slot → List (Option Slot) → List (Option Slot)
with_file n s slots = slice_set slots n (Some s)
