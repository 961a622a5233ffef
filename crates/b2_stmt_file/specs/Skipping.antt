-- DSKIP and DBACKSPACE: the place in an open file is moved.
use Rattle.std.specs.Prelude.{ℕ, ◌==◌, List, Option, Result, Ok, Err, if◌then◌else◌}
use Rattle.b2_base.specs.declared.codes.TheConstants.{S17_NUMERIC}
use Rattle.b2_base.specs.declared.files.By.{By}
use Rattle.b2_base.specs.declared.files.By.TheVariants as by
use Rattle.b2_base.specs.declared.files.Slot.{Slot}
use Rattle.b2_atom.specs.Tree.{Trees}
use Rattle.b2_atom.specs.Tree.Trees.{Put, In}
use Rattle.b2_expr.specs.Answers.{◌>>=◌}
use Rattle.b2_expr.specs.Scope.{Context}
use Rattle.b2_access.specs.declared.accesses.Access.{Access}
use Rattle.b2_access.specs.declared.accesses.Access.TheVariants as access
use Rattle.b2_drive.specs.Drives.{DrivesSeen}
use Rattle.b2_stmt_file.specs.Counts.{count_given}
use Rattle.b2_stmt_file.specs.Slots.{file_used, slot_in}

-- towards the end: to the end mark, or over a number of records
abbrev pub forward : Context → Trees → Result By ℕ
forward e (In k what end) = if k == 1 then Ok by.End else count_given 1 e what >>= (λ n. Ok (by.Forward n))
forward e t = Err S17_NUMERIC

-- towards the beginning: to the first sector, or over a number of records
abbrev pub back : Context → Trees → Result By ℕ
back e (In k what end) = if k == 1 then Ok by.Begin else count_given 1 e what >>= (λ n. Ok (by.Back n))
back e t = Err S17_NUMERIC

-- the slot first
abbrev pub asks_to_skip : (Context → Trees → Result By ℕ) → DrivesSeen → List (Option Slot) → Context → Trees → Result Access ℕ
asks_to_skip way d slots e (Put word (In n slot operand)) = file_used d slots (slot_in slot) >>= (λ file. way e operand >>= (λ w. Ok (access.Skip file w)))
asks_to_skip way d slots e t = Err S17_NUMERIC

abbrev pub slot_skipped : Trees → ℕ
slot_skipped (Put word (In n slot operand)) = slot_in slot
slot_skipped t = 0
