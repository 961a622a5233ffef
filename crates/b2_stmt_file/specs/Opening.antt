-- DATASAVE DC OPEN and DATALOAD DC OPEN: a data file is made, or one that is there is opened. The slot and the file that it holds
-- aren't looked at.
use Rattle.std.specs.Prelude.{ℕ, ◌==◌, List, Some, None, Result, Ok, Err, if◌then◌else◌}
use Rattle.b2_base.specs.declared.codes.TheConstants.{S17_NUMERIC, S18_ALPHA}
use Rattle.b2_atom.specs.Tree.{Trees}
use Rattle.b2_atom.specs.Tree.Trees.{Put, In}
use Rattle.b2_expr.specs.Answers.{◌>>=◌}
use Rattle.b2_expr.specs.Scope.{Context}
use Rattle.b2_access.specs.declared.accesses.Access.{Access}
use Rattle.b2_access.specs.declared.accesses.Access.TheVariants as access
use Rattle.b2_drive.specs.Drives.{DrivesSeen, drive_used}
use Rattle.b2_drive.specs.FileNames.{name_given}
use Rattle.b2_stmt_file.specs.Counts.{count_given}
use Rattle.b2_stmt_file.specs.Slots.{slot_in}

-- the name of a scratched file in parentheses, whose sectors are used again, and the new name
abbrev pub reuses : Context → List ℕ → Trees → Trees → Result Access ℕ
reuses e addr (Put opening (In n old closing)) name = name_given e old >>= (λ o. name_given e name >>= (λ x. Ok (access.DataNew addr (Some o) 0 x)))
reuses e addr t name = Err S18_ALPHA

-- or a number of sectors, of which there are at least two, and the name
abbrev pub makes : Context → List ℕ → Trees → Trees → Result Access ℕ
makes e addr sectors name = count_given 2 e sectors >>= (λ n. name_given e name >>= (λ x. Ok (access.DataNew addr None n x)))

abbrev pub new_file : Context → List ℕ → Trees → Result Access ℕ
new_file e addr (In k what (Put comma (In n name end))) = if k == 1 then reuses e addr what name else makes e addr what name
new_file e addr t = Err S17_NUMERIC

-- the drive first
abbrev pub asks_for_new : DrivesSeen → Context → Trees → Result Access ℕ
asks_for_new d e (Put word (In n drive (In m slot file))) = drive_used d drive >>= (λ addr. new_file e addr file)
asks_for_new d e t = Err S17_NUMERIC

abbrev pub old_file : Context → List ℕ → Trees → Result Access ℕ
old_file e addr (In n name end) = name_given e name >>= (λ x. Ok (access.DataOpen addr x))
old_file e addr t = Err S18_ALPHA

abbrev pub asks_for_old : DrivesSeen → Context → Trees → Result Access ℕ
asks_for_old d e (Put word (In n drive (In m slot file))) = drive_used d drive >>= (λ addr. old_file e addr file)
asks_for_old d e t = Err S18_ALPHA

-- the slot that holds the file once it is open
abbrev pub slot_opened : Trees → ℕ
slot_opened (Put word (In n drive (In m slot file))) = slot_in slot
slot_opened t = 0
