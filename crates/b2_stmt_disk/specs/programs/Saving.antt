-- SAVE: lines of the text are saved as a program on a disk.
use Rattle.std.specs.Prelude.{ℕ, ◌==◌, List, Option, Some, None, unwrap_or, Result, Ok, Err, if◌then◌else◌}
use Rattle.b2_base.specs.declared.codes.TheConstants.{S18_ALPHA}
use Rattle.b2_atom.specs.Tree.{Trees}
use Rattle.b2_atom.specs.Tree.Trees.{Done, Put, In}
use Rattle.b2_rows.specs.LineNumbers.{lines_from}
use Rattle.b2_expr.specs.Answers.{◌>>=◌}
use Rattle.b2_expr.specs.Scope.{Context}
use Rattle.b2_access.specs.declared.accesses.Access.{Access}
use Rattle.b2_access.specs.declared.accesses.Access.TheVariants as access
use Rattle.b2_drive.specs.Drives.{DrivesSeen, drive_used}
use Rattle.b2_drive.specs.FileNames.{name_given}

-- the name of the scratched file whose sectors are used again, where one is written in parentheses
abbrev pub inside : Trees → Trees
inside (In n (Put opening (In m name closing)) comma) = name
inside t = Done

abbrev pub old_named : Context → Trees → Result (Option (List ℕ)) ℕ
old_named e (In k old more) = if k == 1 then (name_given e (inside old) >>= (λ name. Ok (Some name))) else Ok None
old_named e t = Ok None

-- The first and the last of the lines that are saved: a line that is written alone and all after it, and all lines where none is written.
abbrev pub up_to_last : ℕ × Option ℕ → ℕ × ℕ
up_to_last lines = (lines.0, unwrap_or lines.1 9999)

abbrev pub lines_after : Trees → ℕ × ℕ
lines_after (Put comma lines) = up_to_last (lines_from lines)
lines_after t = (0, 9999)

abbrev pub lines_saved : Trees → ℕ × ℕ
lines_saved (In k lines end) = if k == 1 then lines_after lines else (0, 9999)
lines_saved t = (0, 9999)

abbrev pub saves : List ℕ → Option (List ℕ) → List ℕ → ℕ × ℕ → Access
saves addr old name lines = access.SaveProgram addr old name lines.0 lines.1

-- the drive first, then the old name, and then the name
abbrev pub asks_to_save : DrivesSeen → Context → Trees → Result Access ℕ
asks_to_save d e (Put word (In n drive (In k old (In m name lines)))) =
    drive_used d drive >>= (λ addr. old_named e (In k old Done) >>= (λ old. name_given e name >>= (λ name. Ok (saves addr old name (lines_saved lines)))))
asks_to_save d e t = Err S18_ALPHA
