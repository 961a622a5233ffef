-- MOVE: files are moved to another disk, all of them or one.
use Rattle.std.specs.Prelude.{ℕ, ◌==◌, List, drop, Option, Some, None, Result, Ok, Err, if◌then◌else◌}
use Rattle.std.specs.Str.{bytes_eq}
use Rattle.b2_base.specs.Byte as byte
use Rattle.b2_base.specs.Lexical.{first}
use Rattle.b2_base.specs.declared.codes.TheConstants.{P34_RANGE, S23_DEVICE}
use Rattle.b2_atom.specs.Tree.{Trees}
use Rattle.b2_atom.specs.Tree.Trees.{Done, Put, In}
use Rattle.b2_atom.specs.Words.{Text}
use Rattle.b2_expr.specs.Answers.{◌>>=◌}
use Rattle.b2_expr.specs.Scope.{Context}
use Rattle.b2_access.specs.declared.accesses.Access.{Access}
use Rattle.b2_access.specs.declared.accesses.Access.TheVariants as access
use Rattle.b2_drive.specs.Drives.{DrivesSeen, address_in, drive_used, platter_meant, platter_used}
use Rattle.b2_drive.specs.FileNames.{name_given}

-- What is moved: a drive, which names a platter after its `T/` or none, and after a comma the name of a file, where one is written.
abbrev pub device_from : Trees → Option (List ℕ)
device_from (Put letter (In m (In n device name) end)) = if m == 1 then Some (address_in device) else None
device_from t = None

abbrev pub name_branch : Trees → Trees
name_branch (Put letter (In m (In n a more) end)) = if m == 1 then more else In n a more
name_branch t = Done

abbrev pub file_in : Context → Trees → Result (Option (List ℕ)) ℕ
file_in e (In k (Put comma (In n name end)) more) = if k == 1 then (name_given e name >>= (λ x. Ok (Some x))) else Ok None
file_in e t = Ok None

abbrev pub drive_from : DrivesSeen → Trees → Result (List ℕ) ℕ
drive_from d t = platter_used d (platter_meant (device_from t) d.selected)

abbrev pub file_moved : Context → Trees → Result (Option (List ℕ)) ℕ
file_moved e t = file_in e (name_branch t)

-- all files, or the one that is named
abbrev pub moves : List ℕ → Option (List ℕ) → List ℕ → Access
moves from None to = access.MovePlatter from to
moves from (Some name) to = access.MoveFile from name to

-- P34 where both are one platter
abbrev pub moves_apart : List ℕ → Option (List ℕ) → List ℕ → Result Access ℕ
moves_apart from name to = if bytes_eq from to then Err P34_RANGE else Ok (moves from name to)

-- the drive and the name first, then the other drive, and then whether they are two
abbrev pub asks_to_move : DrivesSeen → Context → Trees → Result Access ℕ
asks_to_move d e (Put move (In n moved (Put to (In m drive end)))) = drive_from d moved >>= (λ a. file_moved e moved >>= (λ name. drive_used d drive >>= (λ b. moves_apart a name b)))
asks_to_move d e t = Err S23_DEVICE

-- what stands after the drive of what is moved, at its bytes
unfoldable pub after_drive_from : Text → Text
after_drive_from t = if first (drop 1 t) == byte.slash then drop 3 (drop 1 (drop 1 t)) else drop 1 t
