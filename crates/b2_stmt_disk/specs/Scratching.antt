-- SCRATCH and SCRATCH DISK: a file is scratched, and a platter gets an empty index.
use Rattle.std.specs.Prelude.{ℕ, ℤ, pos, nat_le, Option, Some, Result, Ok, Err, if◌then◌else◌}
use Rattle.b2_base.specs.declared.codes.TheConstants.{P34_RANGE, S17_NUMERIC, S18_ALPHA}
use Rattle.b2_atom.specs.Tree.{Trees}
use Rattle.b2_atom.specs.Tree.Trees.{Put, In}
use Rattle.b2_expr.specs.Answers.{◌>>=◌}
use Rattle.b2_expr.specs.Functions.{fixed}
use Rattle.b2_expr.specs.Scope.{Context}
use Rattle.b2_expr.specs.Value.{value}
use Rattle.b2_expr.specs.declared.operators.Level.TheVariants as level
use Rattle.b2_access.specs.declared.accesses.Access.{Access}
use Rattle.b2_access.specs.declared.accesses.Access.TheVariants as access
use Rattle.b2_drive.specs.Drives.{DrivesSeen, drive_used}
use Rattle.b2_drive.specs.FileNames.{name_given}

-- SCRATCH: the drive first, and then the name
abbrev pub asks_to_scratch : DrivesSeen → Context → Trees → Result Access ℕ
asks_to_scratch d e (Put word (In n drive (In m name end))) = drive_used d drive >>= (λ addr. name_given e name >>= (λ name. Ok (access.Scratch addr name)))
asks_to_scratch d e t = Err S18_ALPHA

-- a number of sectors: a number without its fraction of 32 bits without a sign, P34 where it isn't one
abbrev pub sectors : Option ℤ → Result ℕ ℕ
sectors (Some (pos n)) = if nat_le n 4294967295 then Ok n else Err P34_RANGE
sectors z = Err P34_RANGE

abbrev pub sectors_given : Context → Trees → Result ℕ ℕ
sectors_given e t = value e level.Sum t >>= (λ x. sectors (fixed x))

-- SCRATCH DISK: the drive, the sectors of the index, and the last sector of the catalogue
abbrev pub asks_to_format : DrivesSeen → Context → Trees → Result Access ℕ
asks_to_format d e (Put scratch (Put disk (In n drive (Put ls (Put is (In m index (Put comma (Put end (Put equals (In k last more)))))))))) =
    drive_used d drive >>= (λ addr. sectors_given e index >>= (λ i. sectors_given e last >>= (λ l. Ok (access.Format addr i l))))
asks_to_format d e t = Err S17_NUMERIC
