-- LIST DC: the index of a disk is listed at the terminal.
use Rattle.std.specs.Prelude.{ℕ, List, Option, Some, None, Result, Ok, Err}
use Rattle.b2_base.specs.declared.codes.TheConstants.{S23_DEVICE}
use Rattle.b2_atom.specs.Tree.{Trees}
use Rattle.b2_atom.specs.Tree.Trees.{Put, In}
use Rattle.b2_expr.specs.Answers.{◌>>=◌}
use Rattle.b2_access.specs.Working.{Worked, leaves, work_of}
use Rattle.b2_access.specs.declared.accesses.Access.{Access}
use Rattle.b2_access.specs.declared.accesses.Access.TheVariants as access
use Rattle.b2_access.specs.declared.planned.Outcome.TheVariants as outcome
use Rattle.b2_access.specs.declared.private.Private.{Private}
use Rattle.b2_drive.specs.Drives.{DrivesSeen, drive_used}

abbrev pub asks_to_list : DrivesSeen → Trees → Result Access ℕ
asks_to_list d (Put list (Put dc (In n drive end))) = drive_used d drive >>= (λ addr. Ok (access.ListDisk addr))
asks_to_list d t = Err S23_DEVICE

-- how it finishes: the listing waits to be shown at the terminal as it stands, or it is asked for again
abbrev pub listing_ends : Option (List ℕ) → Private → Worked
listing_ends None me = leaves me outcome.Repeat
listing_ends (Some bytes) me = record { work = record (work_of me) { shows = Some bytes }; outcome = outcome.Next }
