-- Which crate executes the statements of a row; so what they plan, and how they finish.
use Rattle.std.specs.Prelude.{ℕ, ◌||◌, ◌&&◌, not, Bool, List, if◌then◌else◌}
use Rattle.b2_access.specs.Lending.{SeenLent}
use Rattle.b2_access.specs.Planning.{Finishing, Planning}
use Rattle.b2_access.specs.declared.accesses.Access.{Access}
use Rattle.b2_access.specs.declared.accesses.Answer.{Answer}
use Rattle.b2_access.specs.declared.devices.Device.{Device}
use Rattle.b2_access.specs.declared.private.Private.{Private}
use Rattle.b2_language.specs.Languages.{Ways}
use Rattle.b2_stmt.specs.Clearing.{asks_access}
use Rattle.b2_stmt.specs.Plan as stmt
use Rattle.b2_stmt_disk.specs.devices.Plan as stmt_device
use Rattle.b2_stmt_disk.specs.Plan as stmt_disk
use Rattle.b2_stmt_file.specs.Plan as stmt_file
use Rattle.b2_stmt_io.specs.Plan as stmt_io
use Rattle.b2_stmt_mat.specs.Plan as stmt_mat
use Rattle.b2_stmt_pack.specs.Plan as stmt_pack
use Rattle.b2_stmt_disk.specs.programs.Plan as stmt_program
use Rattle.b2_stmt_var.specs.Plan as stmt_var
use Rattle.b2_sched.specs.declared.choice.Family.{Family}
use Rattle.b2_sched.specs.declared.choice.Family.TheVariants as family

abbrev pub is_built : ℕ → Bool
is_built r = stmt_var.is_built r || stmt.is_built r || stmt_io.is_built r || stmt_mat.is_built r || stmt_pack.is_built r || stmt_file.is_built r || stmt_program.is_built r || stmt_device.is_built r || stmt_disk.is_built r

-- a statement on variables, and one of control that asks for nothing by its row, is planned at once where it was found
abbrev pub is_at_once : ℕ → Bool
is_at_once r = stmt_var.is_built r || (stmt.is_built r && not (asks_access r))

-- the family of a row that is built
abbrev pub family_of : ℕ → Family
family_of r =
    if stmt_var.is_built r then family.Variables
    else (if stmt.is_built r then family.Control
    else (if stmt_io.is_printing r then family.Printing
    else (if stmt_io.is_built r then family.Terminal
    else (if stmt_mat.is_built r then family.Arrays
    else (if stmt_pack.is_built r then family.Packed
    else (if stmt_file.is_built r then family.Files
    else (if stmt_program.is_built r then family.Programs
    else (if stmt_device.is_built r then family.Devices
    else family.Disks))))))))

abbrev pub plan_by : List Device → Family → Private → SeenLent → Planning
plan_by devices family.Variables me s = stmt_var.plan me s
plan_by devices family.Control me s = stmt.plan me s
plan_by devices family.Printing me s = stmt_io.plan devices me s
plan_by devices family.Terminal me s = stmt_io.plan devices me s
plan_by devices family.Arrays me s = stmt_mat.plan me s
plan_by devices family.Packed me s = stmt_pack.plan me s
plan_by devices family.Files me s = stmt_file.plan devices me s
plan_by devices family.Programs me s = stmt_program.plan devices me s
plan_by devices family.Devices me s = stmt_device.plan devices me s
plan_by devices family.Disks me s = stmt_disk.plan devices me s

abbrev pub finish_by : Family → Access → Answer → Private → SeenLent → Finishing
finish_by family.Variables x a me s = stmt_var.finish x a me s
finish_by family.Control x a me s = stmt.finish x a me s
finish_by family.Printing x a me s = stmt_io.finish_printing x a me s
finish_by family.Terminal x a me s = stmt_io.finish x a me s
finish_by family.Arrays x a me s = stmt_mat.finish x a me s
finish_by family.Packed x a me s = stmt_pack.finish x a me s
finish_by family.Files x a me s = stmt_file.finish x a me s
finish_by family.Programs x a me s = stmt_program.finish x a me s
finish_by family.Devices x a me s = stmt_device.finish x a me s
finish_by family.Disks x a me s = stmt_disk.finish x a me s

abbrev pub plan : List Device → ℕ → Private → SeenLent → Planning
plan devices r me s = plan_by devices (family_of r) me s

abbrev pub finish : ℕ → Access → Answer → Private → SeenLent → Finishing
finish r x a me s = finish_by (family_of r) x a me s

-- THE LANGUAGE OF THE MACHINE, over the devices that there are
abbrev pub basic : List Device → Ways
basic devices = record { built = is_built; plan = plan devices; finish = finish }
