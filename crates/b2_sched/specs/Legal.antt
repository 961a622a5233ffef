-- What statements ask for may be asked for: no line above 9999, and what disks can do.
use Rattle.std.proofs.Common.{List}
use Rattle.b2_access.specs.LegalPlans.{IsLegalPlan, PlansLegally}
use Rattle.b2_access.specs.Planning.{Planning}
use Rattle.b2_access.specs.Touching.{IsLegal}
use Rattle.b2_access.specs.Working.{planned_of, stops}
use Rattle.b2_access.specs.declared.accesses.Access.{Access}
use Rattle.b2_access.specs.declared.accesses.Access.TheVariants as access
use Rattle.b2_access.specs.declared.devices.Device.{Device}
use Rattle.b2_access.proofs.Dispatch.{each_dispatch}
use Rattle.b2_access.proofs.Working.{as_it_comes}
use Rattle.b2_stmt.specs.Plan as stmt
use Rattle.b2_stmt.proofs.EachPlan.{MayAsk, each_plan}
use Rattle.b2_stmt_mat.specs.Plan as stmt_mat
use Rattle.b2_stmt_pack.specs.Plan as stmt_pack
use Rattle.b2_stmt_var.specs.Plan as stmt_var
use Rattle.b2_stmt_disk.specs.devices.Plan as stmt_device
use Rattle.b2_stmt_disk.proofs.of_devices.Legal as stmt_device_laws
use Rattle.b2_stmt_disk.specs.Plan as stmt_disk
use Rattle.b2_stmt_disk.proofs.Legal as stmt_disk_laws
use Rattle.b2_stmt_file.specs.Plan as stmt_file
use Rattle.b2_stmt_file.proofs.Legal as stmt_file_laws
use Rattle.b2_stmt_io.specs.Plan as stmt_io
use Rattle.b2_stmt_io.proofs.Legal as stmt_io_laws
use Rattle.b2_stmt_disk.specs.programs.Plan as stmt_program
use Rattle.b2_stmt_disk.proofs.of_programs.Legal as stmt_program_laws

abbrev Fine : Planning → Type 0
Fine x = IsLegalPlan x.planned

-- statements of control
legally : (a : Access) → MayAsk a → IsLegal a
unfolding MayAsk
legally (access.ClearAll name homes) may = tt
legally (access.Erase from to homes) may = tt
legally (access.Declare name old) may = tt
legally (access.FindPart name) may = tt
legally (access.Enter name mark) may = tt
legally (access.Leave home) may = tt
legally (access.Drop homes) may = tt
legally a may = absurd may

pub control_legally : PlansLegally stmt.plan
control_legally me s = each_plan me s Fine legally (λ l e. tt)

-- statements on variables
pub variables_legally : PlansLegally stmt_var.plan
variables_legally me s =
    as_it_comes IsLegalPlan me s (stmt_var.works me s) (each_dispatch stmt_var.is_refused stops (stmt_var.does me s) me s (λ w. IsLegalPlan (planned_of w)) tt tt (λ p is u. tt))

-- statements on arrays
pub arrays_legally : PlansLegally stmt_mat.plan
arrays_legally me s =
    as_it_comes IsLegalPlan me s (stmt_mat.works me s) (each_dispatch stmt_mat.is_refused stops (stmt_mat.does me s) me s (λ w. IsLegalPlan (planned_of w)) tt tt (λ p is u. tt))

-- statements on packed fields
pub packed_legally : PlansLegally stmt_pack.plan
packed_legally me s =
    as_it_comes IsLegalPlan me s (stmt_pack.works me s) (each_dispatch stmt_pack.is_refused stops (stmt_pack.does me s) me s (λ w. IsLegalPlan (planned_of w)) tt tt (λ p is u. tt))

-- statements at the terminal
pub terminal_legally : (devices : List Device) → PlansLegally (stmt_io.plan devices)
terminal_legally = stmt_io_laws.plans_legally

-- on disks
pub disks_legally : (devices : List Device) → PlansLegally (stmt_disk.plan devices)
disks_legally = stmt_disk_laws.plans_legally

-- that take devices and free them
pub devices_legally : (devices : List Device) → PlansLegally (stmt_device.plan devices)
devices_legally = stmt_device_laws.plans_legally

-- on data files
pub files_legally : (devices : List Device) → PlansLegally (stmt_file.plan devices)
files_legally = stmt_file_laws.plans_legally

-- and on programs on disks
pub programs_legally : (devices : List Device) → PlansLegally (stmt_program.plan devices)
programs_legally = stmt_program_laws.plans_legally
