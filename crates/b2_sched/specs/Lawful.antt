-- What holds of the statements of each crate holds of the language: by the family of their row, and by nothing else.
use Rattle.std.proofs.Common.{◌≡◌, ℕ, Bool, true, false, true≢false, ◌&&◌, ◌||◌, not, List, refl, sym}
use Rattle.b2_access.specs.LeftAlone.{LeaveTheRest}
use Rattle.b2_access.specs.OpenFiles.{FinishesKeepOpenFiles, PlansKeepOpenFiles}
use Rattle.b2_access.specs.OwnDevices.{PlansListed}
use Rattle.b2_access.specs.declared.devices.Device.{Device}
use Rattle.b2_access.specs.LegalPlans.{PlansLegally}
use Rattle.b2_access.specs.Lending.{SeenLent}
use Rattle.b2_access.specs.Planning.{Planning}
use Rattle.b2_access.specs.Working.{Working, Ends, Plans, as_planned}
use Rattle.b2_access.specs.declared.accesses.Access.{Access}
use Rattle.b2_access.specs.declared.accesses.Answer.{Answer}
use Rattle.b2_access.specs.declared.private.Private.{Private}
use Rattle.b2_language.specs.Languages.{AreLawful, AskForListed, GoByListed, KeepOpenFiles, ListAlike}
use Rattle.b2_stmt.specs.Clearing.{asks_access}
use Rattle.b2_stmt.specs.Plan as stmt
use Rattle.b2_stmt.proofs.EachPlan.{each_plan}
use Rattle.b2_stmt.proofs.LeftAlone as stmt_laws
use Rattle.b2_stmt_disk.specs.devices.Plan as stmt_device
use Rattle.b2_stmt_disk.proofs.of_devices.LeftAlone as stmt_device_laws
use Rattle.b2_stmt_disk.proofs.of_devices.ByTable as stmt_device_table
use Rattle.b2_stmt_disk.proofs.of_devices.Listed as stmt_device_listed
use Rattle.b2_stmt_disk.specs.Plan as stmt_disk
use Rattle.b2_stmt_disk.proofs.LeftAlone as stmt_disk_laws
use Rattle.b2_stmt_disk.proofs.ByTable as stmt_disk_table
use Rattle.b2_stmt_disk.proofs.Listed as stmt_disk_listed
use Rattle.b2_stmt_file.specs.Plan as stmt_file
use Rattle.b2_stmt_file.proofs.LeftAlone as stmt_file_laws
use Rattle.b2_stmt_file.proofs.ByTable as stmt_file_table
use Rattle.b2_stmt_file.proofs.Listed as stmt_file_listed
use Rattle.b2_stmt_file.proofs.OpenFiles as stmt_file_open
use Rattle.b2_stmt_io.specs.Plan as stmt_io
use Rattle.b2_stmt_io.proofs.LeftAlone as stmt_io_laws
use Rattle.b2_stmt_io.proofs.Listed as stmt_io_listed
use Rattle.b2_stmt_mat.specs.Plan as stmt_mat
use Rattle.b2_stmt_mat.proofs.LeftAlone as stmt_mat_laws
use Rattle.b2_stmt_pack.specs.Plan as stmt_pack
use Rattle.b2_stmt_pack.proofs.LeftAlone as stmt_pack_laws
use Rattle.b2_stmt_disk.specs.programs.Plan as stmt_program
use Rattle.b2_stmt_disk.proofs.of_programs.LeftAlone as stmt_program_laws
use Rattle.b2_stmt_disk.proofs.of_programs.ByTable as stmt_program_table
use Rattle.b2_stmt_disk.proofs.of_programs.Listed as stmt_program_listed
use Rattle.b2_stmt_var.specs.Plan as stmt_var
use Rattle.b2_stmt_var.proofs.LeftAlone as stmt_var_laws
use Rattle.b2_sched.specs.Choice.{basic, family_of, finish_by, is_at_once, is_built, plan_by}
use Rattle.b2_sched.specs.KeptFiles as kept
use Rattle.b2_sched.specs.Legal.{arrays_legally, control_legally, devices_legally, disks_legally, files_legally, packed_legally, programs_legally, terminal_legally, variables_legally}
use Rattle.b2_sched.specs.Listed.{arrays_listed, control_listed, packed_listed, terminal_by_listed, variables_listed}
use Rattle.b2_sched.specs.declared.choice.Family.{Family}
use Rattle.b2_sched.specs.declared.choice.Family.TheVariants as family

plan_legally : (devices : List Device) (f : Family) → PlansLegally (plan_by devices f)
plan_legally devices family.Variables = variables_legally
plan_legally devices family.Control = control_legally
plan_legally devices family.Printing = terminal_legally devices
plan_legally devices family.Terminal = terminal_legally devices
plan_legally devices family.Arrays = arrays_legally
plan_legally devices family.Packed = packed_legally
plan_legally devices family.Files = files_legally devices
plan_legally devices family.Programs = programs_legally devices
plan_legally devices family.Devices = devices_legally devices
plan_legally devices family.Disks = disks_legally devices

pub leave_the_rest : (devices : List Device) (f : Family) → LeaveTheRest (plan_by devices f) (finish_by f)
leave_the_rest devices family.Variables = stmt_var_laws.leave_the_rest
leave_the_rest devices family.Control = stmt_laws.leave_the_rest
leave_the_rest devices family.Printing = (stmt_io_laws.leave_the_rest devices).1
leave_the_rest devices family.Terminal = (stmt_io_laws.leave_the_rest devices).0
leave_the_rest devices family.Arrays = stmt_mat_laws.leave_the_rest
leave_the_rest devices family.Packed = stmt_pack_laws.leave_the_rest
leave_the_rest devices family.Files = stmt_file_laws.leave_the_rest devices
leave_the_rest devices family.Programs = stmt_program_laws.leave_the_rest devices
leave_the_rest devices family.Devices = stmt_device_laws.leave_the_rest devices
leave_the_rest devices family.Disks = stmt_disk_laws.leave_the_rest devices

-- A statement leaves which partition it is.
planned_part : (me : Private) (s : SeenLent) (w : Working) → (as_planned me s w).me.part ≡ me.part
planned_part me s (Ends w) = refl
planned_part me s (Plans p) = refl

control_part : (me : Private) (s : SeenLent) → (stmt.plan me s).me.part ≡ me.part
control_part me s = each_plan me s (λ (x : Planning). x.me.part ≡ me.part) (λ a may. refl) (λ l e. refl)

plan_part : (devices : List Device) (f : Family) (me : Private) (s : SeenLent) → (plan_by devices f me s).me.part ≡ me.part
plan_part devices family.Variables me s = planned_part me s (stmt_var.works me s)
plan_part devices family.Control me s = control_part me s
plan_part devices family.Printing me s = planned_part me s (stmt_io.works devices me s)
plan_part devices family.Terminal me s = planned_part me s (stmt_io.works devices me s)
plan_part devices family.Arrays me s = planned_part me s (stmt_mat.works me s)
plan_part devices family.Packed me s = planned_part me s (stmt_pack.works me s)
plan_part devices family.Files me s = planned_part me s (stmt_file.works devices me s)
plan_part devices family.Programs me s = planned_part me s (stmt_program.works devices me s)
plan_part devices family.Devices me s = planned_part me s (stmt_device.works devices me s)
plan_part devices family.Disks me s = planned_part me s (stmt_disk.works devices me s)

finish_part : (f : Family) (x : Access) (a : Answer) (me : Private) (s : SeenLent) → (finish_by f x a me s).me.part ≡ me.part
finish_part family.Variables x a me s = refl
finish_part family.Control x a me s = refl
finish_part family.Printing x a me s = refl
finish_part family.Terminal x a me s = refl
finish_part family.Arrays x a me s = refl
finish_part family.Packed x a me s = refl
finish_part family.Files x a me s = refl
finish_part family.Programs x a me s = refl
finish_part family.Devices x a me s = refl
finish_part family.Disks x a me s = refl

pub basic_is_lawful : (devices : List Device) → AreLawful (basic devices)
basic_is_lawful devices = record {
  no_list = refl;
  plans_legally = λ r. plan_legally devices (family_of r);
  leave_the_rest = λ r. leave_the_rest devices (family_of r);
  plans_keep_part = λ r. plan_part devices (family_of r);
  finishes_keep_part = λ r. finish_part (family_of r);
}

plan_listed : (f : Family) → PlansListed (λ devices. plan_by devices f)
plan_listed family.Variables = variables_listed
plan_listed family.Control = control_listed
plan_listed family.Printing = stmt_io_listed.asked_are_listed
plan_listed family.Terminal = stmt_io_listed.asked_are_listed
plan_listed family.Arrays = arrays_listed
plan_listed family.Packed = packed_listed
plan_listed family.Files = stmt_file_listed.asked_are_listed
plan_listed family.Programs = stmt_program_listed.asked_are_listed
plan_listed family.Devices = stmt_device_listed.asked_are_listed
plan_listed family.Disks = stmt_disk_listed.asked_are_listed

pub basic_asks_for_listed : AskForListed basic
basic_asks_for_listed r = plan_listed (family_of r)

-- Over two tables that list the same for its partition a statement plans the same; four crates look at no table.
plan_alike : (f : Family) (ds es : List Device) (me : Private) (s : SeenLent) → ListAlike me.part ds es → plan_by ds f me s ≡ plan_by es f me s
plan_alike family.Variables ds es me s alike = refl
plan_alike family.Control ds es me s alike = refl
plan_alike family.Printing ds es me s alike = terminal_by_listed ds es me s (alike true)
plan_alike family.Terminal ds es me s alike = terminal_by_listed ds es me s (alike true)
plan_alike family.Arrays ds es me s alike = refl
plan_alike family.Packed ds es me s alike = refl
plan_alike family.Files ds es me s alike = stmt_file_table.by_table ds es me s (alike false)
plan_alike family.Programs ds es me s alike = stmt_program_table.by_table ds es me s (alike false)
plan_alike family.Devices ds es me s alike = stmt_device_table.by_table ds es me s alike
plan_alike family.Disks ds es me s alike = stmt_disk_table.by_table ds es me s (alike false)

pub basic_goes_by_listed : GoByListed basic
basic_goes_by_listed = record { same_rows = λ ds es. refl; plans_alike = λ r. plan_alike (family_of r); finishes_alike = λ ds es. refl }

-- Where files are open, they stay so.
plan_open : (f : Family) → PlansKeepOpenFiles (λ devices. plan_by devices f)
plan_open family.Variables = kept.variables_plan_open
plan_open family.Control = kept.control_plans_open
plan_open family.Printing = kept.terminal_plans_open
plan_open family.Terminal = kept.terminal_plans_open
plan_open family.Arrays = kept.arrays_plan_open
plan_open family.Packed = kept.packed_plan_open
plan_open family.Files = stmt_file_open.plans_keep_open_files
plan_open family.Programs = kept.programs_plan_open
plan_open family.Devices = kept.devices_plan_open
plan_open family.Disks = kept.disks_plan_open

finish_open : (f : Family) → FinishesKeepOpenFiles (finish_by f)
finish_open family.Variables = kept.variables_finish_open
finish_open family.Control = kept.control_finishes_open
finish_open family.Printing = kept.printing_finishes_open
finish_open family.Terminal = kept.terminal_finishes_open
finish_open family.Arrays = kept.arrays_finish_open
finish_open family.Packed = kept.packed_finish_open
finish_open family.Files = stmt_file_open.finishes_keep_open_files
finish_open family.Programs = kept.programs_finish_open
finish_open family.Devices = kept.devices_finish_open
finish_open family.Disks = kept.disks_finish_open

pub basic_keeps_open_files : KeepOpenFiles basic
basic_keeps_open_files = record { as_planned = λ r. plan_open (family_of r); as_finished = λ devices r. finish_open (family_of r) }

built_by : (a b c d e f g h i j : Bool) → (a || (b && not c)) ≡ true → (a || b || d || e || f || g || h || i || j) ≡ true
built_by true b c d e f g h i j is = refl
built_by false true c d e f g h i j is = refl
built_by false false c d e f g h i j is = absurd (true≢false (sym is))

pub at_once_is_built : (devices : List Device) (r : ℕ) → is_at_once r ≡ true → is_built r ≡ true
at_once_is_built devices r is = built_by (stmt_var.is_built r) (stmt.is_built r) (asks_access r) (stmt_io.is_built r) (stmt_mat.is_built r) (stmt_pack.is_built r) (stmt_file.is_built r) (stmt_program.is_built r) (stmt_device.is_built r) (stmt_disk.is_built r) is
