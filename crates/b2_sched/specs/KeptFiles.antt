-- Statements leave the files that a partition has open as they are, each by its form; CLEAR closes all; and those on data files have a law of
-- their own.
use Rattle.b2_access.specs.OpenFiles.{FinishesKeepOpenFiles, HasOpenFiles, PlansKeepOpenFiles}
use Rattle.b2_access.specs.Planning.{Planning}
use Rattle.b2_access.specs.Working.{on_devices, plain}
use Rattle.b2_access.proofs.OpenFiles.{finishes_keep_open, plans_keep_open, steered_open}
use Rattle.b2_access.proofs.Working as form
use Rattle.b2_stmt.specs.Plan as stmt
use Rattle.b2_stmt.proofs.EachPlan.{each_plan}
use Rattle.b2_stmt_disk.specs.devices.Plan as stmt_device
use Rattle.b2_stmt_disk.specs.Plan as stmt_disk
use Rattle.b2_stmt_io.specs.Plan as stmt_io
use Rattle.b2_stmt_mat.specs.Plan as stmt_mat
use Rattle.b2_stmt_pack.specs.Plan as stmt_pack
use Rattle.b2_stmt_disk.specs.programs.Plan as stmt_program
use Rattle.b2_stmt_var.specs.Plan as stmt_var

-- statements on variables
pub variables_plan_open : PlansKeepOpenFiles (λ devices. stmt_var.plan)
variables_plan_open = plans_keep_open (λ devices. stmt_var.plan) (λ devices. form.plans_keep_files stmt_var.works)

pub variables_finish_open : FinishesKeepOpenFiles stmt_var.finish
variables_finish_open = finishes_keep_open stmt_var.finish (form.finishes_keep_files plain form.plain_files stmt_var.ends)

-- on arrays
pub arrays_plan_open : PlansKeepOpenFiles (λ devices. stmt_mat.plan)
arrays_plan_open = plans_keep_open (λ devices. stmt_mat.plan) (λ devices. form.plans_keep_files stmt_mat.works)

pub arrays_finish_open : FinishesKeepOpenFiles stmt_mat.finish
arrays_finish_open = finishes_keep_open stmt_mat.finish (form.finishes_keep_files plain form.plain_files stmt_mat.ends)

-- on packed fields
pub packed_plan_open : PlansKeepOpenFiles (λ devices. stmt_pack.plan)
packed_plan_open = plans_keep_open (λ devices. stmt_pack.plan) (λ devices. form.plans_keep_files stmt_pack.works)

pub packed_finish_open : FinishesKeepOpenFiles stmt_pack.finish
packed_finish_open = finishes_keep_open stmt_pack.finish (form.finishes_keep_files plain form.plain_files stmt_pack.ends)

-- at the terminal
pub terminal_plans_open : PlansKeepOpenFiles stmt_io.plan
terminal_plans_open = plans_keep_open stmt_io.plan (λ devices. form.plans_keep_files (stmt_io.works devices))

pub terminal_finishes_open : FinishesKeepOpenFiles stmt_io.finish
terminal_finishes_open = finishes_keep_open stmt_io.finish (form.finishes_keep_files plain form.plain_files stmt_io.ends)

pub printing_finishes_open : FinishesKeepOpenFiles stmt_io.finish_printing
printing_finishes_open = finishes_keep_open stmt_io.finish_printing (form.finishes_keep_files plain form.plain_files stmt_io.printing_ends)

-- on disks
pub disks_plan_open : PlansKeepOpenFiles stmt_disk.plan
disks_plan_open = plans_keep_open stmt_disk.plan (λ devices. form.plans_keep_files (stmt_disk.works devices))

pub disks_finish_open : FinishesKeepOpenFiles stmt_disk.finish
disks_finish_open = finishes_keep_open stmt_disk.finish (form.finishes_keep_files plain form.plain_files stmt_disk.ends)

-- that take devices and free them
pub devices_plan_open : PlansKeepOpenFiles stmt_device.plan
devices_plan_open = plans_keep_open stmt_device.plan (λ devices. form.plans_keep_files (stmt_device.works devices))

pub devices_finish_open : FinishesKeepOpenFiles stmt_device.finish
devices_finish_open = finishes_keep_open stmt_device.finish (form.finishes_keep_files on_devices form.devices_files stmt_device.ends)

-- on programs on disks
pub programs_plan_open : PlansKeepOpenFiles stmt_program.plan
programs_plan_open = plans_keep_open stmt_program.plan (λ devices. form.plans_keep_files (stmt_program.works devices))

pub programs_finish_open : FinishesKeepOpenFiles stmt_program.finish
programs_finish_open devices x a me s listed fits h = steered_open devices me (stmt_program.ends x a s.own.lines me) h

-- of control
pub control_plans_open : PlansKeepOpenFiles (λ devices. stmt.plan)
control_plans_open devices me s h =
    let Kept : Planning → Type 0 = λ x. HasOpenFiles devices x.me in
    each_plan me s Kept (λ a may. h) (λ l e. steered_open devices me e h)

pub control_finishes_open : FinishesKeepOpenFiles stmt.finish
control_finishes_open devices x a me s listed fits h = steered_open devices me (stmt.ends_at me.place x a me s) h
