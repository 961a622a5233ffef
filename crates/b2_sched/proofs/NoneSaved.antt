-- All statements but those on data files ask for no record to be saved.
use Rattle.std.proofs.lemmas.Bool.{false≢true}
use Rattle.std.specs.Prelude.{◌≡◌, ℕ, ◌==◌, ◌||◌, true, false, List, ◌∷◌, Option, Some, None, if◌then◌else◌}
use Rattle.b2_atom.specs.Tree.Trees.{Done}
use Rattle.b2_expr.specs.Answers.{◌>>=◌}
use Rattle.b2_access.specs.Lending.{SeenLent}
use Rattle.b2_access.specs.OwnTerminal.{IsAtTerminal}
use Rattle.b2_access.specs.Planning.{Planning}
use Rattle.b2_access.specs.Working.{planned_of, stops}
use Rattle.b2_access.specs.declared.accesses.Access.{Access}
use Rattle.b2_access.specs.declared.accesses.Access.TheVariants as access
use Rattle.b2_access.specs.declared.devices.Device.{Device}
use Rattle.b2_access.specs.declared.planned.Planned.{Planned}
use Rattle.b2_access.specs.declared.planned.Planned.TheVariants as planned
use Rattle.b2_access.specs.declared.private.Private.{Private}
use Rattle.b2_access.proofs.Dispatch.{each_dispatch}
use Rattle.b2_access.proofs.Working.{as_it_comes}
use Rattle.b2_stmt.specs.Plan as stmt
use Rattle.b2_stmt.proofs.EachPlan.{MayAsk, each_plan}
use Rattle.b2_drive.proofs.Asked.{Fits, is_of_drives}
use Rattle.b2_stmt_disk.proofs.of_devices.Planned as stmt_device_planned
use Rattle.b2_stmt_disk.specs.devices.Plan as stmt_device
use Rattle.b2_stmt_disk.proofs.Planned as stmt_disk_planned
use Rattle.b2_stmt_disk.specs.Plan as stmt_disk
use Rattle.b2_stmt_io.specs.Plan as stmt_io
use Rattle.b2_stmt_io.proofs.Planned as stmt_io_planned
use Rattle.b2_stmt_mat.specs.Plan as stmt_mat
use Rattle.b2_stmt_pack.specs.Plan as stmt_pack
use Rattle.b2_stmt_disk.proofs.of_programs.Planned as stmt_program_planned
use Rattle.b2_stmt_disk.proofs.of_programs.Planned.{FitsHere}
use Rattle.b2_stmt_disk.specs.programs.Plan as stmt_program
use Rattle.b2_stmt_var.specs.Plan as stmt_var

-- no record is saved
abbrev pub IsNoSave : Access → Type 0
IsNoSave (access.DataSave slot values) = ⊥
IsNoSave a = Unit {0}

abbrev pub SavesNone : Planned → Type 0
SavesNone (planned.Done o) = Unit {0}
SavesNone (planned.Ask a) = IsNoSave a

-- on variables, arrays and packed fields, which ask for nothing
pub variables_save_none : (me : Private) (s : SeenLent) → SavesNone (stmt_var.plan me s).planned
variables_save_none me s =
    as_it_comes SavesNone me s (stmt_var.works me s) (each_dispatch stmt_var.is_refused stops (stmt_var.does me s) me s (λ w. SavesNone (planned_of w)) tt tt (λ p is u. tt))

pub arrays_save_none : (me : Private) (s : SeenLent) → SavesNone (stmt_mat.plan me s).planned
arrays_save_none me s =
    as_it_comes SavesNone me s (stmt_mat.works me s) (each_dispatch stmt_mat.is_refused stops (stmt_mat.does me s) me s (λ w. SavesNone (planned_of w)) tt tt (λ p is u. tt))

pub packed_save_none : (me : Private) (s : SeenLent) → SavesNone (stmt_pack.plan me s).planned
packed_save_none me s =
    as_it_comes SavesNone me s (stmt_pack.works me s) (each_dispatch stmt_pack.is_refused stops (stmt_pack.does me s) me s (λ w. SavesNone (planned_of w)) tt tt (λ p is u. tt))

-- of control
may_ask_none : (a : Access) → MayAsk a → IsNoSave a
unfolding MayAsk
may_ask_none (access.DataSave slot values) may = may
may_ask_none a may = tt

pub control_saves_none : (me : Private) (s : SeenLent) → SavesNone (stmt.plan me s).planned
control_saves_none me s = each_plan me s (λ (x : Planning). SavesNone x.planned) may_ask_none (λ l e. tt)

-- at the terminal
no_terminal : (t : ℕ) → ◌≡◌ {A = Option ℕ} None (Some t) → ⊥
no_terminal t e = cc

at_terminal_saves_none : (t : ℕ) (a : Access) → IsAtTerminal t a → IsNoSave a
at_terminal_saves_none t (access.DataSave slot values) is = no_terminal t (λ i. (is i).terminal)
at_terminal_saves_none t a is = tt

pub terminal_saves_none : (devices : List Device) (me : Private) (s : SeenLent) → SavesNone (stmt_io.plan devices me s).planned
terminal_saves_none devices me s =
    as_it_comes SavesNone me s (stmt_io.works devices me s)
    (stmt_io_planned.each_planned devices me s SavesNone tt tt (λ code. tt) (λ a is. at_terminal_saves_none me.term a is) (λ addr bytes after is. tt))

-- on disks, on programs on disks, and those that take devices and free them, by the kinds that they ask for
of_drives_save_none : (a : Access) → is_of_drives a ≡ true → IsNoSave a
of_drives_save_none (access.DataSave slot values) is = false≢true is
of_drives_save_none a is = tt

pub devices_save_none : (devices : List Device) (me : Private) (s : SeenLent) → SavesNone (stmt_device.plan devices me s).planned
devices_save_none devices me s =
    as_it_comes SavesNone me s (stmt_device.works devices me s)
    (stmt_device_planned.each_planned devices me s SavesNone tt tt (λ code. tt) (λ a fits. of_drives_save_none a (Fits.kind fits)))

pub disks_save_none : (devices : List Device) (me : Private) (s : SeenLent) → SavesNone (stmt_disk.plan devices me s).planned
disks_save_none devices me s =
    as_it_comes SavesNone me s (stmt_disk.works devices me s)
    (stmt_disk_planned.each_planned devices me s SavesNone tt tt (λ code. tt) (λ a fits stays. of_drives_save_none a (Fits.kind fits)))

pub programs_save_none : (devices : List Device) (me : Private) (s : SeenLent) → SavesNone (stmt_program.plan devices me s).planned
programs_save_none devices me s =
    as_it_comes SavesNone me s (stmt_program.works devices me s)
    (stmt_program_planned.each_planned devices me s SavesNone tt (λ code. tt) (λ a fits stays. of_drives_save_none a (FitsHere.kind fits)))
