-- A statement that is done fast: whose crate it is of, and what it changes.
use Rattle.std.proofs.Common.{◌≡◌, ℕ, ◌||◌, Bool, true, false, List, refl, sym, ap, subst, ◌∙◌, Option, Some, None, is_some}
use Rattle.b2_vars.specs.Globals.{unreached}
use Rattle.b2_access.specs.Found.{IsFound, seen_found, statement_found}
use Rattle.b2_access.specs.Fast.{ChangesFast, DoneFast}
use Rattle.b2_access.specs.Planning.{Planning}
use Rattle.b2_access.specs.declared.devices.Device.{Device}
use Rattle.b2_access.specs.declared.placed.Found.{Found}
use Rattle.b2_access.specs.declared.private.Private.{Private}
use Rattle.b2_stmt.specs.Fast.{planned_fast}
use Rattle.b2_stmt.specs.Plan as stmt
use Rattle.b2_stmt_disk.specs.devices.Plan as stmt_device
use Rattle.b2_stmt_disk.specs.Plan as stmt_disk
use Rattle.b2_stmt_file.specs.Plan as stmt_file
use Rattle.b2_stmt_io.specs.Plan as stmt_io
use Rattle.b2_stmt_mat.specs.Plan as stmt_mat
use Rattle.b2_stmt_pack.specs.Plan as stmt_pack
use Rattle.b2_stmt_disk.specs.programs.Plan as stmt_program
use Rattle.b2_stmt_var.specs.Plan as stmt_var
use Rattle.b2_sched.specs.Choice.{is_built, plan}
use Rattle.b2_sched.proofs.FoundUnits.{control_at_once}

-- one of control, where it was done; where it wasn't, whatever row it is of
pub control_fast : (devices : List Device) (f : Found) (me after : Private) (l : Option (ℕ × ℕ)) → IsFound f f.home.now.lines me → stmt_var.is_built f.unit.now.row ≡ false → (is_some l ≡ true → stmt.is_built f.unit.now.row ≡ true)
    → DoneFast l f me after (planned_fast f me) → DoneFast l f me after (plan devices f.unit.now.row me (seen_found f (unreached None)))
control_fast devices f me after None is other built h = h
control_fast devices f me after (Some l) is other built h =
    subst (λ (p : Planning). DoneFast (Some l) f me after p)
    (control_at_once devices f.place me (seen_found f (unreached None)) f.line.now (statement_found f) (planned_fast f me) is.stands is.line is.statement other (built refl) refl) h

second_built : (a b : Bool) → b ≡ true → (a || b) ≡ true
second_built true b is = refl
second_built false b is = is

pub control_is_built : (r : ℕ) → stmt.is_built r ≡ true → is_built r ≡ true
control_is_built r is =
    ap (λ (b : Bool). b || stmt_io.is_built r || stmt_mat.is_built r || stmt_pack.is_built r || stmt_file.is_built r || stmt_program.is_built r || stmt_device.is_built r || stmt_disk.is_built r)
    (second_built (stmt_var.is_built r) (stmt.is_built r) is)

-- variables, frames and the arguments of a call alone
pub frames_change : (me after : Private) → after ≡ record me { vars = after.vars; stack = after.stack; args = after.args } → ChangesFast me after
frames_change me after h = h ∙ ap (λ d. record me { vars = after.vars; stack = after.stack; args = after.args; next_data = d }) (sym (ap (λ (y : Private). y.next_data) h))

-- variables alone
pub variables_change : (me after : Private) → after ≡ record me { vars = after.vars } → ChangesFast me after
variables_change me after h =
    frames_change me after
    (h ∙ ap (λ s. record me { vars = after.vars; stack = s }) (sym (ap (λ (y : Private). y.stack) h)) ∙ ap (λ a. record me { vars = after.vars; stack = after.stack; args = a }) (sym (ap (λ (y : Private). y.args) h)))
