-- The statements of each crate keep the list of devices: those that take and free devices finish so by the access alone, and all others leave
-- the list and ask for no device to be taken or freed.
use Rattle.std.specs.Prelude.{◌≡◌, ℕ, Bool, true, false, List, [], ◌∷◌, refl}
use Rattle.std.proofs.Common.{sym, ap, subst, ◌∙◌}
use Rattle.std.proofs.lemmas.Bool.{true≢false}
use Rattle.b2_access.specs.AccessRows.{reach}
use Rattle.b2_access.specs.Holding.{holders_changed}
use Rattle.b2_access.specs.Lending.{SeenLent}
use Rattle.b2_access.specs.OwnDevices.{AreListed, IsAtDisk, PlannedListed, is_listed_for}
use Rattle.b2_access.specs.Planning.{Finishing, Planning}
use Rattle.b2_access.specs.Reach.{DevicePart, DeviceReach, HoldFreed, HoldTaken, Reach, WithPlatter, WithPrinter}
use Rattle.b2_access.specs.declared.accesses.Access.{Access}
use Rattle.b2_access.specs.declared.accesses.Access.TheVariants as access
use Rattle.b2_access.specs.declared.accesses.Answer.{Answer}
use Rattle.b2_access.specs.declared.accesses.Answer.TheVariants as answer
use Rattle.b2_access.specs.declared.devices.Device.{Device}
use Rattle.b2_access.specs.declared.planned.Planned.{Planned}
use Rattle.b2_access.specs.declared.planned.Planned.TheVariants as planned
use Rattle.b2_access.specs.declared.private.Private.{Private}
use Rattle.b2_access.proofs.Working.{as_it_comes, plans_keep_held}
use Rattle.b2_stmt.specs.Plan as stmt
use Rattle.b2_stmt.proofs.EachPlan.{each_plan}
use Rattle.b2_stmt_disk.specs.devices.Held.{held_after, with_devices, without_devices}
use Rattle.b2_stmt_disk.specs.devices.Plan as stmt_device
use Rattle.b2_stmt_disk.specs.Plan as stmt_disk
use Rattle.b2_stmt_disk.proofs.Planned as stmt_disk_planned
use Rattle.b2_stmt_file.specs.Plan as stmt_file
use Rattle.b2_stmt_file.proofs.Planned as stmt_file_planned
use Rattle.b2_stmt_io.specs.Plan as stmt_io
use Rattle.b2_stmt_io.proofs.Planned as stmt_io_planned
use Rattle.b2_stmt_mat.specs.Plan as stmt_mat
use Rattle.b2_stmt_pack.specs.Plan as stmt_pack
use Rattle.b2_stmt_disk.specs.programs.Plan as stmt_program
use Rattle.b2_stmt_disk.proofs.of_programs.Planned as stmt_program_planned
use Rattle.b2_stmt_var.specs.Plan as stmt_var
use Rattle.b2_sched.specs.Choice.{basic, family_of, finish_by, plan_by}
use Rattle.b2_sched.specs.Holding.{FinishesByAccess, KeepTheList}
use Rattle.b2_sched.specs.Listed.{arrays_listed, control_listed, packed_listed, variables_listed}
use Rattle.b2_sched.specs.declared.choice.Family.{Family}
use Rattle.b2_sched.specs.declared.choice.Family.TheVariants as family

-- what is planned takes and frees no device
abbrev TakesNone : Planned → Type 0
TakesNone (planned.Done o) = Unit {0}
TakesNone (planned.Ask x) = holders_changed x ≡ []

-- so the list is as it was after it
without_none : (held : List (List ℕ)) → without_devices [] held ≡ held
without_none [] = refl
without_none (a ∷ held) = ap (λ (rest : List (List ℕ)). a ∷ rest) (without_none held)

stays_after : (x : Access) (a : Answer) (held : List (List ℕ)) → holders_changed x ≡ [] → held_after x a held ≡ held
stays_after (access.OpenDevices addrs) answer.Done held none = ap (with_devices held) none
stays_after (access.CloseDevices addrs) answer.Done held none = ap (λ (l : List (List ℕ)). without_devices l held) none ∙ without_none held
stays_after x a held none = refl

-- and one that leaves the list as it finishes finishes by the access
abbrev LeavesTheList : (Access → Answer → Private → SeenLent → Finishing) → Type 0
LeavesTheList finish = (x : Access) (a : Answer) (me : Private) (s : SeenLent) → (finish x a me s).me.held ≡ me.held

finishes_by_it : (finish : Access → Answer → Private → SeenLent → Finishing) → LeavesTheList finish → (p : Planned) → TakesNone p → FinishesByAccess finish p
finishes_by_it finish leaves (planned.Done o) none = tt
finishes_by_it finish leaves (planned.Ask x) none = λ a me s. leaves x a me s ∙ sym (stays_after x a me.held none)

-- ---- accesses that reach no device, or a platter

abbrev holds : DevicePart → Bool
holds HoldTaken = true
holds HoldFreed = true
holds WithPlatter = false
holds WithPrinter = false

abbrev NoneHeld : List DeviceReach → Type 0
NoneHeld [] = Unit {0}
NoneHeld (d ∷ ds) = holds d.part ≡ false

none_changed : (x : Access) → NoneHeld (reach x).devices → holders_changed x ≡ []
none_changed (access.OpenDevices []) none = refl
none_changed (access.OpenDevices (a ∷ addrs)) none = absurd (true≢false none)
none_changed (access.CloseDevices []) none = refl
none_changed (access.CloseDevices (a ∷ addrs)) none = absurd (true≢false none)
none_changed x none = refl

none_at_disk : (addr : List ℕ) (x : Access) → IsAtDisk addr x → holders_changed x ≡ []
none_at_disk addr x is = none_changed x (subst (λ (r : Reach). NoneHeld r.devices) (sym is) refl)

-- where no table lists a device none is reached
nothing_listed : (who : ℕ) (ds : List DeviceReach) → AreListed [] who ds → NoneHeld ds
nothing_listed who [] are = tt
nothing_listed who (d ∷ ds) are = by d.part are.0
  where
    by : (part : DevicePart) → is_listed_for who d.address part [] ≡ true → holds part ≡ false
    by HoldTaken is = absurd (true≢false (sym is))
    by HoldFreed is = absurd (true≢false (sym is))
    by WithPlatter is = refl
    by WithPrinter is = refl

none_planned : (who : ℕ) (p : Planned) → PlannedListed [] who p → TakesNone p
none_planned who (planned.Done o) are = tt
none_planned who (planned.Ask x) are = none_changed x (nothing_listed who (reach x).devices are)

-- ---- each family

-- statements of control leave the list as they plan
control_leaves : (me : Private) (s : SeenLent) → (stmt.plan me s).me.held ≡ me.held
control_leaves me s = each_plan me s (λ (x : Planning). x.me.held ≡ me.held) (λ a may. refl) (λ l e. refl)

plans_leave : (devices : List Device) (f : Family) (me : Private) (s : SeenLent) → (plan_by devices f me s).me.held ≡ me.held
plans_leave devices family.Variables me s = (plans_keep_held stmt_var.works me s).1
plans_leave devices family.Control me s = control_leaves me s
plans_leave devices family.Printing me s = (plans_keep_held (stmt_io.works devices) me s).1
plans_leave devices family.Terminal me s = (plans_keep_held (stmt_io.works devices) me s).1
plans_leave devices family.Arrays me s = (plans_keep_held stmt_mat.works me s).1
plans_leave devices family.Packed me s = (plans_keep_held stmt_pack.works me s).1
plans_leave devices family.Files me s = (plans_keep_held (stmt_file.works devices) me s).1
plans_leave devices family.Programs me s = (plans_keep_held (stmt_program.works devices) me s).1
plans_leave devices family.Devices me s = (plans_keep_held (stmt_device.works devices) me s).1
plans_leave devices family.Disks me s = (plans_keep_held (stmt_disk.works devices) me s).1

-- those at the terminal, on data files, on programs and on disks take and free no device
terminal_takes_none : (devices : List Device) (me : Private) (s : SeenLent) → TakesNone (stmt_io.plan devices me s).planned
terminal_takes_none devices me s =
    as_it_comes TakesNone me s (stmt_io.works devices me s)
    (stmt_io_planned.each_planned devices me s TakesNone tt tt (λ code. tt) (λ a is. none_changed a (subst (λ (r : Reach). NoneHeld r.devices) (sym is) tt)) (λ addr bytes after is. refl))

files_take_none : (devices : List Device) (me : Private) (s : SeenLent) → TakesNone (stmt_file.plan devices me s).planned
files_take_none devices me s =
    as_it_comes TakesNone me s (stmt_file.works devices me s) (stmt_file_planned.each_planned devices me s TakesNone tt (λ p g is. tt) (λ code. tt) (λ addr a listed is legal. none_at_disk addr a is))

programs_take_none : (devices : List Device) (me : Private) (s : SeenLent) → TakesNone (stmt_program.plan devices me s).planned
programs_take_none devices me s = as_it_comes TakesNone me s (stmt_program.works devices me s) (stmt_program_planned.each_planned devices me s TakesNone tt (λ code. tt) (λ a fits stays. stays))

disks_take_none : (devices : List Device) (me : Private) (s : SeenLent) → TakesNone (stmt_disk.plan devices me s).planned
disks_take_none devices me s = as_it_comes TakesNone me s (stmt_disk.works devices me s) (stmt_disk_planned.each_planned devices me s TakesNone tt tt (λ code. tt) (λ a fits stays. stays))

-- those that take and free devices finish by the access, whichever it is
devices_finish : (p : Planned) → FinishesByAccess stmt_device.finish p
devices_finish (planned.Done o) = tt
devices_finish (planned.Ask x) = λ a me s. refl

finish_so : (devices : List Device) (f : Family) (me : Private) (s : SeenLent) → FinishesByAccess (finish_by f) (plan_by devices f me s).planned
finish_so devices family.Variables me s = finishes_by_it stmt_var.finish (λ x a you t. refl) (stmt_var.plan me s).planned (none_planned me.part (stmt_var.plan me s).planned (variables_listed [] me s))
finish_so devices family.Control me s = finishes_by_it stmt.finish (λ x a you t. refl) (stmt.plan me s).planned (none_planned me.part (stmt.plan me s).planned (control_listed [] me s))
finish_so devices family.Printing me s = finishes_by_it stmt_io.finish_printing (λ x a you t. refl) (stmt_io.plan devices me s).planned (terminal_takes_none devices me s)
finish_so devices family.Terminal me s = finishes_by_it stmt_io.finish (λ x a you t. refl) (stmt_io.plan devices me s).planned (terminal_takes_none devices me s)
finish_so devices family.Arrays me s = finishes_by_it stmt_mat.finish (λ x a you t. refl) (stmt_mat.plan me s).planned (none_planned me.part (stmt_mat.plan me s).planned (arrays_listed [] me s))
finish_so devices family.Packed me s = finishes_by_it stmt_pack.finish (λ x a you t. refl) (stmt_pack.plan me s).planned (none_planned me.part (stmt_pack.plan me s).planned (packed_listed [] me s))
finish_so devices family.Files me s = finishes_by_it stmt_file.finish (λ x a you t. refl) (stmt_file.plan devices me s).planned (files_take_none devices me s)
finish_so devices family.Programs me s = finishes_by_it stmt_program.finish (λ x a you t. refl) (stmt_program.plan devices me s).planned (programs_take_none devices me s)
finish_so devices family.Devices me s = devices_finish (stmt_device.plan devices me s).planned
finish_so devices family.Disks me s = finishes_by_it stmt_disk.finish (λ x a you t. refl) (stmt_disk.plan devices me s).planned (disks_take_none devices me s)

pub basic_keeps_the_list : (devices : List Device) → KeepTheList (basic devices)
basic_keeps_the_list devices = record { plans = λ r me s. plans_leave devices (family_of r) me s; finishes = λ r me s. finish_so devices (family_of r) me s }
