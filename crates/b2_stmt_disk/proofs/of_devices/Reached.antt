-- A statement that takes devices or frees them, or says where PRINT shows, leaves the `@` variables.
use Rattle.std.proofs.Common.{◌≡◌, ◌==◌, ℕ, List, Result, Ok, Err, refl}
use Rattle.b2_atom.specs.declared.rows.TheConstants as row
use Rattle.b2_vars.specs.Globals.{Globals, MayBecome}
use Rattle.b2_expr.proofs.Reached.{stay}
use Rattle.b2_access.specs.Lending.{SeenLent}
use Rattle.b2_access.specs.Planning.{done}
use Rattle.b2_access.specs.Working.{Ends, PlansEachReach, Working, as_planned, ended, globals_after, stops, told_of_globals}
use Rattle.b2_access.specs.declared.devices.Device.{Device}
use Rattle.b2_access.specs.declared.private.Private.{Private}
use Rattle.b2_access.proofs.Choice.{either}
use Rattle.b2_access.proofs.Dispatch.{each_dispatch}
use Rattle.b2_stmt_disk.specs.devices.Plan.{does, is_refused, works}
use Rattle.b2_stmt_disk.specs.devices.Selecting.{device_selected, selected}

-- SELECT PRINT tells nothing of them
pub selected_plans : (r : Result (List ℕ) ℕ) (me : Private) (s : SeenLent) → as_planned me s (Ends (selected r me)) ≡ done s (ended me (selected r me))
selected_plans (Ok a) me s = refl
selected_plans (Err code) me s = refl

selected_stays : (r : Result (List ℕ) ℕ) (me : Private) (g : Globals) → MayBecome g (globals_after (selected r me).work.globals g)
selected_stays (Ok a) me g = stay g
selected_stays (Err code) me g = stay g

pub plans_reach : (devices : List Device) → PlansEachReach (works devices)
plans_reach devices me s =
    let F : Working → Type 0 = λ k. MayBecome s.globals (globals_after (told_of_globals k) s.globals) in
    each_dispatch is_refused stops (does devices me s) me s F (stay s.globals) (stay s.globals) (λ p is u.
    either F (u.row == row.SELECT_PRINT) _ _ (selected_stays (device_selected devices me.part u.tree) me s.globals) (stay s.globals))
