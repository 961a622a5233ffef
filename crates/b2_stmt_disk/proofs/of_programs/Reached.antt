-- A statement on programs on disks leaves the `@` variables.
use Rattle.std.proofs.Common.{List}
use Rattle.b2_vars.specs.Globals.{MayBecome}
use Rattle.b2_expr.proofs.Reached.{stay}
use Rattle.b2_access.specs.Working.{PlansEachReach, Working, globals_after, stops, told_of_globals}
use Rattle.b2_access.specs.declared.devices.Device.{Device}
use Rattle.b2_access.proofs.Dispatch.{each_dispatch}
use Rattle.b2_stmt_disk.specs.programs.Plan.{does, is_refused, works}

pub plans_reach : (devices : List Device) → PlansEachReach (works devices)
plans_reach devices me s =
    let F : Working → Type 0 = λ k. MayBecome s.globals (globals_after (told_of_globals k) s.globals) in
    each_dispatch is_refused stops (does devices me s) me s F (stay s.globals) (stay s.globals) (λ p is u. stay s.globals)
