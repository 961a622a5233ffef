-- A partition holds no device twice: a statement that takes or frees devices leaves it so.
use Rattle.std.proofs.Common.{◌≡◌, ◌∙◌, ap, true, List, ℕ}
use Rattle.b2_access.specs.Devices.{are_distinct}
use Rattle.b2_access.specs.declared.accesses.Access.{Access}
use Rattle.b2_access.specs.declared.accesses.Access.TheVariants as access
use Rattle.b2_access.specs.declared.accesses.Answer.{Answer}
use Rattle.b2_access.specs.declared.accesses.Answer.TheVariants as answer
use Rattle.b2_access.proofs.Working.{plans_keep_held}
use Rattle.b2_stmt_disk.specs.devices.Held.{held_after}
use Rattle.b2_stmt_disk.specs.devices.Laws.{DevicesAreHeldOnce}
use Rattle.b2_stmt_disk.specs.devices.Plan.{works}
use Rattle.b2_stmt_disk.proofs.of_devices.HeldLists.{all_once, fewer}

pub once_after : (x : Access) (a : Answer) (held : List (List ℕ)) → are_distinct held ≡ true → are_distinct (held_after x a held) ≡ true
once_after (access.OpenDevices addrs) answer.Done held once = all_once held addrs once
once_after (access.CloseDevices addrs) answer.Done held once = fewer addrs held once
once_after x a held once = once

-- what it plans leaves what is held
pub held_once : DevicesAreHeldOnce
held_once = (
  (λ devices me s once. ap are_distinct (plans_keep_held (works devices) me s).1 ∙ once),
  (λ x a me s once. once_after x a me.held once),
)
