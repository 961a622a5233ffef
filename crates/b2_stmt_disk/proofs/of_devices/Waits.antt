-- A statement that has to wait for a device leaves the partition as it was.
use Rattle.std.proofs.Common.{◌≡◌, refl, ap, true, List, ℕ}
use Rattle.b2_access.specs.AnswerKinds.{delays}
use Rattle.b2_access.specs.Working.{ChangesNothing, on_devices}
use Rattle.b2_access.specs.declared.accesses.Access.{Access}
use Rattle.b2_access.specs.declared.accesses.Access.TheVariants as access
use Rattle.b2_access.specs.declared.accesses.Answer.{Answer}
use Rattle.b2_access.specs.declared.accesses.Answer.TheVariants as answer
use Rattle.b2_stmt_disk.specs.devices.Held.{held_after}
use Rattle.b2_stmt_disk.specs.devices.Plan.{ends}

pub still_held : (x : Access) (a : Answer) (held : List (List ℕ)) → delays a ≡ true → held_after x a held ≡ held
still_held (access.OpenDevices addrs) answer.Done held h = cc
still_held (access.CloseDevices addrs) answer.Done held h = cc
still_held x a held h = refl

pub after_place : ChangesNothing on_devices ends
after_place x a me s h = ap (λ (l : List (List ℕ)). record (on_devices.unchanged me) { more = l }) (still_held x a me.held h)
