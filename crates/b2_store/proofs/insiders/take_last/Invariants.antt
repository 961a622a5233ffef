use Rattle.std.proofs.Common.{◌≡◌, ◌≤◌, drop, length, false}
use Rattle.b2_access.specs.Borrowers.{is_inside}
use Rattle.b2_store.proofs.insiders.take_last.Given as goal

-- it isn't among those from here on, and none was taken out yet
abbrev pub invariant-loop-place : goal.invariant-loop-place
invariant-loop-place l = (l.parts ≡ l.fn.parts) × (is_inside l.p (drop l.place l.parts.items) ≡ false) × (l.place ≤ length l.parts.items)
