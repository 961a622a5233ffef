use Rattle.std.proofs.Common.{◌≡◌, ◌*◌, ◌%◌, ◌^◌, ◌<◌}
use Rattle.b2_dec.proofs.rests.rest_of_raised.Given as goal

-- The places that are left lead to the same rest.
abbrev pub invariant-loop-left : goal.invariant-loop-left
invariant-loop-left l = (l.rest < l.y) × (l.rest * 10 ^ l.left % l.y ≡ l.x * 10 ^ l.places % l.y)

abbrev pub decreases-loop-left : goal.decreases-loop-left
decreases-loop-left l = l.left
