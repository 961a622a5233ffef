use Rattle.std.proofs.Common.{◌≡◌, length}
use Rattle.b2_term.specs.Orders.{after_in}
use Rattle.b2_term.proofs.orders.after_in.Given as goal

-- those after it in what is left are those after it in the whole order
abbrev pub invariant-loop-left : goal.invariant-loop-left
invariant-loop-left l = after_in l.part l.left ≡ after_in l.part l.fn.order

abbrev pub decreases-loop-left : goal.decreases-loop-left
decreases-loop-left l = length l.left
