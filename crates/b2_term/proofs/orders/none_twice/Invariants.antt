use Rattle.std.proofs.Common.{◌≡◌, length}
use Rattle.b2_term.specs.Orders.{none_twice}
use Rattle.b2_term.proofs.orders.none_twice.Given as goal

-- those that are left decide
abbrev pub invariant-loop-left : goal.invariant-loop-left
invariant-loop-left l = none_twice l.left ≡ none_twice l.fn.parts

abbrev pub decreases-loop-left : goal.decreases-loop-left
decreases-loop-left l = length l.left
