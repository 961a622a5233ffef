use Rattle.b2_matalpha.proofs.Orders.{defined_are_sorted, only_one}
use Rattle.b2_matalpha.proofs.laws.one_order.Goals as goal

pub returns-clause-sorted : goal.returns-clause-sorted
returns-clause-sorted c = defined_are_sorted

pub returns-clause-only : goal.returns-clause-only
returns-clause-only c = only_one
