use Rattle.std.proofs.Common.{length}
use Rattle.b2_expr.specs.Scope.{surroundings}
use Rattle.b2_expr.specs.Value.{in_statement}
use Rattle.b2_expr.proofs.Judging.{ConditionOn}
use Rattle.b2_expr.proofs.conditions.truth.Given as goal

-- the comparisons that are left give what all of them do
abbrev pub invariant-loop-word : goal.invariant-loop-word
invariant-loop-word l = ConditionOn (in_statement (surroundings l.e)) l.text l.holds l.left

abbrev pub decreases-loop-word : goal.decreases-loop-word
decreases-loop-word l = length l.left
