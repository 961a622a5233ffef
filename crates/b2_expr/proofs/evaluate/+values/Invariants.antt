use Rattle.std.proofs.Common.{◌≡◌, ◌≤◌, ◌+◌, ◌-◌, ◌*◌, true, Ok, length}
use Rattle.b2_atom.specs.declared.rows.TheConstants as row
use Rattle.b2_rows.specs.Rows.{is_list, list_at, after_list}
use Rattle.b2_rows.specs.Chains.{more_start}
use Rattle.b2_rows.specs.declared.chains.Chain.TheVariants as chain
use Rattle.b2_expr.specs.Further.{are_further, further_tree, after_further}
use Rattle.b2_expr.specs.Value.{context, extremes, further_text}
use Rattle.b2_expr.specs.declared.operators.Level.TheVariants as level
use Rattle.b2_expr.proofs.Chained.{GoesOn}
use Rattle.b2_expr.proofs.evaluate.+values.Given as goal

-- a call of a function has less room; all else a shorter text, or the same text and a lower rank
abbrev pub decreases-sum : goal.decreases-sum
decreases-sum l = 6000 * l.s.now.room + (20 * length l.text.now + 18)

abbrev pub decreases-product : goal.decreases-product
decreases-product l = 6000 * l.s.now.room + (20 * length l.text.now + 17)

abbrev pub decreases-factors_from : goal.decreases-factors_from
decreases-factors_from l = 6000 * l.s.now.room + (20 * length l.text.now + 16)

abbrev pub decreases-factor : goal.decreases-factor
decreases-factor l = 6000 * l.s.now.room + (20 * length l.text.now + 15)

abbrev pub decreases-power : goal.decreases-power
decreases-power l = 6000 * l.s.now.room + (20 * length l.text.now + 14)

abbrev pub decreases-powers_from : goal.decreases-powers_from
decreases-powers_from l = 6000 * l.s.now.room + (20 * length l.text.now + 13)

abbrev pub decreases-operand : goal.decreases-operand
decreases-operand l = 6000 * l.s.now.room + (20 * length l.text.now + 12)

abbrev pub decreases-other_operand : goal.decreases-other_operand
decreases-other_operand l = 6000 * l.s.now.room + (20 * length l.text.now + 11)

abbrev pub decreases-group : goal.decreases-group
decreases-group l = 6000 * l.s.now.room + (20 * length l.text.now + 10)

abbrev pub decreases-call_at : goal.decreases-call_at
decreases-call_at l = 6000 * l.s.now.room + (20 * length l.text.now + 10)

abbrev pub decreases-of_one_at : goal.decreases-of_one_at
decreases-of_one_at l = 6000 * l.s.now.room + (20 * length l.text.now + 10)

abbrev pub decreases-of_two_at : goal.decreases-of_two_at
decreases-of_two_at l = 6000 * l.s.now.room + (20 * length l.text.now + 10)

abbrev pub decreases-of_more_at : goal.decreases-of_more_at
decreases-of_more_at l = 6000 * l.s.now.room + (20 * length l.text.now + 10)

abbrev pub decreases-of_alpha_at : goal.decreases-of_alpha_at
decreases-of_alpha_at l = 6000 * l.s.now.room + (20 * length l.text.now + 10)

abbrev pub decreases-position_at : goal.decreases-position_at
decreases-position_at l = 6000 * l.s.now.room + (20 * length l.text.now + 10)

abbrev pub decreases-bytes_at : goal.decreases-bytes_at
decreases-bytes_at l = 6000 * l.s.now.room + (20 * length l.text.now + 10)

abbrev pub decreases-variable : goal.decreases-variable
decreases-variable l = 6000 * l.s.now.room + (20 * length l.text.now + 10)

abbrev pub decreases-element : goal.decreases-element
decreases-element l = 6000 * l.s.now.room + (20 * length l.text.now + 9)

abbrev pub decreases-hidden_or_there : goal.decreases-hidden_or_there
decreases-hidden_or_there l = 6000 * l.s.now.room + (20 * length l.text.now + 9)

abbrev pub decreases-alpha : goal.decreases-alpha
decreases-alpha l = 6000 * l.s.now.room + (20 * length l.text.now + 10)

abbrev pub decreases-alpha_operand : goal.decreases-alpha_operand
decreases-alpha_operand l = 6000 * l.s.now.room + (20 * length l.text.now + 7)

abbrev pub decreases-str_part_at : goal.decreases-str_part_at
decreases-str_part_at l = 6000 * l.s.now.room + (20 * length l.text.now + 6)

abbrev pub decreases-binary_at : goal.decreases-binary_at
decreases-binary_at l = 6000 * l.s.now.room + (20 * length l.text.now + 6)

abbrev pub decreases-alpha_variable : goal.decreases-alpha_variable
decreases-alpha_variable l = 6000 * l.s.now.room + (20 * length l.text.now + 6)

abbrev pub decreases-located : goal.decreases-located
decreases-located l = 6000 * l.s.now.room + (20 * length l.text.now + 5)

abbrev pub decreases-subscripts : goal.decreases-subscripts
decreases-subscripts l = 6000 * l.s.now.room + (20 * length l.text.now + 4)

abbrev pub decreases-second : goal.decreases-second
decreases-second l = 6000 * l.s.now.room + (20 * length l.text.now + 3)

abbrev pub decreases-call : goal.decreases-call
decreases-call l = 6000 * l.s.now.room + 9

abbrev pub decreases-further_numbers : goal.decreases-further_numbers
decreases-further_numbers l = 6000 * l.s.now.room + (20 * length l.text.now + 3)

abbrev pub decreases-further_operands : goal.decreases-further_operands
decreases-further_operands l = 6000 * l.s.now.room + (20 * length l.text.now + 9)

-- the number so far and the items that are left give what the whole chain does
abbrev pub invariant-sum-loop-item : goal.invariant-sum-loop-item
invariant-sum-loop-item l = GoesOn (context l.s) level.Sum l.text l.number l.left

abbrev pub decreases-sum-loop-item : goal.decreases-sum-loop-item
decreases-sum-loop-item l = length l.left

abbrev pub invariant-factors_from-loop-item : goal.invariant-factors_from-loop-item
invariant-factors_from-loop-item l = GoesOn (context l.s) level.Product l.text l.number l.left

abbrev pub decreases-factors_from-loop-item : goal.decreases-factors_from-loop-item
decreases-factors_from-loop-item l = length l.left

abbrev pub invariant-powers_from-loop-item : goal.invariant-powers_from-loop-item
invariant-powers_from-loop-item l = GoesOn (context l.s) level.Power l.text l.number l.left

abbrev pub decreases-powers_from-loop-item : goal.decreases-powers_from-loop-item
decreases-powers_from-loop-item l = length l.left

-- the numbers that are left give what all of them do
abbrev pub invariant-further_numbers-loop : goal.invariant-further_numbers-loop
invariant-further_numbers-loop l = record {
  part : are_further (7 - l.counter) l.left ≡ true;
  value : extremes (context l.s) l.word (Ok l.number) (further_tree (7 - l.counter) l.left) ≡ extremes (context l.s) l.word (Ok l.fn.start) (further_tree 7 l.text);
  rest : after_further (7 - l.counter) l.left ≡ after_further 7 l.text;
  shorter : length l.left ≤ length l.text;
}

-- the operands that are left give what all of them do
abbrev pub invariant-further_operands-loop-left : goal.invariant-further_operands-loop-left
invariant-further_operands-loop-left l = record {
  list : is_list (more_start chain.Alpha) row.JOINED l.left ≡ true;
  value : further_text (context l.s) (Ok l.into) (list_at (more_start chain.Alpha) row.JOINED l.left) ≡ further_text (context l.s) (Ok l.fn.into) (list_at (more_start chain.Alpha) row.JOINED l.text);
  rest : after_list (more_start chain.Alpha) row.JOINED l.left ≡ after_list (more_start chain.Alpha) row.JOINED l.text;
  shorter : length l.left ≤ length l.text;
}

abbrev pub decreases-further_operands-loop-left : goal.decreases-further_operands-loop-left
decreases-further_operands-loop-left l = length l.left
