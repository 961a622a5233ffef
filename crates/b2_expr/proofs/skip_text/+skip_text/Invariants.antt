use Rattle.std.proofs.Common.{◌≡◌, ◌≤◌, ◌+◌, ◌-◌, ◌*◌, true, length}
use Rattle.b2_atom.specs.declared.rows.TheConstants as row
use Rattle.b2_rows.specs.Rows.{after_phrase, is_list, after_list}
use Rattle.b2_rows.specs.Chains.{more_start}
use Rattle.b2_rows.specs.declared.chains.Chain.TheVariants as chain
use Rattle.b2_expr.specs.Further.{are_further, after_further}
use Rattle.b2_expr.proofs.skip_text.+skip_text.Given as goal

-- a shorter text, or the same text and a lower rank
abbrev pub decreases-past_sum : goal.decreases-past_sum
decreases-past_sum l = 20 * length l.text.now + 15

abbrev pub decreases-past_product : goal.decreases-past_product
decreases-past_product l = 20 * length l.text.now + 14

abbrev pub decreases-past_factor : goal.decreases-past_factor
decreases-past_factor l = 20 * length l.text.now + 13

abbrev pub decreases-past_power : goal.decreases-past_power
decreases-past_power l = 20 * length l.text.now + 12

abbrev pub decreases-past_operand : goal.decreases-past_operand
decreases-past_operand l = 20 * length l.text.now + 11

abbrev pub decreases-past_group : goal.decreases-past_group
decreases-past_group l = 20 * length l.text.now + 10

abbrev pub decreases-past_function : goal.decreases-past_function
decreases-past_function l = 20 * length l.text.now + 10

abbrev pub decreases-past_of_one : goal.decreases-past_of_one
decreases-past_of_one l = 20 * length l.text.now + 10

abbrev pub decreases-past_of_two : goal.decreases-past_of_two
decreases-past_of_two l = 20 * length l.text.now + 10

abbrev pub decreases-past_of_more : goal.decreases-past_of_more
decreases-past_of_more l = 20 * length l.text.now + 10

abbrev pub decreases-past_of_alpha : goal.decreases-past_of_alpha
decreases-past_of_alpha l = 20 * length l.text.now + 10

abbrev pub decreases-past_position : goal.decreases-past_position
decreases-past_position l = 20 * length l.text.now + 10

abbrev pub decreases-past_value : goal.decreases-past_value
decreases-past_value l = 20 * length l.text.now + 10

abbrev pub decreases-past_binary : goal.decreases-past_binary
decreases-past_binary l = 20 * length l.text.now + 7

abbrev pub decreases-past_alpha : goal.decreases-past_alpha
decreases-past_alpha l = 20 * length l.text.now + 9

abbrev pub decreases-past_alpha_operand : goal.decreases-past_alpha_operand
decreases-past_alpha_operand l = 20 * length l.text.now + 8

abbrev pub decreases-past_part : goal.decreases-past_part
decreases-past_part l = 20 * length l.text.now + 7

abbrev pub decreases-past_name : goal.decreases-past_name
decreases-past_name l = 20 * length l.text.now + 6

abbrev pub decreases-past_subscripts : goal.decreases-past_subscripts
decreases-past_subscripts l = 20 * length l.text.now + 5

abbrev pub decreases-past_second : goal.decreases-past_second
decreases-past_second l = 20 * length l.text.now + 4

abbrev pub decreases-past_further : goal.decreases-past_further
decreases-past_further l = 20 * length l.text.now + 4

abbrev pub invariant-past_sum-loop-left : goal.invariant-past_sum-loop-left
invariant-past_sum-loop-left l = record {
  list : is_list (more_start chain.Sum) row.ADDEND l.left ≡ true;
  rest : after_list (more_start chain.Sum) row.ADDEND l.left ≡ after_phrase row.SUM l.text;
  shorter : length l.left ≤ length l.text;
}

abbrev pub decreases-past_sum-loop-left : goal.decreases-past_sum-loop-left
decreases-past_sum-loop-left l = length l.left

abbrev pub invariant-past_product-loop-left : goal.invariant-past_product-loop-left
invariant-past_product-loop-left l = record {
  list : is_list (more_start chain.Product) row.MULTIPLIER l.left ≡ true;
  rest : after_list (more_start chain.Product) row.MULTIPLIER l.left ≡ after_phrase row.PRODUCT l.text;
  shorter : length l.left ≤ length l.text;
}

abbrev pub decreases-past_product-loop-left : goal.decreases-past_product-loop-left
decreases-past_product-loop-left l = length l.left

abbrev pub invariant-past_power-loop-left : goal.invariant-past_power-loop-left
invariant-past_power-loop-left l = record {
  list : is_list (more_start chain.Power) row.EXPONENT l.left ≡ true;
  rest : after_list (more_start chain.Power) row.EXPONENT l.left ≡ after_phrase row.POWER l.text;
  shorter : length l.left ≤ length l.text;
}

abbrev pub decreases-past_power-loop-left : goal.decreases-past_power-loop-left
decreases-past_power-loop-left l = length l.left

abbrev pub invariant-past_alpha-loop-left : goal.invariant-past_alpha-loop-left
invariant-past_alpha-loop-left l = record {
  list : is_list (more_start chain.Alpha) row.JOINED l.left ≡ true;
  rest : after_list (more_start chain.Alpha) row.JOINED l.left ≡ after_phrase row.ALPHA l.text;
  shorter : length l.left ≤ length l.text;
}

abbrev pub decreases-past_alpha-loop-left : goal.decreases-past_alpha-loop-left
decreases-past_alpha-loop-left l = length l.left

abbrev pub invariant-past_further-loop : goal.invariant-past_further-loop
invariant-past_further-loop l = record {
  part : are_further (7 - l.counter) l.left ≡ true;
  rest : after_further (7 - l.counter) l.left ≡ after_further 7 l.text;
  shorter : length l.left ≤ length l.text;
}
