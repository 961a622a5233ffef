use Rattle.std.proofs.Common.{rules}
use Rattle.b2_dectext.specs.Digits.{digit_bytes}
use Rattle.b2_dectext.specs.Printed.{exponent_shown}
use Rattle.b2_dectext.proofs.printing.exponent_at.Goals as goal

pub returns-then-place-lt99 : goal.returns-then-place-lt99
unfolding exponent_shown digit_bytes
returns-then-place-lt99 c = search rules

pub returns-else-place-lt99 : goal.returns-else-place-lt99
unfolding exponent_shown digit_bytes
returns-else-place-lt99 c = search rules
