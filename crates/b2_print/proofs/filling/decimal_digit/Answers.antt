use Rattle.std.proofs.Common.{◌+◌, ◌/◌, ◌%◌, ◌^◌, ap}
use Rattle.b2_print.proofs.DigitLemmas.{size-up}
use Rattle.b2_print.proofs.filling.decimal_digit.Goals as goal

pub returns : goal.returns
returns c =
    rw (c.shifted_digit.ensures, c.coefficient.ensures.value, c.place.ensures.value) (ap (λ t. 48 + t / 10 ^ 111 % 10) (size-up c.args.x c.args.k))
