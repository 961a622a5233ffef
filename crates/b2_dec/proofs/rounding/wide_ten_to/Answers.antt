use Rattle.std.proofs.Common.{refl, ◌∙◌, arith}
use Rattle.b2_dec.specs.declared.rounding.TheConstants.{WIDE_TENS}
use Rattle.b2_dec.proofs.Tens.{tens_from-at, tens_from}
use Rattle.b2_dec.proofs.rounding.wide_ten_to.Goals as goal

pub returns : goal.returns
unfolding tens_from
returns c = tens_from-at WIDE_TENS 1 c.args.k refl c.requires ∙ omega arith
