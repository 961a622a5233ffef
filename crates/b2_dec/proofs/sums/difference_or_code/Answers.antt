use Rattle.std.proofs.Common.{ap, ◌∙◌, sym, ◌+ℤ◌, ◌^◌}
use Rattle.b2_dec.specs.Number.{value}
use Rattle.b2_dec.specs.Rounding.{rounded}
use Rattle.b2_dec.specs.Arithmetic.{sum_of}
use Rattle.b2_dec.proofs.Signs.{value-opposite, sub-as_add}
use Rattle.b2_dec.proofs.sums.difference_or_code.Goals as goal

pub returns : goal.returns
returns c =
    c.sum_or_code.ensures ∙ ap (sum_of c.args.m c.args.a) c.opposite.ensures
    ∙ ap (λ z. rounded c.args.m z (10 ^ 111)) (ap (λ z. value c.args.a +ℤ z) (value-opposite c.args.b) ∙ sym (sub-as_add (value c.args.a) (value c.args.b)))
