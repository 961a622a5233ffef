use Rattle.std.proofs.Common.{◌+◌, ◌%◌, ◌^◌, length, sym, ap, ◌∙◌}
use Rattle.std.specs.List.{list_all}
use Rattle.b2_base.specs.Lexical.{is_decimal}
use Rattle.b2_alpha.specs.Sums.{aligned, decimal_value}
use Rattle.b2_alpha.proofs.Decimals.{all_decimal, second_true}
use Rattle.b2_alpha.proofs.DecimalSums.{decimal_value-difference}
use Rattle.b2_alpha.proofs.sums.dsc.Goals as goal

pub returns-clause-modular : goal.returns-clause-modular
returns-clause-modular c =
    let tests = c.in_ok-check_decimal.ensures.exact in
    ap (λ l. (decimal_value l + decimal_value c.args.from.now) % 100 ^ length c.args.to.now) c.sum_decimals.ensures
    ∙ decimal_value-difference c.args.to.now c.args.from.now
    (all_decimal (aligned (length c.args.to.now) c.args.from.now)
    (second_true (list_all is_decimal c.args.to.now) (list_all is_decimal (aligned (length c.args.to.now) c.args.from.now)) (sym tests)))
