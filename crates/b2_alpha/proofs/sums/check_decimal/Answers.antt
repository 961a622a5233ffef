use Rattle.std.proofs.Common.{◌≡◌, true, ◌&&◌, length, sym, ap, ◌∙◌}
use Rattle.b2_base.specs.Lexical.{is_decimal}
use Rattle.b2_alpha.specs.Sums.{aligned}
use Rattle.std.specs.List.{list_all}
use Rattle.b2_alpha.proofs.Decimals.{used_decimal}
use Rattle.b2_alpha.proofs.sums.check_decimal.Goals as goal

pub returns-then-all_decimal-2-clause-exact : goal.returns-then-all_decimal-2-clause-exact
returns-then-all_decimal-2-clause-exact c =
    let first : list_all is_decimal c.args.to.now ≡ true = sym c.all_decimal.ensures ∙ c.if-all_decimal.true in
    let used = used_decimal (length c.args.to.now) c.args.from.now in
    let second : list_all is_decimal (aligned (length c.args.to.now) c.args.from.now) ≡ true =
    rw (sym c.min.ensures) at used ∙ sym c.all_decimal-then-all_decimal.ensures ∙ c.if-all_decimal-2.true in
    sym (ap (λ t. t && list_all is_decimal (aligned (length c.args.to.now) c.args.from.now)) first ∙ second)
