use Rattle.std.proofs.Common.{sym, ◌∙◌}
use Rattle.b2_dec.proofs.Rest.{times-step, times-refused}
use Rattle.b2_dec.proofs.powers.multiplied.Goals as goal

pub loop-preserved : goal.loop-preserved
loop-preserved c =
    sym (times-step c.args.mode c.args.a c.loop.product c.get-product.result c.args.n c.loop.counter c.loop-test.true (sym c.product_or_code-next.ensures ∙ c.get-product.ensures))
    ∙ c.loop.invariant

pub returns-then-is_code : goal.returns-then-is_code
returns-then-is_code c =
    sym (times-refused c.args.mode c.args.a c.loop.product c.product_or_code-next.result c.args.n c.loop.counter c.loop-test.true c.product_or_code-next.ensures (sym c.is_code.ensures ∙ c.if-is_code.true))
    ∙ c.loop.invariant
