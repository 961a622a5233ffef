use Rattle.std.proofs.Common.{refl, sym, ◌∙◌}
use Rattle.b2_dectext.proofs.Putting.{IsPut-append, IsPut-same, with_point-none, with_point-some}
use Rattle.b2_dectext.proofs.printing.put_fixed.Goals as goal

pub returns-then-is_empty-clause-text : goal.returns-then-is_empty-clause-text
returns-then-is_empty-clause-text c =
    IsPut-same _ _ _ _ _ _
    (with_point-none c.args.whole c.args.digits.now _ _ _ c.split_at.ensures.front c.split_at.ensures.back c.without_last_zeros-fraction.ensures
    (sym c.if-is_empty.true ∙ c.is_empty.ensures))
    c.put-pointed.ensures

pub returns-clause-text : goal.returns-clause-text
returns-clause-text c =
    IsPut-append _ _ _ _ _ _ _ _ _
    (with_point-some c.args.whole c.args.digits.now _ _ _ c.split_at.ensures.front c.split_at.ensures.back c.without_last_zeros-fraction.ensures
    (sym c.if-is_empty.false ∙ c.is_empty.ensures))
    (IsPut-append _ _ _ _ _ _ _ _ _ refl c.put-pointed.ensures c.put-after.ensures) c.put.ensures
