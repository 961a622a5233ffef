use Rattle.std.proofs.Common.{ap, ◌∙◌, refl}
use Rattle.b2_dectext.specs.Printed.{with_point}
use Rattle.b2_dectext.proofs.Putting.{IsPut-same}
use Rattle.b2_dectext.proofs.LastZeros.{with_point-left}
use Rattle.b2_dectext.proofs.printing.put_plain.Goals as goal

pub returns-then-coef-eq0-clause-text : goal.returns-then-coef-eq0-clause-text
returns-then-coef-eq0-clause-text c =
    IsPut-same _ _ _ _ _ _ (ap (with_point c.args.whole) c.seven.ensures ∙ with_point-left c.args.whole 7 6 c.args.coef c.if-whole-le7.true refl c.if-coef-eq0.true)
    c.put_fixed.ensures.text
