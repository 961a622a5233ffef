use Rattle.std.proofs.Common.{◌∙◌, Some, ap}
use Rattle.b2_expr.proofs.Defined.{there_is}
use Rattle.b2_expr.proofs.evaluate.definition_of.Goals as goal

pub returns-in-Some-row_unit-clause-part : goal.returns-in-Some-row_unit-clause-part
returns-in-Some-row_unit-clause-part c =
    there_is c.args.env.now.home.now.lines c.in-Some.spot c.lend-atoms.result c.in-Some-row_unit.unit.bytes.now c.from.result c.args.name
    c.spells_a_line.ensures c.requires.named (ap Some c.lend-atoms.ensures ∙ c.in-Some-line.ensures.atoms) c.from.ensures c.in-Some-row_unit.ensures.bytes c.in-Some.ensures.there
