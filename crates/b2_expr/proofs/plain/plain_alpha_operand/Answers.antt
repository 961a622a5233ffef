use Rattle.std.proofs.Common.{sym}
use Rattle.b2_expr.proofs.PlainTexts.{literal_some, variable_some}
use Rattle.b2_expr.proofs.plain.plain_alpha_operand.Goals as goal

pub returns-in-Literal : goal.returns-in-Literal
returns-in-Literal c = literal_some c.args.own.now c.args.text.now c.plain_literal.result c.requires.phrase (sym c.in-Literal.ensures) c.plain_literal.ensures

pub returns-in-Variable : goal.returns-in-Variable
returns-in-Variable c = variable_some c.args.own.now c.args.text.now c.plain_alpha.result c.requires.phrase (sym c.in-Variable.ensures) c.plain_alpha.ensures
