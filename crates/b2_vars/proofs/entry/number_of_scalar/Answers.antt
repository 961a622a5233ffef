use Rattle.std.proofs.Common.{arith}
use Rattle.b2_vars.proofs.NameNumbers.{scalar_number, letter_most}
use Rattle.b2_vars.proofs.entry.number_of_scalar.Goals as goal

pub returns-clause-number : goal.returns-clause-number
returns-clause-number c = scalar_number c.args.letter c.args.digit c.from.result c.from-2.result c.from.ensures c.from-2.ensures

pub returns-clause-below : goal.returns-clause-below
returns-clause-below c = omega (arith, letter_most c.args.letter c.requires.letter, c.requires.digit)
