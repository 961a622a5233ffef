use Rattle.std.proofs.Common.{arith}
use Rattle.b2_atom.proofs.lines.Units.{few_kept}
use Rattle.b2_atom.proofs.line.LentAtoms.units.Goals as goal

pub returns-clause-few : goal.returns-clause-few
returns-clause-few c =
    let few = few_kept c.self.inside.bytes.now c.self.inside.units.now c.self.invariant in
    omega (arith, few)
