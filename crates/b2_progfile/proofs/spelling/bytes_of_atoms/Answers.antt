use Rattle.b2_progfile.proofs.Numbers.{line-short}
use Rattle.b2_progfile.proofs.spelling.bytes_of_atoms.Goals as goal

pub returns-clause-short : goal.returns-clause-short
returns-clause-short c = line-short c.args.atoms.now c.bytes.ensures.line
