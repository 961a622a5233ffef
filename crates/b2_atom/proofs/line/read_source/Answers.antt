use Rattle.b2_atom.proofs.reading.Codes.{known_stopped}
use Rattle.b2_atom.proofs.line.read_source.Goals as goal

pub returns-in-Err-clause-known : goal.returns-in-Err-clause-known
returns-in-Err-clause-known c = known_stopped c.args.origin c.args.text.now _ c.in-Err.stop c.in-Err.ensures.0
