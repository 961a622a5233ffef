use Rattle.b2_atom.proofs.lines.LineLaws.{read_is_line}
use Rattle.b2_atom.proofs.laws.what_is_read_is_a_line.Goals as goal

pub returns : goal.returns
returns c = read_is_line
