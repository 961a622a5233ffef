use Rattle.b2_atom.proofs.lines.LineLaws.{listed_back}
use Rattle.b2_atom.proofs.laws.what_is_listed_is_read_back.Goals as goal

pub returns : goal.returns
returns c = listed_back
