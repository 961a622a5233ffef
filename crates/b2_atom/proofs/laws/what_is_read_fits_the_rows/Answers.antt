use Rattle.b2_atom.proofs.lines.LineLaws.{read_fits}
use Rattle.b2_atom.proofs.laws.what_is_read_fits_the_rows.Goals as goal

pub returns : goal.returns
returns c = read_fits
