use Rattle.b2_print.proofs.ColumnLemmas.{layout-fits}
use Rattle.b2_print.proofs.laws.law_lines_fit.Goals as goal

pub returns : goal.returns
returns c = layout-fits
