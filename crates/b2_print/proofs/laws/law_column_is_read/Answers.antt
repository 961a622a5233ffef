use Rattle.b2_print.proofs.ReadingLemmas.{layout-read}
use Rattle.b2_print.proofs.laws.law_column_is_read.Goals as goal

pub returns : goal.returns
returns c = layout-read
