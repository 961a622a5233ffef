use Rattle.b2_print.proofs.ColumnLemmas.{zone-ends}
use Rattle.b2_print.proofs.laws.law_zones_end.Goals as goal

pub returns : goal.returns
returns c = zone-ends
