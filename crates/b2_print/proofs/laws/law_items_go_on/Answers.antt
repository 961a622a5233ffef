use Rattle.b2_print.proofs.ColumnLemmas.{items-go_on}
use Rattle.b2_print.proofs.laws.law_items_go_on.Goals as goal

pub returns : goal.returns
returns c = items-go_on
