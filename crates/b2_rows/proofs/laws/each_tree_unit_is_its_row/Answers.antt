use Rattle.b2_rows.proofs.Units.{each_tree_unit_is_its_row}
use Rattle.b2_rows.proofs.laws.each_tree_unit_is_its_row.Goals as goal

pub returns : goal.returns
returns c = each_tree_unit_is_its_row
