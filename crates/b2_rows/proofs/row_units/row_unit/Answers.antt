use Rattle.std.proofs.Common.{sym, subst}
use Rattle.b2_atom.specs.Words.{Text}
use Rattle.b2_rows.specs.Rows.{tree_at}
use Rattle.b2_rows.specs.Laws.{IsRow}
use Rattle.b2_rows.proofs.LineTrees.{unit_is_row}
use Rattle.b2_rows.proofs.row_units.row_unit.Goals as goal

pub returns-in-Some-clause-whole : goal.returns-in-Some-clause-whole
returns-in-Some-clause-whole c =
    subst (λ (b : Text). IsRow c.in-Some.unit.row b (tree_at c.in-Some.unit.row b)) (sym c.rest.ensures)
    (unit_is_row c.in-Some.unit.row c.in-Some.unit.cursor c.in-Some.ensures.short c.in-Some.ensures.read)
