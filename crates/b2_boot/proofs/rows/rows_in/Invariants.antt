use Rattle.std.proofs.Common.{◌≡◌, ◌++◌, drop, option_map}
use Rattle.toml.specs.View.{items_view}
use Rattle.b2_boot.specs.Rows.{rows_in}
use Rattle.b2_boot.proofs.rows.rows_in.Given as goal

abbrev pub invariant-loop-item : goal.invariant-loop-item
invariant-loop-item g l = option_map (λ more. l.rows.items ++ more) (rows_in g.R.TableRow.of_table (items_view (drop l.item-index l.items))) ≡ rows_in g.R.TableRow.of_table (items_view l.items)
