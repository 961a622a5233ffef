use Rattle.std.proofs.Common.{◌≡◌, ◌++◌, drop, take, true}
use Rattle.b2_print.specs.Layout.{layout, items_column, are_on_screen}
use Rattle.b2_print.proofs.layout.lay.Given as goal

abbrev pub invariant-loop-item : goal.invariant-loop-item
invariant-loop-item l = record {
  text : l.into.items ++ layout l.width l.at (drop l.item-index l.items) ≡ l.fn.into.items ++ layout l.width l.column l.items;
  column : items_column l.width l.at (drop l.item-index l.items) ≡ items_column l.width l.column l.items;
  on_screen : are_on_screen (drop l.item-index l.items) ≡ true;
  before : take l.before l.into.items ≡ l.fn.into.items;
}
