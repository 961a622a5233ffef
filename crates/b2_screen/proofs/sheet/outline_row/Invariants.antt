use Rattle.std.proofs.Common.{◌≡◌, ◌+◌, ◌-◌, ◌≤◌, ◌⊎◌, false, length}
use Rattle.b2_screen.specs.Sheet.{is_end, outlined_row, outlined_cell}
use Rattle.b2_screen.proofs.Places.{each_partly}
use Rattle.b2_screen.proofs.sheet.outline_row.Given as goal

-- the cells from here on are still to be drawn
abbrev pub invariant-loop-j : goal.invariant-loop-j
invariant-loop-j l = record {
  width : length l.row ≡ 80;
  low : l.rectangle.column ≤ l.j;
  side : is_end l.rectangle.row l.rectangle.rows l.i ≡ false → (l.j ≡ l.rectangle.column) ⊎ (l.rectangle.column + l.rectangle.columns - 1 ≤ l.j);
  drawn : each_partly (outlined_cell l.rectangle l.i) l.j l.row ≡ outlined_row l.rectangle l.i l.fn.row;
}

abbrev pub decreases-loop-j : goal.decreases-loop-j
decreases-loop-j l = 80 - l.j
