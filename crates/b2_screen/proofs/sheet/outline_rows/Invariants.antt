use Rattle.std.proofs.Common.{◌≡◌, length}
use Rattle.b2_screen.specs.Sheet.{outlined_row, each_from}
use Rattle.b2_screen.proofs.Places.{each_partly}
use Rattle.b2_screen.proofs.sheet.outline_rows.Given as goal

-- the rows from here on are still to be drawn
abbrev pub invariant-loop-i : goal.invariant-loop-i
invariant-loop-i l = record {
  height : length l.rows ≡ 24;
  drawn : each_partly (outlined_row l.fn.rectangle) l.i l.rows ≡ each_from (outlined_row l.fn.rectangle) 0 l.fn.rows;
}
