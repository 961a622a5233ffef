use Rattle.std.proofs.Common.{◌≡◌, take}
use Rattle.b2_pack.specs.Rows.{row_bytes}
use Rattle.b2_pack.proofs.rows.write_row.Given as goal

abbrev pub invariant-loop-i : goal.invariant-loop-i
invariant-loop-i l = take l.i l.to ≡ take l.i (row_bytes l.row l.x)
