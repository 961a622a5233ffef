use Rattle.std.proofs.Common.{◌≡◌, drop}
use Rattle.b2_print.specs.Columns as spec
use Rattle.b2_print.proofs.columns.column_after.Given as goal

abbrev pub invariant-loop-byte : goal.invariant-loop-byte
invariant-loop-byte l = spec.column_after l.at (drop l.byte-index l.text) ≡ spec.column_after l.column l.text
