use Rattle.std.proofs.Common.{◌≡◌, drop}
use Rattle.b2_print.specs.Columns as spec
use Rattle.b2_print.proofs.columns.passes.Given as goal

abbrev pub invariant-loop-byte : goal.invariant-loop-byte
invariant-loop-byte l = spec.passes l.width l.at (drop l.byte-index l.text) ≡ spec.passes l.width l.column l.text
