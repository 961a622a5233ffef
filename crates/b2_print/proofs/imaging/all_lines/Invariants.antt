use Rattle.std.proofs.Common.{◌≡◌, ◌-◌, ◌≤◌, ◌++◌, length, drop}
use Rattle.b2_print.specs.Images.{pieces_of}
use Rattle.b2_print.specs.Imaged as spec
use Rattle.b2_print.proofs.imaging.all_lines.Given as goal

abbrev pub invariant-loop-used : goal.invariant-loop-used
invariant-loop-used l = record {
  enough : l.used ≤ length l.values;
  text : l.text.items ++ spec.further_lines (pieces_of l.image) 0 (drop l.used l.values) ≡ spec.all_lines (pieces_of l.image) l.values;
}

abbrev pub decreases-loop-used : goal.decreases-loop-used
decreases-loop-used l = length l.values - l.used
