use Rattle.std.proofs.Common.{◌≡◌, ◌+◌, ◌-◌, ◌≤◌, ◌++◌, length, drop, min}
use Rattle.b2_print.specs.Images.{pieces_of, fields}
use Rattle.b2_print.specs.Imaged as spec
use Rattle.b2_print.proofs.imaging.image_line.Given as goal

abbrev pub invariant-loop-at : goal.invariant-loop-at
invariant-loop-at l = record {
  within : l.at ≤ length l.image;
  enough : l.used ≤ length l.values;
  text : l.text.items ++ spec.line (pieces_of (drop l.at l.image)) (drop l.used l.values) ≡ l.initial.text.items ++ spec.line (pieces_of l.image) l.values;
  used : l.used + min (length (fields (pieces_of (drop l.at l.image)))) (length l.values - l.used) ≡ min (length (fields (pieces_of l.image))) (length l.values);
}

abbrev pub decreases-loop-at : goal.decreases-loop-at
decreases-loop-at l = length l.image - l.at
