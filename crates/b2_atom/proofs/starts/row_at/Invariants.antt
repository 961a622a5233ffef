use Rattle.std.proofs.Common.{◌≡◌, length}
use Rattle.b2_atom.specs.Grammar.{row_at}
use Rattle.b2_atom.proofs.starts.row_at.Given as goal

abbrev pub invariant-loop-left : goal.invariant-loop-left
invariant-loop-left l = row_at l.left l.origin l.position l.text ≡ row_at l.fn.forms l.origin l.position l.text

abbrev pub decreases-loop-left : goal.decreases-loop-left
decreases-loop-left l = length l.left
