use Rattle.std.proofs.Common.{◌≡◌, ◌≤◌, ◌+◌, length, map}
use Rattle.b2_atom.specs.Words.{longest}
use Rattle.b2_atom.proofs.words.longest.Given as goal

abbrev pub invariant-loop-left : goal.invariant-loop-left
invariant-loop-left l = record {
  index : longest (map (λ w. w.now) l.left) l.text l.best l.at ≡ longest (map (λ w. w.now) l.fn.table) l.text (0, 0) 0;
  count : l.at + length l.left ≡ length l.fn.table;
  within : l.best.1 ≤ l.at;
}

abbrev pub decreases-loop-left : goal.decreases-loop-left
decreases-loop-left l = length l.left
