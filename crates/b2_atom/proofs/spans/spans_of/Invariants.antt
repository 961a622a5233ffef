use Rattle.std.proofs.Common.{◌≡◌, ◌-◌, ◌++◌, length, map}
use Rattle.std.specs.List.{All}
use Rattle.b2_atom.specs.Lines.{KeepsRow, KeepsUses, spanned, units_from, units_of, IsEndOf}
use Rattle.b2_atom.proofs.spans.spans_of.Given as goal

-- the units that are found, each with its row and what it uses, and those that stand in what is left, are all
abbrev pub invariant-loop : goal.invariant-loop
invariant-loop l = record {
  left : IsEndOf l.line l.left;
  units : map (spanned l.line) l.spans.items ++ units_from (length l.line - l.counter) l.position l.left ≡ units_of l.line;
  rows : All (KeepsRow l.line) l.spans.items;
  uses : All (KeepsUses l.line) l.spans.items;
}
