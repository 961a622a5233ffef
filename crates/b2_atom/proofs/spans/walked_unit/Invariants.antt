use Rattle.std.proofs.Common.{◌≡◌, ◌-◌, ◌≤◌, length}
use Rattle.std.specs.Prelude.{slice_get}
use Rattle.b2_atom.specs.Lines.{units_from, units_of}
use Rattle.b2_atom.proofs.spans.walked_unit.Given as goal

-- the unit that is looked for is one of those in what is left
abbrev pub invariant-loop-unit : goal.invariant-loop-unit
invariant-loop-unit l = record {
  before : l.unit ≤ l.k;
  found : slice_get (units_from (length l.line - l.unit) l.position l.left) (l.k - l.unit) ≡ slice_get (units_of l.line) l.k;
}
