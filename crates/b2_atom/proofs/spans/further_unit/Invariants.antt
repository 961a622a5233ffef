use Rattle.std.proofs.Common.{◌≡◌, ◌<◌, ◌≤◌, ◌-◌, length, map, drop, List, ℕ}
use Rattle.b2_atom.specs.Lines.{spanned, further_unit}
use Rattle.b2_atom.proofs.spans.further_unit.Given as goal

-- the unit that is looked for is none of those before
abbrev pub invariant-loop-unit : goal.invariant-loop-unit
invariant-loop-unit l = record {
  after : l.k < l.unit;
  within : l.unit ≤ length l.units;
  found : (line : List ℕ) → further_unit l.k l.unit (drop l.unit (map (spanned line) l.units)) ≡ further_unit l.k 0 (map (spanned line) l.units);
}

abbrev pub decreases-loop-unit : goal.decreases-loop-unit
decreases-loop-unit l = length l.units - l.unit
