use Rattle.std.proofs.Common.{ℕ, ◌-◌, ◌≤◌}
use Rattle.b2_platter.specs.Own.{sectors_of}
use Rattle.b2_datafile.specs.Moving.{Behind, NoneBehind}
use Rattle.b2_datafile.proofs.moving.back.Given as goal

-- what is behind the place is behind the first
abbrev pub invariant-loop-passed : goal.invariant-loop-passed
invariant-loop-passed l = record {
  behind : (to : ℕ) → Behind l.p l.e (l.count - l._passed) l.pos to → Behind l.p l.e l.count l.from to;
  none : NoneBehind l.p l.e (l.count - l._passed) l.pos → NoneBehind l.p l.e l.count l.from;
  within : l.pos ≤ sectors_of l.p;
}
