use Rattle.std.proofs.Common.{ℕ, ◌-◌}
use Rattle.b2_datafile.specs.Moving.{Ahead, NoneAhead}
use Rattle.b2_datafile.proofs.moving.forward.Given as goal

-- what is ahead of the place is ahead of the first
abbrev pub invariant-loop-passed : goal.invariant-loop-passed
invariant-loop-passed l = record {
  ahead : (to : ℕ) → Ahead l.p l.e (l.count - l._passed) l.pos to → Ahead l.p l.e l.count l.from to;
  none : NoneAhead l.p l.e (l.count - l._passed) l.pos → NoneAhead l.p l.e l.count l.from;
}
