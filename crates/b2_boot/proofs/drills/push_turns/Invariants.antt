use Rattle.std.proofs.Common.{◌≡◌, ◌≤◌, ◌-◌, ◌++◌}
use Rattle.b2_boot.specs.Drills.{turns}
use Rattle.b2_boot.proofs.drills.push_turns.Given as goal

abbrev pub invariant-loop : goal.invariant-loop
invariant-loop l = (l.x ≤ 65536) × (l.events.items ++ turns (l.count - l.counter) l.x ≡ l.initial.events.items ++ turns l.count l.start)
