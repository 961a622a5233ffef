use Rattle.std.proofs.Common.{◌≡◌, ◌++◌, drop, flat_map, true}
use Rattle.std.specs.List.{list_all}
use Rattle.b2_boot.specs.Drills.{is_clerk}
use Rattle.b2_boot.specs.Logs.{key_events}
use Rattle.b2_boot.proofs.drills.push_lines.Given as goal

abbrev pub invariant-loop-clerk : goal.invariant-loop-clerk
invariant-loop-clerk l = (list_all is_clerk (drop l.clerk-index l.clerks) ≡ true) × (l.events.items ++ flat_map (λ i. key_events i l.line) (drop l.clerk-index l.clerks) ≡ l.initial.events.items ++ flat_map (λ i. key_events i l.line) l.clerks)
