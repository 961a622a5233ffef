use Rattle.std.proofs.Common.{◌≡◌, ◌++◌, drop, map, true}
use Rattle.std.specs.List.{list_all}
use Rattle.b2_store.specs.Start.{has_order, idle_row}
use Rattle.b2_store.proofs.start.terminals_of.Given as goal

-- the rows so far, and those that are left, each of which has an order
abbrev pub invariant-loop-terminal : goal.invariant-loop-terminal
invariant-loop-terminal l =
    (list_all has_order (drop l.terminal-index l.terminals) ≡ true) × (l.rows ++ map idle_row (drop l.terminal-index l.terminals) ≡ map idle_row l.terminals)
