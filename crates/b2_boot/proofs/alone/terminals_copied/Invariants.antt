use Rattle.std.proofs.Common.{◌≡◌, ◌++◌, drop}
use Rattle.b2_boot.proofs.alone.terminals_copied.Given as goal

-- the copies so far, and the terminals that are left
abbrev pub invariant-loop-terminal : goal.invariant-loop-terminal
invariant-loop-terminal l = l.copies.items ++ drop l.terminal-index l.terminals ≡ l.terminals
